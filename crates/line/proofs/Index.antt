-- The first of a run is the first that passes the test of being it. Assumes nothing.
use Rattle.std.proofs.Common.{◌≡◌, ℕ, suc, ◌+◌, ◌≤◌, true, false, cond, not, ◌==◌, List, [], ◌∷◌, length, refl, arith, nat_eq, Option}
use Rattle.std.specs.List.{position, position_or_len}
use Rattle.std.specs.Option.{unwrap_or}
use Rattle.std.proofs.lemmas.Grind.{common_steps}
use Rattle.std.proofs.lemmas.Bool.Decides.{nat_tests}
use Rattle.std.proofs.lemmas.List.Sums.{prefix_len-le-length}
use Rattle.line.specs.Spelling.{index_of}

pub index_is : (b : ℕ) (s : List ℕ) → index_of b s ≡ position_or_len (λ x. x == b) s
unfolding index_of
index_is b [] = refl
index_is b (x ∷ s) = rw (index_is b s) (elim (nat_eq x b) as (λ t. cond t 0 (suc (position_or_len (λ y. y == b) s)) ≡ cond (not t) (1 + position_or_len (λ y. y == b) s) 0) [ true ↦ refl | false ↦ omega arith ])

pub found : (b : ℕ) (s : List ℕ) (o : Option ℕ) → o ≡ position (λ x. x == b) s → (unwrap_or o (length s) ≡ index_of b s) × (unwrap_or o (length s) ≤ length s)
found b s o e = rw (e, index_is b s) (grind (arith, common_steps, nat_tests, prefix_len-le-length (λ x. not (x == b)) s))
