-- Cases of the order of two numbers, and a turn of the loop that copies a run. Assumes nothing.
use mathlib.Core.Path.{◌≡◌, ◌∙◌}
use mathlib.Core.List.{List}
use Prim.Native.Nat.{ℕ, ◌+◌, ◌<◌, ◌≤◌}
use native.Mathlib.Omega.{arith}
use native.Mathlib.Decide.{dec_lt}
use lib.ListN.{length, get_or, set, length-set}
use lib.Seq.{get_or-set_same, get_or-set_other, ext_get_or}

pub by_lt : {C : Type 0} (a b : ℕ) → (a < b → C) → (b ≤ a → C) → C
by_lt a b f g = elim (dec_lt a b) [ yes p ↦ f p | no n ↦ g (omega arith) ]

pub by_eq : {C : Type 0} (a b : ℕ) → (a ≡ b → C) → ((a ≡ b → ⊥) → C) → C
by_eq a b f g = by_lt a b (λ l. g (λ e. omega arith)) (λ l. by_lt b a (λ m. g (λ e. omega arith)) (λ m. f (omega arith)))

-- A copy: the places below i are those of the source.
pub record Filled (vs from : List ℕ) (i : ℕ) : Type 0 where
  pub len : length vs ≡ length from
  pub below : (j : ℕ) → j < i → get_or vs j 0 ≡ get_or from j 0

pub fill_none : (vs from : List ℕ) → length vs ≡ length from → Filled vs from 0
fill_none vs from e = record { len = e; below = λ j h. absurd (omega arith) }

pub fill_step : (vs from : List ℕ) (i : ℕ) → i < length vs → Filled vs from i → Filled (set vs i (get_or from i 0)) from (i + 1)
fill_step vs from i h s =
    let v = get_or from i 0 in
    record {
      len = length-set vs i v ∙ s.len;
      below = λ j l.
          by_eq j i
          (λ e. rw e (get_or-set_same vs i v 0 h))
          (λ n. get_or-set_other vs i j v 0 n ∙ s.below j (by_lt j i (λ m. m) (λ m. absurd (n (omega arith)))));
    }

pub fill_done : (vs from : List ℕ) (i : ℕ) → length vs ≤ i → Filled vs from i → vs ≡ from
fill_done vs from i h s = ext_get_or 0 vs from s.len (λ j l. s.below j (omega arith))
