-- What a flag byte keeps for itself, and the rules on it: no pair is 2. Assumes nothing.
use mathlib.Core.Path.{◌≡◌}
use Prim.Native.Nat.{ℕ, ◌/◌, ◌%◌, ◌≤◌}
use native.Mathlib.Omega.{arith}
use Rattle.tree.specs.Told.{Told}
use Rattle.tree.specs.Reader.{has_sibling, below, flag_rules}
use Rattle.tree.proofs.Judge.{All}
use Rattle.tree.proofs.ReaderRules.{Allocated}

-- A pair of bits that is not 2 has its upper bit only where it has its lower one.
pair-kept : (g : ℕ) → (g % 4 ≡ 2 → ⊥) → g / 2 % 2 ≤ g % 2
pair-kept g h = omega arith

module _ (f : ℕ) where
  pub none_two : f ≤ 63 → (f % 4 ≡ 2 → ⊥) → (f / 4 % 4 ≡ 2 → ⊥) → (f / 16 ≡ 2 → ⊥) → Allocated f
  none_two u n c s =
      let eighths : f / 4 / 2 ≡ f / 8 = omega arith in
      let halves : f / 16 / 2 ≡ f / 32 = omega arith in
      record {
        unused = u;
        number = pair-kept f n;
        child = rw eighths at (pair-kept (f / 4) c);
        sibling = rw halves at (pair-kept (f / 16) (λ e. s (omega arith)));
      }

  -- and such a pair breaks its rule
  pub two_breaks : (level : ℕ) (x : Told) → All (flag_rules f level x) → (f % 4 ≡ 2 → ⊥) × (f / 4 % 4 ≡ 2 → ⊥) × (f / 16 ≡ 2 → ⊥)
  two_breaks level x h =
      let p : Allocated f = omega (arith, h) in
      let eighths : f / 4 / 2 ≡ f / 8 = omega arith in
      let halves : f / 16 / 2 ≡ f / 32 = omega arith in
      (λ e. omega (arith, p.number), λ e. omega (arith, p.child, eighths), λ e. omega (arith, p.sibling, halves))

  pub rules_hold : (level : ℕ) (x : Told) → Allocated f → has_sibling f ≤ below level → All (flag_rules f level x)
  rules_hold level x p s = (p.unused, (p.number, (p.child, (p.sibling, (s, tt)))))
