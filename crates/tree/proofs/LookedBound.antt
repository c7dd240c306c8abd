-- How many nodes a search looks at. Siblings have strictly ascending first bytes below 256, so at most 256 of one list
-- are looked at, and each further list has used up at least one byte of the key. Assumes nothing.
use mathlib.Core.Path.{◌≡◌, ap}
use mathlib.Core.List.{[], ◌∷◌}
use Prim.Native.Nat.{ℕ, suc, ◌+◌, ◌*◌, ◌-◌, ◌≤◌, ◌<◌}
use native.Mathlib.Omega.{arith}
use lib.ListN.{length, length-append}
use Rattle.tree.specs.Key.{Key}
use Rattle.tree.specs.Tree.{Forest, nil, node, Tree, Above, Wf, WellFormed}
use Rattle.tree.specs.Search.{looks_f, looks_t, looked_t}
use Rattle.tree.proofs.Order.{less, even, more, cmp}
use Rattle.tree.proofs.Parts.{alike, inside, beyond, apart, parted}
use Rattle.tree.proofs.Looks.{looks_lt, looks_gt, looks_same, looks_key_ends, looks_label_ends, looks_fork}

-- The first sibling, and so every one, begins at x or above.
abbrev From : ℕ → Forest → Type 0
From x nil = Unit {0}
From x (node b l w kids rest) = x ≤ b

from_next : (b : ℕ) (f : Forest) → Above b f → From (suc b) f
from_next b nil h = tt
from_next b (node c l w kids rest) h = omega arith

from_zero : (f : Forest) → From 0 f
from_zero nil = tt
from_zero (node b l w kids rest) = omega arith

looks_bound : (f : Forest) (s x d c : ℕ) (q : Key) → Wf s f → From x f → length (looks_f d f c q) ≤ (256 - x) + 256 * length q
looks_bound nil s x d c q h i = unfold looks_f in (omega arith)
looks_bound (node b l w kids rest) s x d c q h i =
    let byte : b < 256 = h.byte in
    elim (cmp c b) [
      | less j e ↦ rw (looks_lt d b l w kids rest c q j) (omega arith)
      | even j e ↦
          elim (parted q l) [
            | alike m o ↦ rw (looks_same d b l w kids rest c q j o) (omega arith)
            | inside y r m o ↦ rw (looks_key_ends d b l w kids rest c q y r j o) (omega arith)
            | beyond y r m o ↦
                let n : length q ≡ length l + suc (length r) = simp length-append at (ap length m) in
                let below = looks_bound kids (s + suc (length l)) 0 (d + suc (length l)) y r h.wkids (from_zero kids) in
                rw (looks_label_ends d b l w kids rest c q y r j o) (omega arith)
            | apart p y k z r m n ne o ↦ rw (looks_fork d b l w kids rest c q p y k z r j o) (omega arith)
          ]
      | more j e ↦
          let younger = looks_bound rest s (suc b) d c q h.wrest (from_next b rest h.above) in
          rw (looks_gt d b l w kids rest c q j) (omega arith)
    ]

pub looked_bound : (t : Tree) → WellFormed t → (k : Key) → looked_t t k ≤ 1 + 256 * length k
unfolding looked_t looks_t
looked_bound t h [] = omega arith
looked_bound t h (c ∷ q) = let n = looks_bound t.kids 0 0 0 c q h (from_zero t.kids) in omega arith
