-- Split by a prefix: the tree that is detached, and the tree that is left.
use Rattle.std.specs.Prelude.{[], ◌∷◌}
use Rattle.std.proofs.Math.Option.{Option, none, some}
use Prim.Native.Nat.{ℕ, compare, Ordering}
use Rattle.tree.specs.Key.{Key, same, key_ends, label_ends, fork, part}
use Rattle.tree.specs.Tree.{Forest, nil, node, Tree, empty}
use Rattle.tree.specs.Remove.{settle}

-- The detached node keeps the rest of its label; if that rest is not empty, an empty root is put over it.
unfoldable pub detach_f : Forest → (a : ℕ) (k : Key) → Option Tree
detach_f nil a k = none
detach_f (node b l w kids rest) a k =
    elim (compare a b) [
      | Ordering.lt ↦ none
      | Ordering.eq ↦
          elim (part k l) [
            | same ↦ some (record { num = w; kids = kids })
            | key_ends x r ↦ some (record { num = none; kids = node x r w kids nil })
            | label_ends y r ↦ detach_f kids y r
            | fork p y k₁ x l₁ ↦ none
          ]
      | Ordering.gt ↦ detach_f rest a k
    ]

-- The cut-off node's younger sibling takes its place; from the parent upwards the nodes are settled, as in remove.
unfoldable pub leave_f : Forest → (a : ℕ) (k : Key) → Forest
leave_f nil a k = nil
leave_f (node b l w kids rest) a k =
    elim (compare a b) [
      | Ordering.lt ↦ node b l w kids rest
      | Ordering.eq ↦
          elim (part k l) [
            | same ↦ rest
            | key_ends x r ↦ rest
            | label_ends y r ↦ settle b l w (leave_f kids y r) rest
            | fork p y k₁ x l₁ ↦ node b l w kids rest
          ]
      | Ordering.gt ↦ node b l w kids (leave_f rest a k)
    ]

-- What a split gives: nothing where no stored key starts with the prefix, or both trees
pub data Halves : Type 0 where
  absent : Halves
  halves : (detached left : Tree) → Halves

unfoldable pub with : Option Tree → Tree → Halves
with none u = absent
with (some d) u = halves d u

-- The empty prefix detaches the whole tree and leaves an empty one.
unfoldable pub split_t : Tree → Key → Halves
split_t t [] = halves t empty
split_t t (a ∷ k) = with (detach_f t.kids a k) (record { num = t.num; kids = leave_f t.kids a k })
