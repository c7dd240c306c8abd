-- Remove, clear: drop and merge on the way back up.
use Rattle.std.specs.Prelude.{[], ◌∷◌, ◌++◌, Bool, length, leb}
use Rattle.std.proofs.Math.Option.{Option, none, some}
use Prim.Native.Nat.{ℕ, suc, ◌+◌, compare, Ordering}
use Rattle.tree.specs.Key.{Key, pick, strip}
use Rattle.tree.specs.Map.{Num}
use Rattle.tree.specs.Tree.{Forest, nil, node, Tree, empty, room}
use Rattle.tree.specs.Search.{get_t}

-- The label b ∷ l joins with an only child's label x ∷ r if they are at most 255 bytes together.
unfoldable pub joins : (l r : Key) → Bool
joins l r = leb (length l + suc (length r)) room

-- What becomes of a node on the way back up. With neither number nor child it is dropped, and its sibling stands in its
-- place. Without a number and with an only child that brings the joined label to at most 255 bytes, it takes in that
-- child. Any other node stays.
unfoldable pub settle : (b : ℕ) (l : Key) (w : Num) (kids rest : Forest) → Forest
settle b l (some v) kids rest = node b l (some v) kids rest
settle b l none nil rest = rest
settle b l none (node x r w k nil) rest =
    pick (joins l r) (node b (l ++ x ∷ r) w k rest) (node b l none (node x r w k nil) rest)
settle b l none (node x r w k (node c s u j i)) rest = node b l none (node x r w k (node c s u j i)) rest

-- The forest without the number at the key a ∷ k. The key's node and its ancestors are settled, a sibling passed over
-- sideways is not.
unfoldable pub erase_f : Forest → (a : ℕ) (k : Key) → Forest
erase_f nil a k = nil
erase_f (node b l w kids rest) a k =
    elim (compare a b) [
      | Ordering.lt ↦ node b l w kids rest
      | Ordering.eq ↦
          elim (strip l k) [
            | none ↦ node b l w kids rest
            | some r ↦ elim r [ [] ↦ settle b l none kids rest | y ∷ s ↦ settle b l w (erase_f kids y s) rest ]
          ]
      | Ordering.gt ↦ node b l w kids (erase_f rest a k)
    ]

-- The root is never settled: it is not merged with an only child.
unfoldable pub erase_t : Tree → Key → Tree
erase_t t [] = record { num = none; kids = t.kids }
erase_t t (a ∷ k) = record { num = t.num; kids = erase_f t.kids a k }

-- Remove first sees that the key is stored: only then is anything tidied.
unfoldable pub if_stored : Num → Tree → Option Tree
if_stored none t = none
if_stored (some v) t = some t

unfoldable pub remove_t : Tree → Key → Option Tree
remove_t t k = if_stored (get_t t k) (erase_t t k)

-- Clear leaves the empty tree.
unfoldable pub clear_t : Tree → Tree
clear_t t = empty
