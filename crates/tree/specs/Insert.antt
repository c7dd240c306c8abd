-- Insert: cut and chain. It never merges.
use Rattle.std.specs.Prelude.{[], ◌∷◌, length, take, drop}
use Rattle.std.proofs.Math.Option.{none, some}
use Prim.Native.Nat.{ℕ, zero, suc, compare, Ordering}
use Rattle.tree.specs.Key.{Key, same, key_ends, label_ends, fork, part}
use Rattle.tree.specs.Map.{Num}
use Rattle.tree.specs.Tree.{Forest, nil, node, Tree, room}

-- A new node for the bytes a ∷ k with the number v, before the siblings rest. A label over 255 bytes becomes 255 bytes
-- without a number, over the rest treated again in that way. n bounds the repeats; the length of k is enough.
unfoldable pub chain : (n : ℕ) (a : ℕ) (k : Key) (v : ℕ) (rest : Forest) → Forest
chain zero a k v rest = node a k (some v) nil rest
chain (suc n) a k v rest =
    elim (drop room k) [ [] ↦ node a k (some v) nil rest | y ∷ r ↦ node a (take room k) none (chain n y r v nil) rest ]

unfoldable pub leaf : ℕ → Key → ℕ → Forest → Forest
leaf a k v rest = chain (length k) a k v rest

-- A new node beside the lower part of a cut one, in the order of their first bytes, which differ
unfoldable pub beside : (y : ℕ) (k : Key) (v : ℕ) (x : ℕ) (l : Key) (w : Num) (kids : Forest) → Forest
beside y k v x l w kids =
    elim (compare y x) [
      | Ordering.lt ↦ leaf y k v (node x l w kids nil)
      | Ordering.eq ↦ nil
      | Ordering.gt ↦ node x l w kids (leaf y k v nil)
    ]

-- A key that ends or diverges inside a label cuts it there; the lower part keeps number and children.
unfoldable pub insert_f : Forest → (a : ℕ) (k : Key) (v : ℕ) → Forest
insert_f nil a k v = leaf a k v nil
insert_f (node b l w kids rest) a k v =
    elim (compare a b) [
      | Ordering.lt ↦ leaf a k v (node b l w kids rest)
      | Ordering.eq ↦
          elim (part k l) [
            | same ↦ node b l (some v) kids rest
            | key_ends x r ↦ node b k (some v) (node x r w kids nil) rest
            | label_ends y r ↦ node b l w (insert_f kids y r v) rest
            | fork p y k₁ x l₁ ↦ node b p none (beside y k₁ v x l₁ w kids) rest
          ]
      | Ordering.gt ↦ node b l w kids (insert_f rest a k v)
    ]

unfoldable pub insert_t : Tree → Key → ℕ → Tree
insert_t t [] v = record { num = some v; kids = t.kids }
insert_t t (a ∷ k) v = record { num = t.num; kids = insert_f t.kids a k v }
