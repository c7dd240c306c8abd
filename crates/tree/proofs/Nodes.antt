-- Node counts: what an insert adds, and that remove and split add none. Assumes nothing.
use mathlib.Core.Path.{◌≡◌, refl, sym, ap, ◌∙◌}
use mathlib.Core.Bool.{Bool, true, false}
use mathlib.Core.List.{[], ◌∷◌, ◌++◌}
use mathlib.Core.Option.{none, some}
use Prim.Native.Nat.{Ordering}
use Prim.Native.Nat.{ℕ, zero, suc, ◌+◌, ◌-◌, ◌/◌, ◌≤◌, ◌<◌, compare}
use native.Mathlib.Omega.{arith}
use lib.ListN.{length, drop, length-drop}
use Rattle.tree.specs.Key.{Key, pick, same, key_ends, label_ends, fork, part}
use Rattle.tree.specs.Map.{Num}
use Rattle.tree.specs.Tree.{Forest, nil, node, Tree, empty, room, nodes_f, nodes_t}
use Rattle.tree.specs.Search.{get_t}
use Rattle.tree.specs.Insert.{chain, leaf, beside, insert_f, insert_t}
use Rattle.tree.specs.Remove.{joins, settle, erase_f, erase_t, remove_t}
use Rattle.tree.specs.Split.{detach_f, leave_f, halves, split_t}
use Rattle.tree.proofs.Order.{less, even, more, cmp, cmp_lt, cmp_gt, cmp_refl}
use Rattle.tree.proofs.Parts.{alike, inside, beyond, apart, parted, starts, not, stripped, strip-short, strip-fork}
use Rattle.tree.proofs.Find.{look, find_f, find_t, find_f_lt, find_f_gt}
use Rattle.tree.proofs.Looks.{get_is_find, find_further, find_nothing}
use Rattle.tree.proofs.InsertFind.{insert_f_lt, insert_f_gt, insert_f-same, insert_f-key_ends, insert_f-label_ends, insert_f-fork}
use Rattle.tree.proofs.RemoveFind.{erase_f_lt, erase_f_gt, erase_f-none, erase_f-here, erase_f-there, removed}
use Rattle.tree.proofs.SplitFind.{detach_f_lt, detach_f_gt, detach_f-same, detach_f-key_ends, detach_f-label_ends, detach_f-fork, leave_f_lt, leave_f_gt, leave_f-same, leave_f-key_ends, leave_f-label_ends, leave_f-fork, AllO, halved}

-- The nodes of a new leaf with n bytes behind the first of its label: 255 bytes in all are one node, 256 are two.
unfoldable pub chain_nodes : ℕ → ℕ
chain_nodes n = n / 255 + 1

chain-nodes : (n a : ℕ) (k : Key) (v : ℕ) (rest : Forest) → length k ≤ n → nodes_f (chain n a k v rest) ≡ chain_nodes (length k) + nodes_f rest
unfolding chain nodes_f chain_nodes
chain-nodes zero a k v rest h = omega arith
chain-nodes (suc n) a k v rest h = go (drop room k) refl (λ y r. chain-nodes n y r v nil)
  where
    left : length (drop room k) ≡ length k - 254
    left = unfold room in (length-drop 254 k)

    go : (o : Key) → drop room k ≡ o → ((y : ℕ) (r : Key) → length r ≤ n → nodes_f (chain n y r v nil) ≡ chain_nodes (length r) + nodes_f nil)
        → nodes_f (chain (suc n) a k v rest) ≡ chain_nodes (length k) + nodes_f rest
    go [] e ih = let m = sym left ∙ ap length e in rw (e, chain) (omega arith)
    go (y ∷ r) e ih = let m = sym left ∙ ap length e in rw (e, chain) (omega (arith, ih y r (omega arith)))

pub leaf-nodes : (a : ℕ) (k : Key) (v : ℕ) (rest : Forest) → nodes_f (leaf a k v rest) ≡ chain_nodes (length k) + nodes_f rest
unfolding leaf
leaf-nodes a k v rest = chain-nodes (length k) a k v rest (omega arith)

-- How many nodes an insert of the key a ∷ k adds
unfoldable pub added_f : Forest → (a : ℕ) (k : Key) → ℕ
added_f nil a k = chain_nodes (length k)
added_f (node b l w kids rest) a k =
    elim (compare a b) [
      | Ordering.lt ↦ chain_nodes (length k)
      | Ordering.eq ↦
          elim (part k l) [
            | same ↦ 0
            | key_ends x r ↦ 1
            | label_ends y r ↦ added_f kids y r
            | fork p y k₁ x l₁ ↦ 1 + chain_nodes (length k₁)
          ]
      | Ordering.gt ↦ added_f rest a k
    ]

unfoldable pub added_t : Tree → Key → ℕ
added_t t [] = 0
added_t t (a ∷ k) = added_f t.kids a k

module _ (b : ℕ) (l : Key) (w : Num) (kids rest : Forest) (a : ℕ) (k : Key) where
  pub added_f_lt : a < b → added_f (node b l w kids rest) a k ≡ chain_nodes (length k)
  unfolding added_f
  added_f_lt h = rw (cmp_lt a b h, added_f)

  pub added_f_gt : b < a → added_f (node b l w kids rest) a k ≡ added_f rest a k
  unfolding added_f
  added_f_gt h = rw (cmp_gt a b h, added_f)

  pub added_f_same : a ≡ b → part k l ≡ same → added_f (node b l w kids rest) a k ≡ 0
  unfolding added_f
  added_f_same h s = rw (h, added_f, cmp_refl b, s)

  pub added_f_key_ends : (x : ℕ) (r : Key) → a ≡ b → part k l ≡ key_ends x r → added_f (node b l w kids rest) a k ≡ 1
  unfolding added_f
  added_f_key_ends x r h s = rw (h, added_f, cmp_refl b, s)

  pub added_f_label_ends : (y : ℕ) (r : Key) → a ≡ b → part k l ≡ label_ends y r → added_f (node b l w kids rest) a k ≡ added_f kids y r
  unfolding added_f
  added_f_label_ends y r h s = rw (h, added_f, cmp_refl b, s)

  pub added_f_fork : (p : Key) (y : ℕ) (k₁ : Key) (x : ℕ) (l₁ : Key) → a ≡ b → part k l ≡ fork p y k₁ x l₁
      → added_f (node b l w kids rest) a k ≡ 1 + chain_nodes (length k₁)
  unfolding added_f
  added_f_fork p y k₁ x l₁ h s = rw (h, added_f, cmp_refl b, s)

-- Insert
beside-nodes : (y : ℕ) (k : Key) (v x : ℕ) (l : Key) (w : Num) (kids : Forest) → ¬ (y ≡ x)
    → nodes_f (beside y k v x l w kids) ≡ chain_nodes (length k) + suc (nodes_f kids)
unfolding beside nodes_f
beside-nodes y k v x l w kids ne =
    elim (cmp y x) [
      | less h e ↦ rw (e, beside) (omega (arith, leaf-nodes y k v (node x l w kids nil)))
      | even h e ↦ absurd (ne h)
      | more h e ↦ rw (e, beside) (omega (arith, leaf-nodes y k v nil))
    ]

insert_f-nodes : (f : Forest) (a : ℕ) (k : Key) (v : ℕ) → nodes_f (insert_f f a k v) ≡ nodes_f f + added_f f a k
unfolding nodes_f
insert_f-nodes nil a k v = unfold insert_f added_f in (omega (arith, leaf-nodes a k v nil))
insert_f-nodes (node b l w kids rest) a k v =
    elim (cmp a b) [
      | less h e ↦ rw (insert_f_lt b l w kids rest a k v h, added_f_lt b l w kids rest a k h) (omega (arith, leaf-nodes a k v (node b l w kids rest)))
      | even h e ↦
          elim (parted k l) [
            | alike i s ↦ rw (insert_f-same b l w kids rest a k v h s, added_f_same b l w kids rest a k h s) (omega arith)
            | inside x r i s ↦ rw (insert_f-key_ends b l w kids rest a k v x r h s, added_f_key_ends b l w kids rest a k x r h s) (omega arith)
            | beyond y r i s ↦ rw (insert_f-label_ends b l w kids rest a k v y r h s, added_f_label_ends b l w kids rest a k y r h s) (omega (arith, insert_f-nodes kids y r v))
            | apart p y k₁ x l₁ i j ne s ↦
                rw (insert_f-fork b l w kids rest a k v p y k₁ x l₁ h s, added_f_fork b l w kids rest a k p y k₁ x l₁ h s)
                (omega (arith, beside-nodes y k₁ v x l₁ w kids ne))
          ]
      | more h e ↦ rw (insert_f_gt b l w kids rest a k v h, added_f_gt b l w kids rest a k h) (omega (arith, insert_f-nodes rest a k v))
    ]

pub insert-nodes : (t : Tree) (k : Key) (v : ℕ) → nodes_t (insert_t t k v) ≡ nodes_t t + added_t t k
unfolding nodes_t insert_t added_t
insert-nodes t [] v = omega arith
insert-nodes t (a ∷ k) v = omega (arith, insert_f-nodes t.kids a k v)

-- A stored key adds none.
added_f_stored : (f : Forest) (a : ℕ) (k : Key) (u : ℕ) → find_f f a k ≡ some u → added_f f a k ≡ 0
added_f_stored nil a k u g = let n : find_f nil a k ≡ none = unfold find_f in refl in cc
added_f_stored (node b l w kids rest) a k u g =
    elim (cmp a b) [
      | less h e ↦ cc (find_f_lt b l w kids rest a k h)
      | even h e ↦
          elim (parted k l) [
            | alike i s ↦ added_f_same b l w kids rest a k h s
            | inside x r i s ↦ cc (find_nothing b l w kids rest a k h (rw i (strip-short k x r)))
            | beyond y r i s ↦ added_f_label_ends b l w kids rest a k y r h s ∙ added_f_stored kids y r u (cc (i, find_further b l w kids rest a y r h))
            | apart p y k₁ x l₁ i j ne s ↦ cc (find_nothing b l w kids rest a k h (rw (i, j) (strip-fork p x l₁ y k₁ ne)))
          ]
      | more h e ↦ added_f_gt b l w kids rest a k h ∙ added_f_stored rest a k u (cc (find_f_gt b l w kids rest a k h))
    ]

pub insert_stored : (t : Tree) (k : Key) (v w : ℕ) → get_t t k ≡ some w → nodes_t (insert_t t k v) ≡ nodes_t t
insert_stored t k v w e = omega (arith, insert-nodes t k v, added k (sym (get_is_find t k) ∙ e))
  where
    added : (k : Key) → find_t t k ≡ some w → added_t t k ≡ 0
    added [] g = unfold added_t in refl
    added (a ∷ k) g = unfold added_t find_t look in (added_f_stored t.kids a k w g)

-- Remove and split
settle-nodes : (b : ℕ) (l : Key) (w : Num) (kids rest : Forest) → nodes_f (settle b l w kids rest) ≤ suc (nodes_f kids + nodes_f rest)
unfolding settle nodes_f
settle-nodes b l (some v) kids rest = omega arith
settle-nodes b l none nil rest = omega arith
settle-nodes b l none (node x r w k nil) rest = go (joins l r)
  where
    go : (t : Bool) → nodes_f (pick t (node b (l ++ x ∷ r) w k rest) (node b l none (node x r w k nil) rest)) ≤ suc (suc (nodes_f k + 0) + nodes_f rest)
    go true = unfold pick in (omega arith)
    go false = unfold pick in (omega arith)
settle-nodes b l none (node x r w k (node c s u j i)) rest = omega arith

erase_f-nodes : (f : Forest) (a : ℕ) (k : Key) → nodes_f (erase_f f a k) ≤ nodes_f f
unfolding nodes_f
erase_f-nodes nil a k = unfold erase_f in (omega arith)
erase_f-nodes (node b l w kids rest) a k =
    elim (cmp a b) [
      | less h e ↦ rw (erase_f_lt b l w kids rest a k h) (omega arith)
      | even h e ↦
          elim (stripped l k) [
            | starts [] i s ↦ rw (erase_f-here b l w kids rest a k h s) (settle-nodes b l none kids rest)
            | starts (y ∷ r) i s ↦ rw (erase_f-there b l w kids rest a k y r h s) (omega (arith, settle-nodes b l w (erase_f kids y r) rest, erase_f-nodes kids y r))
            | not s ↦ rw (erase_f-none b l w kids rest a k h s) (omega arith)
          ]
      | more h e ↦ rw (erase_f_gt b l w kids rest a k h) (omega (arith, erase_f-nodes rest a k))
    ]

pub erase-nodes : (t : Tree) (k : Key) → nodes_t (erase_t t k) ≤ nodes_t t
unfolding nodes_t erase_t
erase-nodes t [] = omega arith
erase-nodes t (a ∷ k) = omega (arith, erase_f-nodes t.kids a k)

pub remove-nodes : (t : Tree) (k : Key) (u : Tree) → remove_t t k ≡ some u → nodes_t u ≤ nodes_t t
remove-nodes t k u e = rw (removed t k u e).tree (erase-nodes t k)

leave_f-nodes : (f : Forest) (a : ℕ) (k : Key) → nodes_f (leave_f f a k) ≤ nodes_f f
unfolding nodes_f
leave_f-nodes nil a k = unfold leave_f in (omega arith)
leave_f-nodes (node b l w kids rest) a k =
    elim (cmp a b) [
      | less h e ↦ rw (leave_f_lt b l w kids rest a k h) (omega arith)
      | even h e ↦
          elim (parted k l) [
            | alike i s ↦ rw (leave_f-same b l w kids rest a k h s) (omega arith)
            | inside x r i s ↦ rw (leave_f-key_ends b l w kids rest a k x r h s) (omega arith)
            | beyond y r i s ↦ rw (leave_f-label_ends b l w kids rest a k y r h s) (omega (arith, settle-nodes b l w (leave_f kids y r) rest, leave_f-nodes kids y r))
            | apart p y k₁ x l₁ i j ne s ↦ rw (leave_f-fork b l w kids rest a k p y k₁ x l₁ h s) (omega arith)
          ]
      | more h e ↦ rw (leave_f_gt b l w kids rest a k h) (omega (arith, leave_f-nodes rest a k))
    ]

-- The detached tree has a root of its own, over at most the forest's nodes.
detach_f-nodes : (f : Forest) (a : ℕ) (k : Key) (n : ℕ) → nodes_f f ≤ n → AllO (λ d. nodes_t d ≤ suc n) (detach_f f a k)
unfolding nodes_f nodes_t
detach_f-nodes nil a k n i = unfold detach_f in tt
detach_f-nodes (node b l w kids rest) a k n i =
    elim (cmp a b) [
      | less h e ↦ rw (detach_f_lt b l w kids rest a k h) tt
      | even h e ↦
          elim (parted k l) [
            | alike j s ↦ rw (detach_f-same b l w kids rest a k h s) (omega arith)
            | inside x r j s ↦ rw (detach_f-key_ends b l w kids rest a k x r h s) (omega arith)
            | beyond y r j s ↦ rw (detach_f-label_ends b l w kids rest a k y r h s) (detach_f-nodes kids y r n (omega arith))
            | apart p y k₁ x l₁ j m ne s ↦ rw (detach_f-fork b l w kids rest a k p y k₁ x l₁ h s) tt
          ]
      | more h e ↦ rw (detach_f_gt b l w kids rest a k h) (detach_f-nodes rest a k n (omega arith))
    ]

pub split_nodes : (t : Tree) (p : Key) (d u : Tree) → split_t t p ≡ halves d u → (nodes_t d ≤ nodes_t t) × (nodes_t u ≤ nodes_t t)
unfolding nodes_t
split_nodes t [] d u e =
    let e' : halves t empty ≡ halves d u = unfold split_t in e in
    let g : t ≡ d = cc in
    let h : empty ≡ u = cc in
    rw (← g, ← h) (omega arith, unfold empty nodes_f in (omega arith))
split_nodes t (a ∷ k) d u e =
    let g = halved t a k d u e in
    (rw g.cut at (detach_f-nodes t.kids a k (nodes_f t.kids) (omega arith)), rw g.left (omega (arith, leave_f-nodes t.kids a k)))
