-- What a key finds after an insert. Assumes nothing.
use mathlib.Core.Path.{◌≡◌, refl, sym, ap, ◌∙◌, fun_ext}
use mathlib.Core.List.{[], ◌∷◌, append-nil}
use mathlib.Core.Option.{none, some}
use Prim.Native.Nat.{ℕ, zero, suc, ◌<◌}
use native.Mathlib.Omega.{arith}
use lib.ListN.{length, take, drop, take-append-drop}
use Rattle.tree.specs.Key.{Key, Parting, same, key_ends, label_ends, fork, part}
use Rattle.tree.specs.Map.{Num}
use Rattle.tree.specs.Tree.{Forest, nil, node, Tree, Above, room}
use Rattle.tree.specs.Insert.{chain, leaf, beside, insert_f, insert_t}
use Rattle.tree.proofs.Order.{less, even, more, cmp, cmp_lt, cmp_gt, cmp_refl, three}
use Rattle.tree.proofs.Parts.{Parts, parts}
use Rattle.tree.proofs.Find.{look, find_f, find_t, at, upd, upd_f, node_sem, at-append, at_upd, look_node, look_here, look_there, above-none, on-rest, on-node, node-same, nowhere, at_nowhere, look_nil}

-- A new leaf
chain_sem : (n a : ℕ) (k : Key) (v : ℕ) (rest : Forest) → find_f (chain n a k v rest) ≡ find_f (node a k (some v) nil rest)
unfolding chain
chain_sem zero a k v rest = refl
chain_sem (suc n) a k v rest = go (drop room k) refl (λ y r. chain_sem n y r v nil)
  where
    go : (d : Key) → drop room k ≡ d → ((y : ℕ) (r : Key) → find_f (chain n y r v nil) ≡ find_f (node y r (some v) nil nil))
        → find_f (chain (suc n) a k v rest) ≡ find_f (node a k (some v) nil rest)
    go [] e ih = rw (e, chain)
    go (y ∷ r) e ih =
        rw (e, chain)
        (node-same a k (some v) nil (take room k) none (chain n y r v nil) rest
        (cc (ih y r, look_node y r (some v) nil, at-append (take room k) (y ∷ r) (look (some v) (find_f nil)), take-append-drop room k, e)))

leaf-map : (k : Key) (v : Num) → at k (look v (find_f nil)) ≡ upd k v nowhere
leaf-map k v = cc (look_here v none (find_f nil), look_nil, at_upd [] v nowhere k, append-nil k, at_nowhere k)

pub leaf_sem : (a : ℕ) (k : Key) (v : ℕ) (f : Forest) → Above a f → find_f (leaf a k v f) ≡ upd_f a k (some v) (find_f f)
unfolding leaf three upd_f upd nowhere
leaf_sem a k v f h = chain_sem (length k) a k v f ∙ fun_ext λ c. fun_ext λ q.
    elim (cmp c a) [
      | less i e ↦ rw (node_sem a k (some v) nil f, e) (sym (above-none a f h c q (omega arith)))
      | even i e ↦ rw (node_sem a k (some v) nil f, e, above-none a f h c q (omega arith)) (ap (λ (m : Key → Num). m q) (leaf-map k (some v)))
      | more i e ↦ rw (node_sem a k (some v) nil f, e)
    ]

-- Insert
pub beside_sem : (y : ℕ) (k : Key) (v x : ℕ) (l : Key) (w : Num) (kids : Forest) → ¬ (y ≡ x)
    → find_f (beside y k v x l w kids) ≡ upd_f y k (some v) (find_f (node x l w kids nil))
unfolding beside
beside_sem y k v x l w kids ne =
    elim (cmp y x) [
      | less h e ↦ rw (e, beside) (leaf_sem y k v (node x l w kids nil) h)
      | even h e ↦ absurd (ne h)
      | more h e ↦ rw (e, beside) (on-rest x l w kids (leaf y k v nil) nil y k (some v) h (leaf_sem y k v nil tt))
    ]

module _ (b : ℕ) (l : Key) (w : Num) (kids rest : Forest) (a : ℕ) (k : Key) (v : ℕ) where
  pub insert_f_lt : a < b → insert_f (node b l w kids rest) a k v ≡ leaf a k v (node b l w kids rest)
  unfolding insert_f
  insert_f_lt h = rw (cmp_lt a b h, insert_f)

  pub insert_f_gt : b < a → insert_f (node b l w kids rest) a k v ≡ node b l w kids (insert_f rest a k v)
  unfolding insert_f
  insert_f_gt h = rw (cmp_gt a b h, insert_f)

  pub insert_f-same : a ≡ b → part k l ≡ same → insert_f (node b l w kids rest) a k v ≡ node b l (some v) kids rest
  unfolding insert_f
  insert_f-same h s = rw (h, insert_f, cmp_refl b, s)

  pub insert_f-key_ends : (x : ℕ) (r : Key) → a ≡ b → part k l ≡ key_ends x r → insert_f (node b l w kids rest) a k v ≡ node b k (some v) (node x r w kids nil) rest
  unfolding insert_f
  insert_f-key_ends x r h s = rw (h, insert_f, cmp_refl b, s)

  pub insert_f-label_ends : (y : ℕ) (r : Key) → a ≡ b → part k l ≡ label_ends y r → insert_f (node b l w kids rest) a k v ≡ node b l w (insert_f kids y r v) rest
  unfolding insert_f
  insert_f-label_ends y r h s = rw (h, insert_f, cmp_refl b, s)

  pub insert_f-fork : (p : Key) (y : ℕ) (k₁ : Key) (x : ℕ) (l₁ : Key) → a ≡ b → part k l ≡ fork p y k₁ x l₁
      → insert_f (node b l w kids rest) a k v ≡ node b p none (beside y k₁ v x l₁ w kids) rest
  unfolding insert_f
  insert_f-fork p y k₁ x l₁ h s = rw (h, insert_f, cmp_refl b, s)

  ins_eq : a ≡ b → ((y : ℕ) (r : Key) → find_f (insert_f kids y r v) ≡ upd_f y r (some v) (find_f kids)) → (s : Parting) → part k l ≡ s → Parts k l s
      → find_f (insert_f (node b l w kids rest) a k v) ≡ upd_f a k (some v) (find_f (node b l w kids rest))
  unfolding Parts
  ins_eq h ih same e p = rw (insert_f-same h e, h) (on-node b l w kids l (some v) kids rest k (some v) (cc (look_here (some v) w (find_f kids), at_upd [] (some v) (look w (find_f kids)) l, append-nil l)))
  ins_eq h ih (key_ends x r) e p =
      rw (insert_f-key_ends x r h e, h) (on-node b l w kids k (some v) (node x r w kids nil) rest k (some v)
      (cc (look_here (some v) none (find_f (node x r w kids nil)), at_upd [] (some v) (look none (find_f (node x r w kids nil))) k, append-nil k, look_node x r w kids, at-append k (x ∷ r) (look w (find_f kids)))))
  ins_eq h ih (label_ends y r) e p =
      rw (insert_f-label_ends y r h e, h) (on-node b l w kids l w (insert_f kids y r v) rest k (some v) (cc (ih y r, look_there y r (some v) w (find_f kids), at_upd (y ∷ r) (some v) (look w (find_f kids)) l)))
  ins_eq h ih (fork p y k₁ x l₁) e d =
      rw (insert_f-fork p y k₁ x l₁ h e, h) (on-node b l w kids p none (beside y k₁ v x l₁ w kids) rest k (some v)
      (cc (
        beside_sem y k₁ v x l₁ w kids d.2,
        look_there y k₁ (some v) none (find_f (node x l₁ w kids nil)),
        at_upd (y ∷ k₁) (some v) (look none (find_f (node x l₁ w kids nil))) p,
        look_node x l₁ w kids,
        at-append p (x ∷ l₁) (look w (find_f kids)),
      )))

pub insert_f_sem : (f : Forest) (a : ℕ) (k : Key) (v : ℕ) → find_f (insert_f f a k v) ≡ upd_f a k (some v) (find_f f)
unfolding insert_f
insert_f_sem nil a k v = leaf_sem a k v nil tt
insert_f_sem (node b l w kids rest) a k v =
    elim (cmp a b) [
      | less h e ↦ rw (insert_f_lt b l w kids rest a k v h) (leaf_sem a k v (node b l w kids rest) h)
      | even h e ↦ ins_eq b l w kids rest a k v h (λ y r. insert_f_sem kids y r v) (part k l) refl (parts k l)
      | more h e ↦ rw (insert_f_gt b l w kids rest a k v h) (on-rest b l w kids (insert_f rest a k v) rest a k (some v) h (insert_f_sem rest a k v))
    ]

pub insert_t_sem : (t : Tree) (k : Key) (v : ℕ) → find_t (insert_t t k v) ≡ upd k (some v) (find_t t)
unfolding insert_t find_t
insert_t_sem t [] v = look_here (some v) t.num (find_f t.kids)
insert_t_sem t (a ∷ k) v = cc (insert_f_sem t.kids a k v, look_there a k (some v) t.num (find_f t.kids))
