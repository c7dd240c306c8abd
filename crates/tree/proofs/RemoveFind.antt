-- What a key finds after a remove. Assumes nothing.
use mathlib.Core.Path.{◌≡◌, refl, sym, ap, ◌∙◌, fun_ext}
use mathlib.Core.Bool.{Bool, true, false}
use mathlib.Core.List.{[], ◌∷◌, ◌++◌, append-nil}
use mathlib.Core.Option.{Option, none, some}
use Prim.Native.Nat.{ℕ, ◌<◌}
use native.Mathlib.Omega.{arith}
use Rattle.tree.specs.Key.{Key, pick, strip}
use Rattle.tree.specs.Map.{Num}
use Rattle.tree.specs.Tree.{Forest, nil, node, Tree, Above}
use Rattle.tree.specs.Remove.{joins, settle, erase_f, erase_t, if_stored, remove_t}
use Rattle.tree.proofs.Order.{less, even, more, cmp, cmp_lt, cmp_gt, cmp_refl, three, none-some}
use Rattle.tree.proofs.Parts.{strip-some}
use Rattle.tree.proofs.Find.{under, look, find_f, find_t, at, upd, upd_f, node_sem, at-append, at_upd, look_node, look_here, look_there, look_nil, at_nowhere, nowhere, above-none, on-rest, on-node, node-same, upd_same}
use Rattle.tree.proofs.Looks.{get_is_find}
use Rattle.tree.proofs.Shapes.{Rising}

-- A node with nothing in it finds nothing
gone : (b : ℕ) (l : Key) (rest : Forest) → Above b rest → find_f (node b l none nil rest) ≡ find_f rest
unfolding three nowhere
gone b l rest h = fun_ext λ c. fun_ext λ q.
    elim (cmp c b) [
      | less i e ↦ rw (node_sem b l none nil rest, e) (sym (above-none b rest h c q (omega arith)))
      | even i e ↦ rw (node_sem b l none nil rest, e, look_nil, at_nowhere) (sym (above-none b rest h c q (omega arith)))
      | more i e ↦ rw (node_sem b l none nil rest, e)
    ]

-- A node that is settled finds what it found
pub settle_sem : (b : ℕ) (l : Key) (w : Num) (kids rest : Forest) → Above b rest → find_f (settle b l w kids rest) ≡ find_f (node b l w kids rest)
unfolding settle
settle_sem b l (some v) kids rest h = refl
settle_sem b l none nil rest h = sym (gone b l rest h)
settle_sem b l none (node x r w k nil) rest h = go (joins l r)
  where
    go : (t : Bool) → find_f (pick t (node b (l ++ x ∷ r) w k rest) (node b l none (node x r w k nil) rest)) ≡ find_f (node b l none (node x r w k nil) rest)
    go true = unfold pick in (node-same b l none (node x r w k nil) (l ++ x ∷ r) w k rest (cc (at-append l (x ∷ r) (look w (find_f k)), look_node x r w k)))
    go false = unfold pick in refl
settle_sem b l none (node x r w k (node c s u j i)) rest h = refl

module _ (b : ℕ) (l : Key) (w : Num) (kids rest : Forest) (a : ℕ) (k : Key) where
  pub erase_f_lt : a < b → erase_f (node b l w kids rest) a k ≡ node b l w kids rest
  unfolding erase_f
  erase_f_lt h = rw (cmp_lt a b h, erase_f)

  pub erase_f_gt : b < a → erase_f (node b l w kids rest) a k ≡ node b l w kids (erase_f rest a k)
  unfolding erase_f
  erase_f_gt h = rw (cmp_gt a b h, erase_f)

  pub erase_f-none : a ≡ b → strip l k ≡ none → erase_f (node b l w kids rest) a k ≡ node b l w kids rest
  unfolding erase_f
  erase_f-none h s = rw (h, erase_f, cmp_refl b, s)

  pub erase_f-here : a ≡ b → strip l k ≡ some [] → erase_f (node b l w kids rest) a k ≡ settle b l none kids rest
  unfolding erase_f
  erase_f-here h s = rw (h, erase_f, cmp_refl b, s)

  pub erase_f-there : (y : ℕ) (r : Key) → a ≡ b → strip l k ≡ some (y ∷ r) → erase_f (node b l w kids rest) a k ≡ settle b l w (erase_f kids y r) rest
  unfolding erase_f
  erase_f-there y r h s = rw (h, erase_f, cmp_refl b, s)

  rem_eq : a ≡ b → Above b rest → ((y : ℕ) (r : Key) → find_f (erase_f kids y r) ≡ upd_f y r none (find_f kids)) → (s : Option Key) → strip l k ≡ s
      → find_f (erase_f (node b l w kids rest) a k) ≡ upd_f a k none (find_f (node b l w kids rest))
  rem_eq h ab ih none e = rw (erase_f-none h e, h) (on-node b l w kids l w kids rest k none (sym (upd_same k none (at l (look w (find_f kids))) (unfold at under in (rw e)))))
  rem_eq h ab ih (some []) e =
      rw (erase_f-here h e, h, settle_sem b l none kids rest ab)
      (on-node b l w kids l none kids rest k none (cc (strip-some l k [] e, append-nil l, look_here none w (find_f kids), at_upd [] none (look w (find_f kids)) l)))
  rem_eq h ab ih (some (y ∷ r)) e =
      rw (erase_f-there y r h e, h, settle_sem b l w (erase_f kids y r) rest ab)
      (on-node b l w kids l w (erase_f kids y r) rest k none
      (cc (strip-some l k (y ∷ r) e, ih y r, look_there y r none w (find_f kids), at_upd (y ∷ r) none (look w (find_f kids)) l)))

-- a key below a forest is not in it
not_in : (f : Forest) (a : ℕ) (k : Key) → find_f f a k ≡ none → find_f f ≡ upd_f a k none (find_f f)
unfolding three upd_f upd
not_in f a k h = fun_ext λ c. fun_ext λ q.
    elim (cmp c a) [
      | less i e ↦ rw e
      | even i e ↦ rw e (sym (ap (λ (m : Key → Num). m q) (upd_same k none (find_f f c) (rw i h))))
      | more i e ↦ rw e
    ]

pub erase_f_sem : (f : Forest) → Rising f → (a : ℕ) (k : Key) → find_f (erase_f f a k) ≡ upd_f a k none (find_f f)
unfolding erase_f
erase_f_sem nil h a k = not_in nil a k (unfold find_f in refl)
erase_f_sem (node b l w kids rest) h a k =
    elim (cmp a b) [
      | less i e ↦ rw (erase_f_lt b l w kids rest a k i) (not_in (node b l w kids rest) a k (above-none a (node b l w kids rest) i a k (omega arith)))
      | even i e ↦ rem_eq b l w kids rest a k i h.0 (λ y r. erase_f_sem kids h.1 y r) (strip l k) refl
      | more i e ↦ rw (erase_f_gt b l w kids rest a k i) (on-rest b l w kids (erase_f rest a k) rest a k none i (erase_f_sem rest h.2 a k))
    ]

pub erase_t_sem : (t : Tree) (k : Key) → Rising t.kids → find_t (erase_t t k) ≡ upd k none (find_t t)
unfolding erase_t find_t
erase_t_sem t [] h = look_here none t.num (find_f t.kids)
erase_t_sem t (a ∷ k) h = cc (erase_f_sem t.kids h a k, look_there a k none t.num (find_f t.kids))

-- Remove with its test: an absent key is refused, a stored one erased
pub remove_absent : (t : Tree) (k : Key) → find_t t k ≡ none → remove_t t k ≡ none
unfolding remove_t if_stored
remove_absent t k e = rw (get_is_find t k, e, if_stored)

pub remove_stored : (t : Tree) (k : Key) (v : ℕ) → find_t t k ≡ some v → remove_t t k ≡ some (erase_t t k)
unfolding remove_t if_stored
remove_stored t k v e = rw (get_is_find t k, e, if_stored)

-- what a removal leaves, and that there was something to remove
pub record Removed (t : Tree) (k : Key) (u : Tree) : Type 0 where
  pub tree : u ≡ erase_t t k
  pub number : ℕ
  pub stored : find_t t k ≡ some number

pub removed : (t : Tree) (k : Key) (u : Tree) → remove_t t k ≡ some u → Removed t k u
removed t k u e = go (find_t t k) refl
  where
    go : (w : Num) → find_t t k ≡ w → Removed t k u
    go none f = absurd (none-some u (sym (remove_absent t k f) ∙ e))
    go (some v) f = let g = remove_stored t k v f in record { tree = cc; number = v; stored = f }
