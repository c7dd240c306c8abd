-- What a key finds in a tree: the easy form of get, which the laws are about, and an algebra of maps to state them in.
-- Assumes nothing.
use mathlib.Core.Path.{◌≡◌, refl, sym, ap, ◌∙◌, fun_ext}
use mathlib.Core.List.{[], ◌∷◌, ◌++◌}
use mathlib.Core.Option.{Option, none, some}
use Prim.Native.Nat.{ℕ, ◌≤◌, ◌<◌, compare, Ordering}
use native.Mathlib.Omega.{arith}
use Rattle.tree.specs.Key.{Key, order, strip}
use Rattle.tree.specs.Map.{Num}
use Rattle.tree.specs.Tree.{Forest, nil, node, Tree, Above, empty}
use Rattle.tree.proofs.Order.{less, even, more, cmp, cmp_lt, cmp_gt, cmp_refl, three, order_cons, order_refl, below, level, over, line}
use Rattle.tree.proofs.Parts.{strip-append}

-- What a map m finds at what is left of a key
unfoldable pub under : Option Key → (Key → Num) → Num
under none m = none
under (some q) m = m q

-- The map of a node: its number at the empty key, and g, its children, at any other
unfoldable pub look : Num → (ℕ → Key → Num) → Key → Num
look w g [] = w
look w g (c ∷ q) = g c q

-- What the nonempty key c ∷ q finds
unfoldable pub find_f : Forest → ℕ → Key → Num
find_f nil c q = none
find_f (node b l w kids rest) c q =
    elim (compare c b) [
      | Ordering.lt ↦ none
      | Ordering.eq ↦ under (strip l q) (look w (λ y r. find_f kids y r))
      | Ordering.gt ↦ find_f rest c q
    ]

unfoldable pub find_t : Tree → Key → Num
find_t t q = look t.num (find_f t.kids) q

-- The definitions' cases, as equations
module _ (b : ℕ) (l : Key) (w : Num) (kids rest : Forest) (c : ℕ) (q : Key) where
  pub find_f_lt : c < b → find_f (node b l w kids rest) c q ≡ none
  unfolding find_f
  find_f_lt h = rw (cmp_lt c b h, find_f)

  pub find_f_eq : c ≡ b → find_f (node b l w kids rest) c q ≡ under (strip l q) (look w (find_f kids))
  unfolding find_f
  find_f_eq h = rw (h, find_f, cmp_refl b)

  pub find_f_gt : b < c → find_f (node b l w kids rest) c q ≡ find_f rest c q
  unfolding find_f
  find_f_gt h = rw (cmp_gt c b h, find_f)

-- Maps: `at l m` is m behind the label l; `upd k v m` is m with v at k
unfoldable pub at : Key → (Key → Num) → Key → Num
at l m q = under (strip l q) m

unfoldable pub upd : Key → Num → (Key → Num) → Key → Num
upd k v m q = three (order q k) (m q) v (m q)

unfoldable pub upd_f : ℕ → Key → Num → (ℕ → Key → Num) → ℕ → Key → Num
upd_f a k v g c q = three (compare c a) (g c q) (three (order q k) (g c q) v (g c q)) (g c q)

pub node_sem : (b : ℕ) (l : Key) (w : Num) (kids rest : Forest) (c : ℕ) (q : Key)
    → find_f (node b l w kids rest) c q ≡ three (compare c b) none (at l (look w (find_f kids)) q) (find_f rest c q)
unfolding three at
node_sem b l w kids rest c q =
    elim (cmp c b) [
      | less h e ↦ rw e (find_f_lt b l w kids rest c q h)
      | even h e ↦ rw e (find_f_eq b l w kids rest c q h)
      | more h e ↦ rw e (find_f_gt b l w kids rest c q h)
    ]

pub at_cons : (x : ℕ) (l : Key) (m : Key → Num) (y : ℕ) (q : Key) → at (x ∷ l) m (y ∷ q) ≡ three (compare y x) none (at l m q) none
unfolding three at strip under
at_cons x l m y q = elim (cmp y x) [ less h e ↦ rw (e, strip) | even h e ↦ rw (e, strip) | more h e ↦ rw (e, strip) ]

at-append-at : (l : Key) (m : Key → Num) (p q : Key) → at (p ++ l) m q ≡ at p (at l m) q
unfolding at under strip
at-append-at l m [] q = refl
at-append-at l m (x ∷ p) [] = refl
at-append-at l m (x ∷ p) (y ∷ q) =
    at_cons x (p ++ l) m y q ∙ ap (λ (r : Num). three (compare y x) none r none) (at-append-at l m p q) ∙ sym (at_cons x p (at l m) y q)

pub at-append : (p l : Key) (m : Key → Num) → at (p ++ l) m ≡ at p (at l m)
at-append p l m = fun_ext (at-append-at l m p)

pub look_node : (x : ℕ) (l : Key) (w : Num) (kids : Forest) → look none (find_f (node x l w kids nil)) ≡ at (x ∷ l) (look w (find_f kids))
unfolding at under strip look find_f
look_node x l w kids = fun_ext go
  where
    go : (q : Key) → look none (find_f (node x l w kids nil)) q ≡ at (x ∷ l) (look w (find_f kids)) q
    go [] = refl
    go (y ∷ q) = node_sem x l w kids nil y q ∙ sym (at_cons x l (look w (find_f kids)) y q)

at_upd_step : (k : Key) (v : Num) (m : Key → Num) (x : ℕ) (p : Key) (y : ℕ) (q : Key)
    → at p (upd k v m) q ≡ upd (p ++ k) v (at p m) q → at (x ∷ p) (upd k v m) (y ∷ q) ≡ upd (x ∷ p ++ k) v (at (x ∷ p) m) (y ∷ q)
unfolding upd three
at_upd_step k v m x p y q ih =
    elim (cmp y x) [
      | less h e ↦ rw (at_cons x p (upd k v m), at_cons x p m, order_cons, e)
      | even h e ↦ rw (at_cons x p (upd k v m), at_cons x p m, order_cons, e) ih
      | more h e ↦ rw (at_cons x p (upd k v m), at_cons x p m, order_cons, e)
    ]

at_upd_at : (k : Key) (v : Num) (m : Key → Num) (p q : Key) → at p (upd k v m) q ≡ upd (p ++ k) v (at p m) q
unfolding at under strip upd order three
at_upd_at k v m [] q = refl
at_upd_at k v m (x ∷ p) [] = refl
at_upd_at k v m (x ∷ p) (y ∷ q) = at_upd_step k v m x p y q (at_upd_at k v m p q)

pub at_upd : (k : Key) (v : Num) (m : Key → Num) (p : Key) → at p (upd k v m) ≡ upd (p ++ k) v (at p m)
at_upd k v m p = fun_ext (at_upd_at k v m p)

pub look_here : (v w : Num) (g : ℕ → Key → Num) → look v g ≡ upd [] v (look w g)
unfolding look upd order three
look_here v w g = fun_ext go
  where
    go : (q : Key) → look v g q ≡ upd [] v (look w g) q
    go [] = refl
    go (y ∷ q) = refl

pub look_there : (y : ℕ) (r : Key) (v w : Num) (g : ℕ → Key → Num) → look w (upd_f y r v g) ≡ upd (y ∷ r) v (look w g)
unfolding look upd upd_f order three
look_there y r v w g = fun_ext go
  where
    go : (q : Key) → look w (upd_f y r v g) q ≡ upd (y ∷ r) v (look w g) q
    go [] = refl
    go (x ∷ q) = elim (cmp x y) [ less h e ↦ rw (order_cons x q y r, e) | even h e ↦ rw (order_cons x q y r, e) | more h e ↦ rw (order_cons x q y r, e) ]

-- A node by its parts
pub above-none : (a : ℕ) (f : Forest) → Above a f → (c : ℕ) (q : Key) → c ≤ a → find_f f c q ≡ none
unfolding find_f
above-none a nil h c q i = refl
above-none a (node b l w kids rest) h c q i = find_f_lt b l w kids rest c q (omega arith)

-- Equal functions agree
pub at₂ : {g h : ℕ → Key → Num} → g ≡ h → (c : ℕ) (q : Key) → g c q ≡ h c q
at₂ e c q = ap (λ (m : ℕ → Key → Num). m c q) e

pub on-rest : (b : ℕ) (l : Key) (w : Num) (kids f g : Forest) (a : ℕ) (k : Key) (v : Num)
    → b < a → find_f f ≡ upd_f a k v (find_f g) → find_f (node b l w kids f) ≡ upd_f a k v (find_f (node b l w kids g))
unfolding three upd_f
on-rest b l w kids f g a k v h ih = fun_ext λ c. fun_ext λ q.
    elim (cmp c b) [
      | less i e ↦ rw (node_sem b l w kids f, node_sem b l w kids g, e, cmp_lt c a (omega arith))
      | even i e ↦ rw (node_sem b l w kids f, node_sem b l w kids g, e, cmp_lt c a (omega arith))
      | more i e ↦ rw (node_sem b l w kids f, node_sem b l w kids g, e) (at₂ ih c q)
    ]

pub on-node : (b : ℕ) (l : Key) (w : Num) (kids : Forest) (l' : Key) (w' : Num) (kids' rest : Forest) (k : Key) (v : Num)
    → at l' (look w' (find_f kids')) ≡ upd k v (at l (look w (find_f kids))) → find_f (node b l' w' kids' rest) ≡ upd_f b k v (find_f (node b l w kids rest))
unfolding three upd_f upd
on-node b l w kids l' w' kids' rest k v h = fun_ext λ c. fun_ext λ q.
    elim (cmp c b) [
      | less i e ↦ rw (node_sem b l w kids rest, node_sem b l' w' kids' rest, e)
      | even i e ↦ rw (node_sem b l w kids rest, node_sem b l' w' kids' rest, e) (ap (λ (m : Key → Num). m q) h)
      | more i e ↦ rw (node_sem b l w kids rest, node_sem b l' w' kids' rest, e)
    ]

pub node-same : (b : ℕ) (l : Key) (w : Num) (kids : Forest) (l' : Key) (w' : Num) (kids' rest : Forest)
    → at l' (look w' (find_f kids')) ≡ at l (look w (find_f kids)) → find_f (node b l' w' kids' rest) ≡ find_f (node b l w kids rest)
unfolding three
node-same b l w kids l' w' kids' rest h = fun_ext λ c. fun_ext λ q. rw (node_sem b l w kids rest, node_sem b l' w' kids' rest, h)

-- The map with nothing in it
unfoldable pub nowhere : Key → Num
nowhere q = none

pub at_nowhere : (l : Key) → at l nowhere ≡ nowhere
unfolding at under nowhere
at_nowhere l = fun_ext λ q. go (strip l q)
  where
    go : (o : Option Key) → under o nowhere ≡ none
    go none = refl
    go (some r) = refl

pub look_nil : look none (find_f nil) ≡ nowhere
unfolding look find_f nowhere
look_nil = fun_ext λ q. elim q as (λ k. look none (find_f nil) k ≡ none) [ [] ↦ refl | c ∷ r ↦ refl ]

-- An update in plain words: at its key, and at any other
pub upd_at : (k : Key) (v : Num) (m : Key → Num) → upd k v m k ≡ v
unfolding upd three
upd_at k v m = rw (order_refl k)

pub upd_off : (k : Key) (v : Num) (m : Key → Num) (q : Key) → ¬ (q ≡ k) → upd k v m q ≡ m q
unfolding upd three
upd_off k v m q ne = elim (line q k) [ below h ↦ rw h | level h e ↦ absurd (ne h) | over h e ↦ rw e ]

-- an update by what stands there
pub upd_same : (k : Key) (v : Num) (m : Key → Num) → m k ≡ v → upd k v m ≡ m
upd_same k v m h = fun_ext λ q.
    elim (line q k) [
      | below i ↦ unfold upd three in rw i
      | level i e ↦ cc (i, h, upd_at k v m)
      | over i e ↦ unfold upd three in rw e
    ]

-- Behind a label stands the map.
pub at_skip : (l : Key) (m : Key → Num) (q : Key) → at l m (l ++ q) ≡ m q
unfolding at under
at_skip l m q = rw (strip-append l q)

pub find_empty : find_t empty ≡ nowhere
unfolding find_t empty
find_empty = look_nil
