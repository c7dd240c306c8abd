-- The finite map: what a key finds, also after a put; a put leaves the keys ascending; an ascending list is determined by
-- what its keys find. Assumes nothing.
use mathlib.Core.Path.{◌≡◌, refl, sym, ap, ◌∙◌, fun_ext}
use mathlib.Core.List.{[], ◌∷◌, ◌++◌}
use mathlib.Core.Option.{none, some}
use Prim.Native.Nat.{Ordering}
use Prim.Native.Nat.{ℕ}
use Rattle.tree.specs.Key.{Key, order}
use Rattle.tree.specs.Map.{Num, Pair, Pairs, AllKeys, Before, Ascending, lookup, put}
use Rattle.tree.proofs.Order.{none-some, three, before_irrefl, before_trans, below, level, over, line}
use Rattle.tree.proofs.Find.{upd, upd_at, upd_off, upd_same}

-- All keys of a list
pub all_map : (P Q : Key → Type 0) → ((k : Key) → P k → Q k) → (m : Pairs) → AllKeys P m → AllKeys Q m
all_map P Q f [] h = tt
all_map P Q f (x ∷ m) h = (f x.0 h.0, all_map P Q f m h.1)

pub all_append : (P : Key → Type 0) (m n : Pairs) → AllKeys P m → AllKeys P n → AllKeys P (m ++ n)
all_append P [] n g h = h
all_append P (x ∷ m) n g h = (g.0, all_append P m n g.1 h)

-- Whether two keys are one
pub data Twin (a b : Key) : Type 0 where
  one : a ≡ b → Twin a b
  two : ¬ (a ≡ b) → Twin a b

pub before_differs : (a b : Key) → Before a b → ¬ (a ≡ b)
before_differs a b h e = before_irrefl b (rw e at h)

pub twin : (a b : Key) → Twin a b
twin a b = elim (line a b) [ below h ↦ two (before_differs a b h) | level h e ↦ one h | over h e ↦ two (λ i. before_differs b a h (sym i)) ]

-- Updates of a map at one key twice, and at two keys
pub upd_twice : (k : Key) (v w : Num) (m : Key → Num) → upd k v (upd k w m) ≡ upd k v m
unfolding upd three
upd_twice k v w m = fun_ext λ q. elim (line q k) [ below h ↦ rw h | level h e ↦ rw e | over h e ↦ rw e ]

pub upd_swap : (k : Key) (v : Num) (l : Key) (w : Num) (m : Key → Num) → ¬ (k ≡ l) → upd k v (upd l w m) ≡ upd l w (upd k v m)
upd_swap k v l w m ne = fun_ext λ q.
    elim (twin q k) [
      | one h ↦ cc (upd_at k v (upd l w m), upd_off l w (upd k v m) k ne, upd_at k v m)
      | two h ↦ elim (twin q l) [
        | one i ↦ cc (upd_at l w (upd k v m), upd_off k v (upd l w m) q h, upd_at l w m)
        | two i ↦ cc (upd_off k v (upd l w m) q h, upd_off l w (upd k v m) q i, upd_off k v m q h, upd_off l w m q i)
      ]
    ]

-- Lookup: the first pair's key, and any other
pub lookup-empty : (k : Key) → lookup [] k ≡ none
unfolding lookup
lookup-empty k = refl

pub lookup_cons : (x : Pair) (m : Pairs) → lookup (x ∷ m) ≡ upd x.0 (some x.1) (lookup m)
unfolding lookup upd three
lookup_cons x m = fun_ext λ k. elim (line k x.0) [ below h ↦ rw (h, lookup) | level h e ↦ rw (e, lookup) | over h e ↦ rw (e, lookup) ]

-- Equal maps find the same.
pub on : {f g : Key → Num} → f ≡ g → (k : Key) → f k ≡ g k
on e k = ap (λ (f : Key → Num). f k) e

pub lookup_head : (x : Pair) (m : Pairs) → lookup (x ∷ m) x.0 ≡ some x.1
lookup_head x m = on (lookup_cons x m) x.0 ∙ upd_at x.0 (some x.1) (lookup m)

pub lookup_tail : (x : Pair) (m : Pairs) (k : Key) → ¬ (k ≡ x.0) → lookup (x ∷ m) k ≡ lookup m k
lookup_tail x m k ne = on (lookup_cons x m) k ∙ upd_off x.0 (some x.1) (lookup m) k ne

-- a key before all of a list is not in it
pub lookup-before : (k : Key) (m : Pairs) → AllKeys (Before k) m → lookup m k ≡ none
lookup-before k [] h = lookup-empty k
lookup-before k (x ∷ m) h = lookup_tail x m k (before_differs k x.0 h.0) ∙ lookup-before k m h.1

pub before_all : (k : Key) (x : Pair) (m : Pairs) → Before k x.0 → Ascending (x ∷ m) → AllKeys (Before k) (x ∷ m)
before_all k x m h a = (h, all_map (Before x.0) (Before k) (λ q i. before_trans k x.0 q h i) m a.0)

-- An ascending list is determined by what its keys find: its first key, then what stands behind that.
not_empty : (x : Pair) (m : Pairs) → ¬ (lookup (x ∷ m) ≡ lookup [])
not_empty x m e = none-some x.1 (cc (on e x.0, lookup_head x m, lookup-empty x.0))

not_earlier : (x y : Pair) (m n : Pairs) → Ascending (y ∷ n) → lookup (x ∷ m) ≡ lookup (y ∷ n) → ¬ (Before x.0 y.0)
not_earlier x y m n a e h = none-some x.1 (cc (on e x.0, lookup_head x m, lookup-before x.0 (y ∷ n) (before_all x.0 y n h a)))

heads : (x y : Pair) (m n : Pairs) → Ascending (x ∷ m) → Ascending (y ∷ n) → lookup (x ∷ m) ≡ lookup (y ∷ n) → x.0 ≡ y.0
heads x y m n a b e =
    elim (line x.0 y.0) [
      | below h ↦ absurd (not_earlier x y m n b e h)
      | level h i ↦ h
      | over h i ↦ absurd (not_earlier y x n m a (sym e) h)
    ]

tail_finds : (x : Pair) (m : Pairs) → Ascending (x ∷ m) → lookup m ≡ upd x.0 none (lookup (x ∷ m))
tail_finds x m a = cc (lookup_cons x m, upd_twice x.0 none (some x.1) (lookup m), upd_same x.0 none (lookup m) (lookup-before x.0 m a.0))

pub ascending_unique : (m n : Pairs) → Ascending m → Ascending n → lookup m ≡ lookup n → m ≡ n
ascending_unique [] [] a b e = refl
ascending_unique [] (y ∷ n) a b e = absurd (not_empty y n (sym e))
ascending_unique (x ∷ m) [] a b e = absurd (not_empty x m e)
ascending_unique (x ∷ m) (y ∷ n) a b e =
    let h = heads x y m n a b e in
    let v : x.1 ≡ y.1 = cc (on e x.0, lookup_head x m, lookup_head y n) in
    let p : x ≡ y = λ i. (h i, v i) in
    cc (ascending_unique m n a.1 b.1 (cc (tail_finds x m a, tail_finds y n b)))

-- Put
module _ (k : Key) (v : ℕ) (x : Pair) (m : Pairs) where
  put-before : Before k x.0 → put k v (x ∷ m) ≡ (k, v) ∷ x ∷ m
  unfolding put
  put-before h = rw (h, put)

  put_same : order k x.0 ≡ Ordering.eq → put k v (x ∷ m) ≡ (k, v) ∷ m
  unfolding put
  put_same h = rw (h, put)

  put-behind : order k x.0 ≡ Ordering.gt → put k v (x ∷ m) ≡ x ∷ put k v m
  unfolding put
  put-behind h = rw (h, put)

all_put : (P : Key → Type 0) (k : Key) (v : ℕ) (m : Pairs) → P k → AllKeys P m → AllKeys P (put k v m)
all_put P k v [] i h = unfold put in (i, tt)
all_put P k v (x ∷ m) i h =
    elim (line k x.0) [
      | below g ↦ rw (put-before k v x m g) (i, h)
      | level g e ↦ rw (put_same k v x m e) (i, h.1)
      | over g e ↦ rw (put-behind k v x m e) (h.0, all_put P k v m i h.1)
    ]

pub put_ascend : (k : Key) (v : ℕ) (m : Pairs) → Ascending m → Ascending (put k v m)
put_ascend k v [] a = unfold put in (tt, tt)
put_ascend k v (x ∷ m) a =
    elim (line k x.0) [
      | below g ↦ rw (put-before k v x m g) (before_all k x m g a, a)
      | level g e ↦ rw (put_same k v x m e, g) a
      | over g e ↦ rw (put-behind k v x m e) (all_put (Before x.0) k v m g a.0, put_ascend k v m a.1)
    ]

pub lookup-put : (k : Key) (v : ℕ) (m : Pairs) → lookup (put k v m) ≡ upd k (some v) (lookup m)
lookup-put k v [] = unfold put in (lookup_cons (k, v) [])
lookup-put k v (x ∷ m) =
    elim (line k x.0) [
      | below h ↦ rw (put-before k v x m h) (lookup_cons (k, v) (x ∷ m))
      | level h e ↦ rw (put_same k v x m e) (cc (lookup_cons (k, v) m, lookup_cons x m, upd_twice k (some v) (some x.1) (lookup m)))
      | over h e ↦
          let s = upd_swap k (some v) x.0 (some x.1) (lookup m) (λ i. before_differs x.0 k h (sym i)) in
          rw (put-behind k v x m e) (cc (lookup-put k v m, lookup_cons x (put k v m), lookup_cons x m, s))
    ]
