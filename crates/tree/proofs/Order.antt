-- Numbers and keys compared: each comparison with what it says. Assumes nothing.
use mathlib.Core.Path.{◌≡◌, refl, ap, ◌∙◌}
use mathlib.Core.Logic.{◌⊎◌, inl, inr}
use mathlib.Core.List.{[], ◌∷◌, ◌++◌}
use mathlib.Core.Option.{none, some}
use Prim.Native.Nat.{ℕ, zero, suc, ◌<◌, compare, Ordering}
use Prim.Native.Nat.compare
use native.Mathlib.Omega.{arith}
use Rattle.tree.specs.Key.{Key, order}
use Rattle.tree.specs.Map.{Before}

-- No value is also missing.
pub none-some : {A : Type 0} (x : A) → none ≡ some x → ⊥
none-some x e = let z : ◌≡◌ {A = ℕ} 0 1 = cc in omega arith

-- One of three by an order
unfoldable pub three {ℓ} : {A : Type ℓ} → Ordering → A → A → A → A
three Ordering.lt x y z = x
three Ordering.eq x y z = y
three Ordering.gt x y z = z

-- Two numbers
pub data Cmp (a b : ℕ) : Type 0 where
  less : a < b → compare a b ≡ Ordering.lt → Cmp a b
  even : a ≡ b → compare a b ≡ Ordering.eq → Cmp a b
  more : b < a → compare a b ≡ Ordering.gt → Cmp a b

cmp_suc : (a b : ℕ) → Cmp a b → Cmp (suc a) (suc b)
cmp_suc a b (less h e) = less (omega arith) (compare.suc-suc a b ∙ e)
cmp_suc a b (even h e) = even (ap suc h) (compare.suc-suc a b ∙ e)
cmp_suc a b (more h e) = more (omega arith) (compare.suc-suc a b ∙ e)

pub cmp : (a b : ℕ) → Cmp a b
cmp zero zero = even refl compare.zero-zero
cmp zero (suc b) = less (omega arith) (compare.zero-suc b)
cmp (suc a) zero = more (omega arith) (compare.suc-zero a)
cmp (suc a) (suc b) = cmp_suc a b (cmp a b)

pub cmp_lt : (a b : ℕ) → a < b → compare a b ≡ Ordering.lt
cmp_lt a b h = elim (cmp a b) [ less i e ↦ e | even i e ↦ absurd (omega arith) | more i e ↦ absurd (omega arith) ]

pub cmp_gt : (a b : ℕ) → b < a → compare a b ≡ Ordering.gt
cmp_gt a b h = elim (cmp a b) [ less i e ↦ absurd (omega arith) | even i e ↦ absurd (omega arith) | more i e ↦ e ]

pub cmp_refl : (a : ℕ) → compare a a ≡ Ordering.eq
cmp_refl a = elim (cmp a a) [ less i e ↦ absurd (omega arith) | even i e ↦ e | more i e ↦ absurd (omega arith) ]

pub cmp_eq : (a b : ℕ) → a ≡ b → compare a b ≡ Ordering.eq
cmp_eq a b h = rw h (cmp_refl b)

-- Two keys
pub order_cons : (x : ℕ) (q : Key) (y : ℕ) (k : Key) → order (x ∷ q) (y ∷ k) ≡ three (compare x y) Ordering.lt (order q k) Ordering.gt
unfolding order three
order_cons x q y k = elim (cmp x y) [ less h e ↦ rw (e, order) | even h e ↦ rw (e, order) | more h e ↦ rw (e, order) ]

pub order_refl : (k : Key) → order k k ≡ Ordering.eq
unfolding order three
order_refl [] = refl
order_refl (x ∷ k) = rw (order_cons x k x k, cmp_refl x) (order_refl k)

pub before_head : (x : ℕ) (q : Key) (y : ℕ) (k : Key) → x < y → Before (x ∷ q) (y ∷ k)
unfolding three
before_head x q y k h = rw (order_cons x q y k, cmp_lt x y h)

pub before-tail : (x : ℕ) (q k : Key) → Before q k → Before (x ∷ q) (x ∷ k)
unfolding three
before-tail x q k h = rw (order_cons x q x k, cmp_refl x) h

-- what `Before` says, byte by byte
pub before_cons : (x : ℕ) (q : Key) (y : ℕ) (k : Key) → Before (x ∷ q) (y ∷ k) → (x < y) ⊎ ((x ≡ y) × Before q k)
unfolding three
before_cons x q y k h =
    elim (cmp x y) [
      | less i e ↦ inl i
      | even i e ↦ inr (i, rw (order_cons x q y k, e) at h)
      | more i e ↦ let g : Ordering.gt ≡ Ordering.lt = rw (order_cons x q y k, e) at h in absurd (never g)
    ]
  where
    never : Ordering.gt ≡ Ordering.lt → ⊥
    never g = let z : ◌≡◌ {A = ℕ} 0 1 = cc in omega arith

pub before_irrefl : (k : Key) → ¬ (Before k k)
before_irrefl k h = let z : ◌≡◌ {A = ℕ} 0 1 = cc (h, order_refl k) in omega arith

not_nil : (x : ℕ) (k : Key) → ¬ (Before (x ∷ k) [])
unfolding order
not_nil x k h = let z : ◌≡◌ {A = ℕ} 0 1 = cc in omega arith

pub before_trans : (a b c : Key) → Before a b → Before b c → Before a c
before_trans [] [] c g h = absurd (before_irrefl [] g)
before_trans [] (y ∷ b) [] g h = absurd (not_nil y b h)
before_trans [] (y ∷ b) (z ∷ c) g h = unfold order in refl
before_trans (x ∷ a) [] c g h = absurd (not_nil x a g)
before_trans (x ∷ a) (y ∷ b) [] g h = absurd (not_nil y b h)
before_trans (x ∷ a) (y ∷ b) (z ∷ c) g h = go (before_cons x a y b g) (before_cons y b z c h) (before_trans a b c)
  where
    go : (x < y) ⊎ ((x ≡ y) × Before a b) → (y < z) ⊎ ((y ≡ z) × Before b c) → (Before a b → Before b c → Before a c) → Before (x ∷ a) (z ∷ c)
    go (inl i) (inl j) ih = before_head x a z c (omega arith)
    go (inl i) (inr j) ih = before_head x a z c (omega arith)
    go (inr i) (inl j) ih = before_head x a z c (omega arith)
    go (inr i) (inr j) ih = rw (i.0 ∙ j.0) (before-tail z a c (ih i.1 j.1))

pub before-prefix : (p q k : Key) → Before q k → Before (p ++ q) (p ++ k)
before-prefix [] q k h = h
before-prefix (x ∷ p) q k h = before-tail x (p ++ q) (p ++ k) (before-prefix p q k h)

-- and back
pub before_unprefix : (p q k : Key) → Before (p ++ q) (p ++ k) → Before q k
before_unprefix [] q k h = h
before_unprefix (x ∷ p) q k h = go (before_cons x (p ++ q) x (p ++ k) h) (before_unprefix p q k)
  where
    go : (x < x) ⊎ ((x ≡ x) × Before (p ++ q) (p ++ k)) → (Before (p ++ q) (p ++ k) → Before q k) → Before q k
    go (inl i) ih = absurd (omega arith)
    go (inr i) ih = ih i.1

-- A key comes before its own extensions.
pub before-longer : (p : Key) (c : ℕ) (r : Key) → Before p (p ++ c ∷ r)
before-longer [] c r = unfold order in refl
before-longer (x ∷ p) c r = before-tail x p (p ++ c ∷ r) (before-longer p c r)

pub data Line (a b : Key) : Type 0 where
  below : Before a b → Line a b
  level : a ≡ b → order a b ≡ Ordering.eq → Line a b
  over : Before b a → order a b ≡ Ordering.gt → Line a b

pub line : (a b : Key) → Line a b
line [] [] = level refl (unfold order in refl)
line [] (y ∷ b) = below (unfold order in refl)
line (x ∷ a) [] = over (unfold order in refl) (unfold order in refl)
line (x ∷ a) (y ∷ b) =
    elim (cmp x y) [
      | less h e ↦ below (before_head x a y b h)
      | even h e ↦ go h e (line a b)
      | more h e ↦ over (before_head y b x a h) (unfold three in rw (order_cons x a y b, e))
    ]
  where
    go : x ≡ y → compare x y ≡ Ordering.eq → Line a b → Line (x ∷ a) (y ∷ b)
    go h e (below i) = below (unfold three in rw (order_cons x a y b, e) i)
    go h e (level i j) = level (cc) (unfold three in rw (order_cons x a y b, e) j)
    go h e (over i j) = over (rw h (before-tail y b a i)) (unfold three in rw (order_cons x a y b, e) j)
