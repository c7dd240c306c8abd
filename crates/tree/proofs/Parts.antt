-- How a key and a label part, and what is left of a key behind a prefix. Assumes nothing.
use mathlib.Core.Path.{◌≡◌, refl, ap, ◌∙◌}
use mathlib.Core.List.{[], ◌∷◌, ◌++◌}
use mathlib.Core.Option.{Option, none, some}
use Prim.Native.Nat.{ℕ}
use native.Mathlib.Omega.{arith}
use Rattle.tree.specs.Key.{Key, Bytes, strip, Parting, same, key_ends, label_ends, fork, part, push}
use Rattle.tree.proofs.Order.{less, even, more, cmp, cmp_refl}

-- What a parting says of the key and the label
unfoldable pub Parts : Key → Key → Parting → Type 0
Parts k l same = k ≡ l
Parts k l (key_ends x r) = l ≡ k ++ x ∷ r
Parts k l (label_ends y r) = k ≡ l ++ y ∷ r
Parts k l (fork p y k₁ x l₁) = (k ≡ p ++ y ∷ k₁) × (l ≡ p ++ x ∷ l₁) × (¬ (y ≡ x))

parts_push : (z : ℕ) (k l : Key) (s : Parting) → Parts k l s → Parts (z ∷ k) (z ∷ l) (push z s)
unfolding Parts push
parts_push z k l same e = ap {B = Key} (λ r. z ∷ r) e
parts_push z k l (key_ends x r) e = ap {B = Key} (λ r. z ∷ r) e
parts_push z k l (label_ends y r) e = ap {B = Key} (λ r. z ∷ r) e
parts_push z k l (fork p y k₁ x l₁) e = (ap {B = Key} (λ r. z ∷ r) e.0, ap {B = Key} (λ r. z ∷ r) e.1, e.2)

pub parts : (k l : Key) → Parts k l (part k l)
unfolding Parts part
parts [] [] = refl
parts [] (x ∷ l) = refl
parts (y ∷ k) [] = refl
parts (y ∷ k) (x ∷ l) =
    elim (cmp y x) [
      | less h e ↦ rw (e, part) (refl, refl, omega arith)
      | even h e ↦ rw (e, part, h) (parts_push x k l (part k l) (parts k l))
      | more h e ↦ rw (e, part) (refl, refl, omega arith)
    ]

-- A parting with its equation and what it says
pub data Parted (k l : Key) : Type 0 where
  alike : k ≡ l → part k l ≡ same → Parted k l
  inside : (x : ℕ) (r : Key) → l ≡ k ++ x ∷ r → part k l ≡ key_ends x r → Parted k l
  beyond : (y : ℕ) (r : Key) → k ≡ l ++ y ∷ r → part k l ≡ label_ends y r → Parted k l
  apart : (p : Key) (y : ℕ) (k₁ : Key) (x : ℕ) (l₁ : Key) → k ≡ p ++ y ∷ k₁ → l ≡ p ++ x ∷ l₁ → ¬ (y ≡ x) → part k l ≡ fork p y k₁ x l₁ → Parted k l

pub parted : (k l : Key) → Parted k l
parted k l = go (part k l) refl (parts k l)
  where
    go : (s : Parting) → part k l ≡ s → Parts k l s → Parted k l
    go same e h = alike (unfold Parts in h) e
    go (key_ends x r) e h = inside x r (unfold Parts in h) e
    go (label_ends y r) e h = beyond y r (unfold Parts in h) e
    go (fork p y k₁ x l₁) e h = unfold Parts in apart p y k₁ x l₁ h.0 h.1 h.2 e

-- and back: a parting from what it says
pub part_same : (l : Key) → part l l ≡ same
unfolding part push
part_same [] = refl
part_same (x ∷ l) = rw (cmp_refl x, part, part_same l)

pub part-key_ends : (k : Key) (x : ℕ) (r : Key) → part k (k ++ x ∷ r) ≡ key_ends x r
unfolding part push
part-key_ends [] x r = refl
part-key_ends (y ∷ k) x r = rw (cmp_refl y, part, part-key_ends k x r)

pub part-label_ends : (l : Key) (y : ℕ) (r : Key) → part (l ++ y ∷ r) l ≡ label_ends y r
unfolding part push
part-label_ends [] y r = refl
part-label_ends (x ∷ l) y r = rw (cmp_refl x, part, part-label_ends l y r)

pub part-fork : (p : Key) (y : ℕ) (k : Key) (x : ℕ) (l : Key) → ¬ (y ≡ x) → part (p ++ y ∷ k) (p ++ x ∷ l) ≡ fork p y k x l
unfolding part push
part-fork [] y k x l ne = elim (cmp y x) [ less h e ↦ rw (e, part) | even h e ↦ absurd (ne h) | more h e ↦ rw (e, part) ]
part-fork (z ∷ p) y k x l ne = rw (cmp_refl z, part, part-fork p y k x l ne)

-- What `strip` says
pub strip-some : (p q r : Key) → strip p q ≡ some r → q ≡ p ++ r
unfolding strip
strip-some [] q r e = cc
strip-some (x ∷ p) [] r e = cc
strip-some (x ∷ p) (y ∷ q) r e =
    elim (cmp y x) [
      | less h i ↦ let j : none ≡ some r = rw (i, strip) at e in cc
      | even h i ↦ let j : strip p q ≡ some r = rw (i, strip) at e in cc (h, strip-some p q r j)
      | more h i ↦ let j : none ≡ some r = rw (i, strip) at e in cc
    ]

pub strip-append : (p r : Key) → strip p (p ++ r) ≡ some r
unfolding strip
strip-append [] r = refl
strip-append (x ∷ p) r = rw (cmp_refl x, strip) (strip-append p r)

pub strip_differs : (x : ℕ) (p : Key) (y : ℕ) (q : Key) → ¬ (y ≡ x) → strip (x ∷ p) (y ∷ q) ≡ none
unfolding strip
strip_differs x p y q ne = elim (cmp y x) [ less h e ↦ rw (e, strip) | even h e ↦ absurd (ne h) | more h e ↦ rw (e, strip) ]

-- a key that ends before its prefix does
pub strip-short : (q : Key) (x : ℕ) (r : Key) → strip (q ++ x ∷ r) q ≡ none
unfolding strip
strip-short [] x r = refl
strip-short (y ∷ q) x r = rw (cmp_refl y, strip) (strip-short q x r)

-- a prefix before both
pub strip-under : (p l q : Key) → strip (p ++ l) (p ++ q) ≡ strip l q
unfolding strip
strip-under [] l q = refl
strip-under (x ∷ p) l q = rw (cmp_refl x, strip) (strip-under p l q)

-- a key that forks from its prefix
pub strip-fork : (p : Key) (x : ℕ) (l : Key) (y : ℕ) (q : Key) → ¬ (y ≡ x) → strip (p ++ x ∷ l) (p ++ y ∷ q) ≡ none
strip-fork p x l y q ne = strip-under p (x ∷ l) (y ∷ q) ∙ strip_differs x l y q ne

-- `strip` by its answer
pub data Stripped (p q : Key) : Type 0 where
  starts : (r : Key) → q ≡ p ++ r → strip p q ≡ some r → Stripped p q
  not : strip p q ≡ none → Stripped p q

pub stripped : (p q : Key) → Stripped p q
stripped p q = go (strip p q) refl
  where
    go : (o : Option Key) → strip p q ≡ o → Stripped p q
    go none e = not e
    go (some r) e = starts r (strip-some p q r e) e

-- Bytes of parts and wholes
pub bytes_left : (p l : Key) → Bytes (p ++ l) → Bytes p
bytes_left [] l h = tt
bytes_left (x ∷ p) l h = (h.0, bytes_left p l h.1)

pub bytes-right : (p l : Key) → Bytes (p ++ l) → Bytes l
bytes-right [] l h = h
bytes-right (x ∷ p) l h = bytes-right p l h.1

pub bytes-append : (p l : Key) → Bytes p → Bytes l → Bytes (p ++ l)
bytes-append [] l g h = h
bytes-append (x ∷ p) l g h = (g.0, bytes-append p l g.1 h)
