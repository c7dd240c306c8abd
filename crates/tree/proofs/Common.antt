-- How many leading bytes two keys share: a loop's steps, and how a key and a label part by that number. Assumes nothing.
use mathlib.Core.Path.{◌≡◌, refl, sym, ap, ◌∙◌}
use mathlib.Core.List.{[], ◌∷◌}
use mathlib.Core.Option.{none, some}
use Prim.Native.Nat.{ℕ, suc, ◌+◌, ◌≤◌, ◌<◌}
use native.Mathlib.Omega.{arith}
use native.Mathlib.Numerals.{add-one}
use lib.ListN.{length, take, drop, get_or, drop_of_length-le}
use lib.Seq.{drop-cons}
use Rattle.tree.specs.Key.{Key, common, strip, Parting, same, key_ends, label_ends, fork, part, push}
use Rattle.tree.proofs.Order.{less, even, more, cmp, cmp_refl}

common-nil : (k : Key) → common k [] ≡ 0
unfolding common
common-nil [] = refl
common-nil (x ∷ k) = refl

common_cons : (x : ℕ) (k : Key) (y : ℕ) (l : Key) → x ≡ y → common (x ∷ k) (y ∷ l) ≡ suc (common k l)
unfolding common
common_cons x k y l h = rw (h, common, cmp_refl y)

common-off_cons : (x : ℕ) (k : Key) (y : ℕ) (l : Key) → ¬ (x ≡ y) → common (x ∷ k) (y ∷ l) ≡ 0
unfolding common
common-off_cons x k y l ne = elim (cmp x y) [ less h e ↦ rw (e, common) | even h e ↦ absurd (ne h) | more h e ↦ rw (e, common) ]

module _ (k l : Key) (i : ℕ) where
  pub common-end_k : length k ≤ i → common (drop i k) (drop i l) ≡ 0
  unfolding common
  common-end_k h = rw (drop_of_length-le k h)

  pub common-end-l : length l ≤ i → common (drop i k) (drop i l) ≡ 0
  common-end-l h = rw (drop_of_length-le l h) (common-nil (drop i k))

  pub common-on : i < length k → i < length l → get_or k i 0 ≡ get_or l i 0 → common (drop i k) (drop i l) ≡ suc (common (drop (suc i) k) (drop (suc i) l))
  common-on hk hl e = rw (drop-cons k i 0 hk, drop-cons l i 0 hl) (common_cons (get_or k i 0) (drop (suc i) k) (get_or l i 0) (drop (suc i) l) e)

  -- the same at the code's i + 1
  pub common-more : i < length k → i < length l → get_or k i 0 ≡ get_or l i 0 → common (drop i k) (drop i l) ≡ 1 + common (drop (i + 1) k) (drop (i + 1) l)
  common-more hk hl e = rw add-one (omega (arith, common-on hk hl e))

  pub common-off : i < length k → i < length l → ¬ (get_or k i 0 ≡ get_or l i 0) → common (drop i k) (drop i l) ≡ 0
  common-off hk hl e = rw (drop-cons k i 0 hk, drop-cons l i 0 hl) (common-off_cons (get_or k i 0) (drop (suc i) k) (get_or l i 0) (drop (suc i) l) e)

-- `part` as the code finds it: by c, take and drop
unfoldable pub pair : Key → Key → Key → Parting
pair p [] [] = same
pair p [] (x ∷ r) = key_ends x r
pair p (y ∷ s) [] = label_ends y s
pair p (y ∷ s) (x ∷ r) = fork p y s x r

unfoldable pub by_common : Key → Key → ℕ → Parting
by_common k l c = pair (take c l) (drop c k) (drop c l)

pair-push : (z : ℕ) (p k l : Key) → pair (z ∷ p) k l ≡ push z (pair p k l)
unfolding pair push
pair-push z p [] [] = refl
pair-push z p [] (x ∷ r) = refl
pair-push z p (y ∷ s) [] = refl
pair-push z p (y ∷ s) (x ∷ r) = refl

pub part_by_common : (k l : Key) → part k l ≡ by_common k l (common k l)
unfolding part common by_common pair
part_by_common [] [] = refl
part_by_common [] (x ∷ l) = refl
part_by_common (y ∷ k) [] = refl
part_by_common (y ∷ k) (x ∷ l) =
    elim (cmp y x) [
      | less h e ↦ rw (e, part, common)
      | even h e ↦ rw (e, part, common) (ap (push x) (part_by_common k l) ∙ sym (pair-push x (take (common k l) l) (drop (common k l) k) (drop (common k l) l)))
      | more h e ↦ rw (e, part, common)
    ]

pub strip_by_common : (l k : Key) → common k l ≡ length l → strip l k ≡ some (drop (length l) k)
unfolding strip common
strip_by_common [] k h = refl
strip_by_common (x ∷ l) [] h = absurd (omega arith)
strip_by_common (x ∷ l) (y ∷ k) h =
    elim (cmp y x) [
      | less i e ↦ let j : 0 ≡ suc (length l) = rw (e, common) at h in absurd (omega arith)
      | even i e ↦ let j : suc (common k l) ≡ suc (length l) = rw (e, common) at h in rw (e, strip) (strip_by_common l k (omega arith))
      | more i e ↦ let j : 0 ≡ suc (length l) = rw (e, common) at h in absurd (omega arith)
    ]

pub strip_by_common_none : (l k : Key) → common k l < length l → strip l k ≡ none
unfolding strip common
strip_by_common_none [] k h = absurd (omega arith)
strip_by_common_none (x ∷ l) [] h = refl
strip_by_common_none (x ∷ l) (y ∷ k) h =
    elim (cmp y x) [
      | less i e ↦ rw (e, strip)
      | even i e ↦ let j : suc (common k l) < suc (length l) = rw (e, common) at h in rw (e, strip) (strip_by_common_none l k (omega arith))
      | more i e ↦ rw (e, strip)
    ]
