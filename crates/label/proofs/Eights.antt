-- The count of shared bytes goes on from any place among them, one byte or eight farther. Assumes nothing.
use mathlib.Core.Path.{◌≡◌, sym}
use mathlib.Core.List.{List, [], ◌∷◌}
use mathlib.Core.Bool.{true, false}
use Prim.Native.Nat.{ℕ, zero, suc, ◌+◌, ◌*◌, ◌≤◌, ◌<◌, min}
use native.Mathlib.Nat.{add_assoc, add-zero, mul-zero}
use native.Mathlib.Omega.{arith}
use borrow.Author.Tests.{leb-true, leb-false, lt-leb, eq-eqb, ne_eqb}
use lib.Dec.{leb, eqb, leb-zero, leb-suc-suc}
use lib.ListN.{length, drop, get_or}
use Rattle.tree.specs.Key.{Key, common}
use Rattle.tree.proofs.Order.{less, even, more, cmp}
use Rattle.tree.proofs.Common.{common-more, common-off}
use Rattle.label.specs.Runs.{four_at, eight_at}
use Rattle.label.proofs.Moves.{by_lt, by_eq}

-- the count is that of the bytes passed and of those behind them
common_from : (n : ℕ) (k l : Key) → n ≤ common k l → common k l ≡ n + common (drop n k) (drop n l)
unfolding common
common_from zero k l h = omega arith
common_from (suc n) [] l h = absurd (omega arith)
common_from (suc n) (x ∷ k) [] h = absurd (omega arith)
common_from (suc n) (x ∷ k) (y ∷ l) h =
    elim (cmp x y) [
      | less i e ↦ let j : suc n ≤ 0 = rw (e, common) at h in absurd (omega arith)
      | even i e ↦
          let j : suc n ≤ suc (common k l) = rw (e, common) at h in
          rw (e, common) (omega (arith, common_from n k l (omega arith)))
      | more i e ↦ let j : suc n ≤ 0 = rw (e, common) at h in absurd (omega arith)
    ]

-- no more is shared than the shorter one has
pub common-within : (k l : Key) → common k l ≤ min (length k) (length l)
unfolding common
common-within [] l = omega arith
common-within (x ∷ k) [] = omega arith
common-within (x ∷ k) (y ∷ l) =
    elim (cmp x y) [
      | less i e ↦ rw (e, common) (omega arith)
      | even i e ↦ rw (e, common) (omega (arith, common-within k l))
      | more i e ↦ rw (e, common) (omega arith)
    ]

-- n bytes at i as one number, the first the lowest
unfoldable word_at : List ℕ → (i n : ℕ) → ℕ
word_at b i zero = 0
word_at b i (suc n) = get_or b i 0 + 256 * word_at b (i + 1) n

four_word : (b : List ℕ) (i : ℕ) → word_at b i 4 ≡ four_at b i
unfolding word_at
four_word b i = simp (add_assoc, mul-zero, add-zero)

eight_word : (b : List ℕ) (i : ℕ) → word_at b i 8 ≡ eight_at b i
unfolding word_at
eight_word b i = simp add_assoc (omega arith)

-- the lowest byte is told by the number
low_same : (x u y v : ℕ) → x < 256 → y < 256 → x + 256 * u ≡ y + 256 * v → x ≡ y
low_same x u y v hx hy e =
    by_lt u v (λ h. absurd (omega arith)) (λ h. by_lt v u (λ g. absurd (omega arith)) (λ g. omega arith))

module _ (k l : List ℕ) (bytes_k : (j : ℕ) → get_or k j 0 < 256) (bytes-l : (j : ℕ) → get_or l j 0 < 256) where
  -- n bytes at i are one number in both exactly where as many are shared
  word_same : (n i : ℕ) → i + n ≤ length k → i + n ≤ length l
      → eqb (word_at k i n) (word_at l i n) ≡ leb n (common (drop i k) (drop i l))
  unfolding word_at
  word_same zero i in_k in_l = sym (leb-zero (common (drop i k) (drop i l)))
  word_same (suc n) i in_k in_l =
      let x = get_or k i 0 in
      let y = get_or l i 0 in
      let u = word_at k (i + 1) n in
      let v = word_at l (i + 1) n in
      let rest = common (drop (i + 1) k) (drop (i + 1) l) in
      by_eq x y
      (λ e.
      let up : common (drop i k) (drop i l) ≡ suc rest =
      omega (arith, common-more k l i (omega arith) (omega arith) e) in
      let above : eqb u v ≡ leb n rest = word_same n (i + 1) (omega arith) (omega arith) in
      rw (up, leb-suc-suc n rest, ← above)
      (by_eq u v
      (λ f. rw (eq-eqb u v f, eq-eqb (x + 256 * u) (y + 256 * v) (omega arith)))
      (λ f. rw (ne_eqb u v f, ne_eqb (x + 256 * u) (y + 256 * v) (λ g. f (omega arith))))))
      (λ e.
      let none : common (drop i k) (drop i l) ≡ 0 = common-off k l i (omega arith) (omega arith) e in
      rw (none, lt-leb (suc n) 0 (omega arith))
      (ne_eqb (x + 256 * u) (y + 256 * v) (λ g. e (low_same x u y v (bytes_k i) (bytes-l i) g))))

  pub four_same : (i : ℕ) → i + 4 ≤ length k → i + 4 ≤ length l
      → eqb (four_at k i) (four_at l i) ≡ leb 4 (common (drop i k) (drop i l))
  four_same i in_k in_l = rw (← four_word k i, ← four_word l i) (word_same 4 i in_k in_l)

  pub eight_same : (i : ℕ) → i + 8 ≤ length k → i + 8 ≤ length l
      → eqb (eight_at k i) (eight_at l i) ≡ leb 8 (common (drop i k) (drop i l))
  eight_same i in_k in_l = rw (← eight_word k i, ← eight_word l i) (word_same 8 i in_k in_l)

module _ (k l : Key) (i : ℕ) (among : i ≤ common k l) where
  -- a step of n that is taken, and one that is not
  pub step_on : (n : ℕ) → leb n (common (drop i k) (drop i l)) ≡ true → i + n ≤ common k l
  step_on n e = omega (arith, common_from i k l among, leb-true n (common (drop i k) (drop i l)) e)

  pub step_off : (n : ℕ) → leb n (common (drop i k) (drop i l)) ≡ false → common k l < i + n
  step_off n e = omega (arith, common_from i k l among, leb-false n (common (drop i k) (drop i l)) e)

  -- a single byte that is shared, and one that is not
  module _ (in_k : i < length k) (in_l : i < length l) where
    pub common-next : get_or k i 0 ≡ get_or l i 0 → i + 1 ≤ common k l
    common-next e = omega (arith, common_from i k l among, common-more k l i in_k in_l e)

    pub common-at : ¬ (get_or k i 0 ≡ get_or l i 0) → i ≡ common k l
    common-at e = omega (arith, common_from i k l among, common-off k l i in_k in_l e)
