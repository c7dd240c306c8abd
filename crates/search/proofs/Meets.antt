-- How what is left of a key meets a label: by the lengths, as the code finds it, and what each meeting says. Assumes nothing.
use mathlib.Core.Path.{◌≡◌, refl, sym, ap, ◌∙◌}
use mathlib.Core.List.{List, [], ◌∷◌, ◌++◌}
use Prim.Native.Nat.{ℕ, zero, suc, ◌-◌, ◌≤◌, ◌<◌}
use native.Mathlib.Omega.{arith}
use lib.Dec.{eqb}
use lib.ListN.{length, get_or, take, drop, length-append, length-drop}
use lib.Seq.{drop-cons, take_all}
use borrow.Author.Tests.{eq-eqb, ne_eqb}
use Rattle.tree.specs.Key.{Key, pick, common, key_ends, fork, part}
use Rattle.tree.proofs.Order.{less, even, more, cmp, cmp_lt, cmp_gt, cmp_refl}
use Rattle.tree.proofs.Parts.{alike, inside, beyond, apart, parted}
use Rattle.slots.specs.Layout.{bytes_for, len_of, first_of, label_of}
use Rattle.search.specs.declared.Meeting.{Meeting}
use Rattle.search.specs.Landing.{meeting_of, InPool}

-- What two keys share, by how they part
common-same : (k : Key) → common k k ≡ length k
unfolding common
common-same [] = refl
common-same (x ∷ k) = rw (cmp_refl x, common) (ap suc (common-same k))

common-inside : (k : Key) (x : ℕ) (r : Key) → common k (k ++ x ∷ r) ≡ length k
unfolding common
common-inside [] x r = refl
common-inside (y ∷ k) x r = rw (cmp_refl y, common) (ap suc (common-inside k x r))

common_beyond : (l : Key) (y : ℕ) (r : Key) → common (l ++ y ∷ r) l ≡ length l
unfolding common
common_beyond [] y r = refl
common_beyond (x ∷ l) y r = rw (cmp_refl x, common) (ap suc (common_beyond l y r))

common_apart : (p : Key) (y : ℕ) (k : Key) (x : ℕ) (l : Key) → ¬ (y ≡ x) → common (p ++ y ∷ k) (p ++ x ∷ l) ≡ length p
unfolding common
common_apart [] y k x l ne = elim (cmp y x) [ less h e ↦ rw (e, common) | even h e ↦ absurd (ne h) | more h e ↦ rw (e, common) ]
common_apart (z ∷ p) y k x l ne = rw (cmp_refl z, common) (ap suc (common_apart p y k x l ne))

-- The meeting by how many bytes are shared, of how many of the key and how many of the label
unfoldable pub by_lengths : (shared key label : ℕ) → Meeting
by_lengths m n o = pick (eqb m o) (pick (eqb m n) Meeting.Same (Meeting.Through m)) (pick (eqb m n) (Meeting.Inside m) (Meeting.Fork m))

module _ (m n o : ℕ) where
  pub by_same : m ≡ o → m ≡ n → Meeting.Same ≡ by_lengths m n o
  unfolding by_lengths pick
  by_same h i = rw (eq-eqb m o h, eq-eqb m n i)

  pub by_through : m ≡ o → ¬ (m ≡ n) → Meeting.Through m ≡ by_lengths m n o
  unfolding by_lengths pick
  by_through h i = rw (eq-eqb m o h, ne_eqb m n i)

  pub by_inside : ¬ (m ≡ o) → m ≡ n → Meeting.Inside m ≡ by_lengths m n o
  unfolding by_lengths pick
  by_inside h i = rw (ne_eqb m o h, eq-eqb m n i)

  pub by_fork : ¬ (m ≡ o) → ¬ (m ≡ n) → Meeting.Fork m ≡ by_lengths m n o
  unfolding by_lengths pick
  by_fork h i = rw (ne_eqb m o h, ne_eqb m n i)

meeting_same : (y : ℕ) (k l : Key) (m : ℕ) → m ≡ common k l → meeting_of (y ∷ k) (y ∷ l) ≡ by_lengths (suc m) (suc (length k)) (suc (length l))
meeting_same y k l m h =
    elim (parted k l) [
      | alike i s ↦ rw (cmp_refl y, meeting_of, s) (by_same _ _ _ (omega (arith, ap length i, both i)) (omega (arith, both i)))
      | inside x r i s ↦
          let n = simp length-append at (ap length i) in
          let c : common k l ≡ length k = rw i (common-inside k x r) in
          let e : suc (length k) ≡ suc m = omega arith in
          rw (cmp_refl y, meeting_of, s, e) (by_inside (suc m) _ _ (λ z. omega arith) (omega arith))
      | beyond z r i s ↦
          let n = simp length-append at (ap length i) in
          let c : common k l ≡ length l = rw i (common_beyond l z r) in
          let e : suc (length l) ≡ suc m = omega arith in
          rw (cmp_refl y, meeting_of, s) (ap Meeting.Through e ∙ by_through (suc m) _ _ (omega arith) (λ z. omega arith))
      | apart p z k₁ x l₁ i j ne s ↦
          let a = simp length-append at (ap length i) in
          let b = simp length-append at (ap length j) in
          let c : common k l ≡ length p = rw (i, j) (common_apart p z k₁ x l₁ ne) in
          let e : suc (length p) ≡ suc m = omega arith in
          rw (cmp_refl y, meeting_of, s) (ap Meeting.Fork e ∙ by_fork (suc m) _ _ (λ z. omega arith) (λ z. omega arith))
    ]
  where
    both : k ≡ l → common k l ≡ length k
    both i = rw (sym i) (common-same k)

meeting_runs : (a : ℕ) (k : Key) (b : ℕ) (l : Key) → a ≡ b → by_lengths (common (a ∷ k) (b ∷ l)) (suc (length k)) (suc (length l)) ≡ meeting_of (a ∷ k) (b ∷ l)
unfolding common
meeting_runs a k b l e = rw (e, cmp_refl b, common) (sym (meeting_same b k l _ refl))

-- A label that is not empty starts with its slot's first byte.
label-starts : (ws bs : List ℕ) (c : ℕ) → InPool ws bs c → label_of ws bs c ≡ first_of bs c ∷ drop 1 (label_of ws bs c)
label-starts ws bs c i = go (len_of ws c) (drop (bytes_for c) bs) (drop-cons bs (bytes_for c) 0 (omega (arith, i.labels))) i.some
  where
    go : (m : ℕ) (s : List ℕ) → s ≡ first_of bs c ∷ drop (suc (bytes_for c)) bs → 1 ≤ m → take m (take 255 s) ≡ first_of bs c ∷ drop 1 (take m (take 255 s))
    go zero s e h = absurd (omega arith)
    go (suc m) s e h = rw e

-- The key from p on meets the label of slot c, where b is that label's first byte.
module _ (ws bs key : List ℕ) (c p b : ℕ) (i : InPool ws bs c) (left : p < length key) (first : b ≡ first_of bs c) where
  pub meets_below : get_or key p 0 < b → Meeting.Before ≡ meeting_of (drop p key) (label_of ws bs c)
  meets_below h = rw (drop-cons key p 0 left, label-starts ws bs c i, ← first, cmp_lt _ _ h, meeting_of)

  pub meets_above : b < get_or key p 0 → Meeting.Past ≡ meeting_of (drop p key) (label_of ws bs c)
  meets_above h = rw (drop-cons key p 0 left, label-starts ws bs c i, ← first, cmp_gt _ _ h, meeting_of)

  -- the two runs as the code compares them
  pub meets_runs : get_or key p 0 ≡ b → (rest label : Key) (m : ℕ) → rest ≡ drop p key → label ≡ label_of ws bs c → m ≡ common rest label
      → by_lengths m (length rest) (length label) ≡ meeting_of (drop p key) (label_of ws bs c)
  meets_runs e rest label m er el em = rw (em, er, el, drop-cons key p 0 left, label-starts ws bs c i, ← first) (meeting_runs _ _ _ _ e)

-- a run to the end of the key
pub run_on : (key : List ℕ) (p : ℕ) → take (length key - p) (drop p key) ≡ drop p key
run_on key p = take_all (length key - p) (drop p key) (simp length-drop (omega arith))

-- What a meeting says of y ∷ r, what is left of the key, and the label b ∷ l
pub record EndsInside (y : ℕ) (r : Key) (b : ℕ) (l : Key) (m : ℕ) : Type 0 where
  pub first : y ≡ b
  pub x : ℕ
  pub tail : Key
  pub label : l ≡ r ++ x ∷ tail
  pub bytes : m ≡ suc (length r)
  pub parts : part r l ≡ key_ends x tail

pub record GoesOn (y : ℕ) (r : Key) (b : ℕ) (l : Key) (m : ℕ) : Type 0 where
  pub first : y ≡ b
  pub z : ℕ
  pub left : Key
  pub key : r ≡ l ++ z ∷ left
  pub bytes : m ≡ suc (length l)

pub record Forks (y : ℕ) (r : Key) (b : ℕ) (l : Key) (m : ℕ) : Type 0 where
  pub first : y ≡ b
  pub shared : Key
  pub z : ℕ
  pub left : Key
  pub x : ℕ
  pub tail : Key
  pub key : r ≡ shared ++ z ∷ left
  pub label : l ≡ shared ++ x ∷ tail
  pub differ : ¬ (z ≡ x)
  pub bytes : m ≡ suc (length shared)
  pub parts : part r l ≡ fork shared z left x tail

abbrev pub Means : Meeting → ℕ → Key → ℕ → Key → Type 0
Means Meeting.Before y r b l = y < b
Means Meeting.Past y r b l = b < y
Means Meeting.Same y r b l = (y ≡ b) × (r ≡ l)
Means (Meeting.Inside m) y r b l = EndsInside y r b l m
Means (Meeting.Through m) y r b l = GoesOn y r b l m
Means (Meeting.Fork m) y r b l = Forks y r b l m

pub means : (y : ℕ) (r : Key) (b : ℕ) (l : Key) → Means (meeting_of (y ∷ r) (b ∷ l)) y r b l
means y r b l =
    elim (cmp y b) [
      | less h e ↦ rw (e, meeting_of) h
      | even h e ↦
          elim (parted r l) [
            | alike i s ↦ rw (e, meeting_of, s) (h, i)
            | inside x t i s ↦ rw (e, meeting_of, s) (record { first = h; x = x; tail = t; label = i; bytes = refl; parts = s })
            | beyond z t i s ↦ rw (e, meeting_of, s) (record { first = h; z = z; left = t; key = i; bytes = refl })
            | apart p z k₁ x l₁ i j ne s ↦
                rw (e, meeting_of, s)
                (record { first = h; shared = p; z = z; left = k₁; x = x; tail = l₁; key = i; label = j; differ = ne; bytes = refl; parts = s })
          ]
      | more h e ↦ rw (e, meeting_of) h
    ]
