-- How far a slot reaches: by its start alone, and from child to child; spans put right one by one. Assumes nothing.
use mathlib.Core.Path.{◌≡◌, refl, sym, ap, ◌∙◌, subst}
use mathlib.Core.List.{List}
use Prim.Native.Nat.{ℕ, zero, suc, ◌+◌, ◌-◌, ◌≤◌, ◌<◌}
use native.Mathlib.Omega.{arith}
use lib.ListN.{length, get_or, set, length-set}
use lib.Seq.{get_or-set_same, get_or-set_other}
use borrow.Author.Tests.{le-leb, lt-leb}
use Rattle.label.proofs.Moves.{by_lt, by_eq}
use Rattle.slots.specs.Layout.{words_for, field_at, len_field, span_field, start_of, len_of, span_of}
use Rattle.splice.specs.Splice.{reach, Linked, Relinked}

module _ (ws : List ℕ) (base : ℕ) where
  pub reach-none : (i : ℕ) → reach ws base i 0 ≡ 0
  unfolding reach
  reach-none i = refl

  pub reach-on : (i m : ℕ) → base ≤ start_of ws i → reach ws base i (suc m) ≡ suc (reach ws base (suc i) m)
  unfolding reach
  reach-on i m h = rw (le-leb base (start_of ws i) h, reach)

  pub reach-stop : (i m : ℕ) → start_of ws i < base → reach ws base i m ≡ 0
  unfolding reach
  reach-stop i zero h = refl
  reach-stop i (suc m) h = rw (lt-leb base (start_of ws i) h, reach)

  pub reach-most : (i m : ℕ) → reach ws base i m ≤ m
  reach-most i zero = omega (arith, reach-none i)
  reach-most i (suc m) =
      let ih = reach-most (suc i) m in
      by_lt (start_of ws i) base (λ l. omega (arith, reach-stop i (suc m) l)) (λ l. omega (arith, reach-on i m l))

-- under other names of the numbers
pub reach-at : (ws : List ℕ) {b b' i i' m m' : ℕ} → b ≡ b' → i ≡ i' → m ≡ m' → reach ws b i m ≡ reach ws b' i' m'
reach-at ws p q r = cc

-- What reaches deeper belongs to what reaches less deep.
pub reach_jump : (ws : List ℕ) (b d : ℕ) → b ≤ d → (i m : ℕ) → reach ws b i m ≡ reach ws d i m + reach ws b (i + reach ws d i m) (m - reach ws d i m)
reach_jump ws b d h i zero =
    let z = reach-none ws d i in
    let e : reach ws b (i + reach ws d i 0) (0 - reach ws d i 0) ≡ reach ws b i 0 = reach-at ws refl (omega arith) (omega arith) in
    omega arith
reach_jump ws b d h i (suc m) = by_lt (start_of ws i) d stop (go (reach_jump ws b d h (suc i) m))
  where
    stop : start_of ws i < d → reach ws b i (suc m) ≡ reach ws d i (suc m) + reach ws b (i + reach ws d i (suc m)) (suc m - reach ws d i (suc m))
    stop l =
        let z = reach-stop ws d i (suc m) l in
        let e : reach ws b (i + reach ws d i (suc m)) (suc m - reach ws d i (suc m)) ≡ reach ws b i (suc m) = reach-at ws refl (omega arith) (omega arith) in
        omega arith

    go : reach ws b (suc i) m ≡ reach ws d (suc i) m + reach ws b (suc i + reach ws d (suc i) m) (m - reach ws d (suc i) m)
        → d ≤ start_of ws i → reach ws b i (suc m) ≡ reach ws d i (suc m) + reach ws b (i + reach ws d i (suc m)) (suc m - reach ws d i (suc m))
    go ih l =
        let p = reach-on ws b i m (omega arith) in
        let q = reach-on ws d i m l in
        let e : reach ws b (i + reach ws d i (suc m)) (suc m - reach ws d i (suc m)) ≡ reach ws b (suc i + reach ws d (suc i) m) (m - reach ws d (suc i) m) =
        reach-at ws refl (omega arith) (omega arith) in
        omega arith

-- A walk from child to child has passed what belongs to the slot.
pub record Walked (ws : List ℕ) (base i n j : ℕ) : Type 0 where
  pub low : i < j
  pub high : j ≤ n
  pub rest : reach ws base (i + 1) (n - (i + 1)) ≡ j - (i + 1) + reach ws base j (n - j)

pub walk_start : (ws : List ℕ) (base i n : ℕ) → i < n → Walked ws base i n (i + 1)
walk_start ws base i n h = record { low = omega arith; high = omega arith; rest = omega arith }

pub walk-on : (ws : List ℕ) (base i n j s : ℕ) → Linked ws (i + 1) n → base ≤ start_of ws j → j < n → s ≡ span_of ws j → Walked ws base i n j → Walked ws base i n (j + s)
walk-on ws base i n j s link h l e w =
    let d = start_of ws j + len_of ws j in
    let x = link j (omega (arith, w.low)) l in
    let y = reach-most ws d (j + 1) (n - (j + 1)) in
    let o : reach ws base j (n - j) ≡ reach ws base j (suc (n - suc j)) = reach-at ws refl refl (omega arith) in
    let a = reach-on ws base j (n - suc j) h in
    let b = reach_jump ws base d (omega arith) (j + 1) (n - (j + 1)) in
    let c : reach ws base (suc j) (n - suc j) ≡ reach ws base (j + 1) (n - (j + 1)) = reach-at ws refl (omega arith) (omega arith) in
    let f : reach ws base (j + 1 + reach ws d (j + 1) (n - (j + 1))) (n - (j + 1) - reach ws d (j + 1) (n - (j + 1))) ≡ reach ws base (j + s) (n - (j + s)) =
    reach-at ws refl (omega arith) (omega arith) in
    record { low = omega (arith, w.low); high = omega arith; rest = omega (arith, w.rest, w.low) }

-- the walk ends at a slot that starts less deep, or behind the last one
pub walk-stop : (ws : List ℕ) (base i n j : ℕ) → start_of ws j < base → Walked ws base i n j → j - i ≡ 1 + reach ws base (i + 1) (n - (i + 1))
walk-stop ws base i n j h w = omega (arith, reach-stop ws base j (n - j) h, w.rest, w.low)

pub walk_end : (ws : List ℕ) (base i n j : ℕ) → n ≤ j → Walked ws base i n j → j - i ≡ 1 + reach ws base (i + 1) (n - (i + 1))
walk_end ws base i n j h w =
    let e : reach ws base j (n - j) ≡ reach ws base j 0 = reach-at ws refl refl (omega (arith, w.high)) in
    omega (arith, reach-none ws base j, w.rest, w.low)

-- The spans from slot i on are right, and nothing else has changed.
pub record Linking (ws vs : List ℕ) (i n : ℕ) : Type 0 where
  pub len : length vs ≡ length ws
  pub spans : Linked vs i n
  pub rest : (j : ℕ) → ((x : ℕ) → j ≡ field_at x span_field → ⊥) → get_or vs j 0 ≡ get_or ws j 0

pub linking_none : (ws : List ℕ) (n : ℕ) → Linking ws ws n n
linking_none ws n = record { len = refl; spans = λ j a b. absurd (omega arith); rest = λ j h. refl }

pub linking_done : {ws vs : List ℕ} {i n : ℕ} → i ≡ 0 → Linking ws vs i n → Relinked ws vs n
linking_done e k = record { len = k.len; spans = λ j a b. k.spans j (omega arith) b; rest = k.rest }

-- starts and lengths are not spans, so a span that is written moves no reach
pub start-kept : (vs : List ℕ) (i s j : ℕ) → start_of (set vs (field_at i span_field) s) j ≡ start_of vs j
start-kept vs i s j = get_or-set_other vs (field_at i span_field) (words_for j) s 0 (λ e. omega arith)

pub len-kept : (vs : List ℕ) (i s j : ℕ) → len_of (set vs (field_at i span_field) s) j ≡ len_of vs j
len-kept vs i s j = get_or-set_other vs (field_at i span_field) (field_at j len_field) s 0 (λ e. omega arith)

reach-kept : (vs : List ℕ) (x s base i m : ℕ) → reach (set vs (field_at x span_field) s) base i m ≡ reach vs base i m
reach-kept vs x s base i zero = reach-none (set vs (field_at x span_field) s) base i ∙ sym (reach-none vs base i)
reach-kept vs x s base i (suc m) =
    let us = set vs (field_at x span_field) s in
    let k = start-kept vs x s i in
    let ih = reach-kept vs x s base (suc i) m in
    by_lt (start_of vs i) base
    (λ l. reach-stop us base i (suc m) (omega (arith, k)) ∙ sym (reach-stop vs base i (suc m) l))
    (λ l. reach-on us base i m (omega (arith, k)) ∙ ap suc ih ∙ sym (reach-on vs base i m l))

pub linking_more : (ws vs : List ℕ) (i n s : ℕ) → i < n → words_for n ≤ length ws
    → s ≡ 1 + reach vs (start_of vs i + len_of vs i) (i + 1) (n - (i + 1)) → Linking ws vs (i + 1) n → Linking ws (set vs (field_at i span_field) s) i n
linking_more ws vs i n s h r e k =
    let kept : (j : ℕ) → reach (set vs (field_at i span_field) s) (start_of (set vs (field_at i span_field) s) j + len_of (set vs (field_at i span_field) s) j) (j + 1) (n - (j + 1))
    ≡ reach vs (start_of vs j + len_of vs j) (j + 1) (n - (j + 1)) =
    λ j. rw (start-kept vs i s j, len-kept vs i s j) (reach-kept vs i s (start_of vs j + len_of vs j) (j + 1) (n - (j + 1))) in
    record {
      len = length-set vs (field_at i span_field) s ∙ k.len;
      spans = λ j a b.
          by_eq j i
          (λ q. rw q (get_or-set_same vs (field_at i span_field) s 0 (omega (arith, k.len)) ∙ e ∙ ap (λ (x : ℕ). 1 + x) (sym (kept i))))
          (λ ne. get_or-set_other vs (field_at i span_field) (field_at j span_field) s 0 (λ q. ne (omega arith)) ∙ k.spans j (by_lt i j (λ l. omega arith) (λ l. absurd (ne (omega arith)))) b ∙ ap (λ (x : ℕ). 1 + x) (sym (kept j)));
      rest = λ j q. get_or-set_other vs (field_at i span_field) j s 0 (q i) ∙ k.rest j q;
    }

-- What the walk has counted, with the end of the slot's label for its base
pub extent_is : (ws : List ℕ) (base i n x : ℕ) → base ≡ start_of ws i + len_of ws i → x ≡ 1 + reach ws base (i + 1) (n - (i + 1)) → n ≤ 16384 → i < n
    → (x ≡ 1 + reach ws (start_of ws i + len_of ws i) (i + 1) (n - (i + 1))) × (x ≤ 16384)
extent_is ws base i n x e h l o =
    let r : reach ws base (i + 1) (n - (i + 1)) ≡ reach ws (start_of ws i + len_of ws i) (i + 1) (n - (i + 1)) = reach-at ws e refl refl in
    (omega arith, omega (arith, reach-most ws base (i + 1) (n - (i + 1))))

pub linking_at : {ws vs : List ℕ} {i i' n : ℕ} → i ≡ i' → Linking ws vs i n → Linking ws vs i' n
linking_at {ws} {vs} {i} {i'} {n} e k = subst (λ (x : ℕ). Linking ws vs x n) e k

-- a turn of the loop
pub linking_step : (ws vs us : List ℕ) (i n s : ℕ) → 0 < i → i ≤ n → words_for n ≤ length ws
    → s ≡ 1 + reach vs (start_of vs (i - 1) + len_of vs (i - 1)) (i - 1 + 1) (n - (i - 1 + 1)) → us ≡ set vs (field_at (i - 1) span_field) s
    → Linking ws vs i n → Linking ws us (i - 1) n
linking_step ws vs us i n s p h r e u k = rw u (linking_more ws vs (i - 1) n s (omega arith) r e (linking_at (omega arith) k))
