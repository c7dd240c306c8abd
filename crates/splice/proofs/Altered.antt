-- One slot altered in its place: what it says then, and that every span stays. Assumes nothing.
use mathlib.Core.Path.{◌≡◌, refl, sym, ap, ◌∙◌}
use mathlib.Core.List.{List, ◌++◌}
use Prim.Native.Nat.{ℕ, ◌+◌, ◌-◌, ◌≤◌, ◌<◌}
use native.Mathlib.Omega.{arith}
use lib.ListN.{length, get_or, set, length-set, length-append, get_or-append}
use lib.Seq.{get_or-set_same, get_or-set_other, get_or-append-add, ext_get_or}
use Rattle.tree.specs.Map.{Num}
use Rattle.label.specs.Runs.{MovedDown}
use Rattle.label.proofs.Moves.{by_lt, by_eq}
use Rattle.slots.specs.Layout.{bytes_for, WordsIn, RoomIn, field_at, start_field, len_field, has_field, low_field, span_field, high_field, start_of, len_of, has_of, span_of, label_of, num_of, num_at}
use Rattle.slots.specs.Bare.{Bare, bare_at, head_put}
use Rattle.splice.specs.Altered.{gap_of, numberless, join_of, Altered, Joinable, Emptied}
use Rattle.slots.proofs.Slots.{at_place, label_put, bare_eq, put-length, put_low, put-mid, put-high, filled_by, head-span}
use Rattle.slots.proofs.Cuts.{label-length, label_get}

-- A word of a slot written, but no span
module _ (ws bs : List ℕ) (at o v : ℕ) (low : 1 ≤ o) (high : o < 4) where
  abbrev one : List ℕ
  one = set ws (field_at at o) v

  others : (i : ℕ) → (i ≡ at → ⊥) → bare_at one bs i ≡ bare_at ws bs i
  others i ne =
      bare_eq one bs ws bs i i
      (λ p h _. get_or-set_other ws (field_at at o) (field_at i p) v 0 (λ e. by_lt i at (λ l. omega arith) (λ l. by_lt at i (λ m. omega arith) (λ m. ne (omega arith)))))
      refl

  written : (x : Bare) → bare_at one bs at ≡ x → Altered ws bs one bs at x
  written x e =
      record {
        filled = record {
          len_w = length-set ws (field_at at o) v;
          len_b = refl;
          head = λ j h. get_or-set_other ws (field_at at o) j v 0 (λ q. omega arith);
          slot = e;
          others = λ i ne r. others i ne;
          spans = λ i ne. get_or-set_other ws (field_at at o) (field_at i span_field) v 0 (λ q. omega arith);
        };
        spans = λ i. get_or-set_other ws (field_at at o) (field_at i span_field) v 0 (λ q. omega arith);
      }

  kept : (p : ℕ) → (p ≡ o → ⊥) → get_or one (field_at at p) 0 ≡ get_or ws (field_at at p) 0
  kept p ne = get_or-set_other ws (field_at at o) (field_at at p) v 0 (λ e. ne (omega arith))

-- The code's setters, told so
pub gap_opened : (ws vs bs : List ℕ) (at : ℕ) → WordsIn ws at → vs ≡ set ws (field_at at len_field) 0
    → Altered ws bs vs bs at (gap_of (bare_at ws bs at))
unfolding bare_at
gap_opened ws vs bs at h e =
    let us = set ws (field_at at len_field) 0 in
    let same = kept ws bs at len_field 0 (omega arith) (omega arith) in
    let w₀ : start_of us at ≡ start_of ws at = same start_field (λ q. omega arith) in
    let w₁ : len_of us at ≡ 0 = get_or-set_same ws (field_at at len_field) 0 0 (omega arith) in
    let w₂ : has_of us at ≡ has_of ws at = same has_field (λ q. omega arith) in
    let low = same low_field (λ q. omega arith) in
    let high = same high_field (λ q. omega arith) in
    rw e (written ws bs at len_field 0 (omega arith) (omega arith) (gap_of (bare_at ws bs at)) (rw (w₀, w₁, w₂, low, high) refl))

pub number_dropped : (ws vs bs : List ℕ) (at : ℕ) → WordsIn ws at → vs ≡ set ws (field_at at has_field) 0
    → Altered ws bs vs bs at (numberless (bare_at ws bs at))
unfolding bare_at num_of
number_dropped ws vs bs at h e =
    let us = set ws (field_at at has_field) 0 in
    let same = kept ws bs at has_field 0 (omega arith) (omega arith) in
    let w₀ : start_of us at ≡ start_of ws at = same start_field (λ q. omega arith) in
    let w₁ : len_of us at ≡ len_of ws at = same len_field (λ q. omega arith) in
    let w₂ : has_of us at ≡ 0 = get_or-set_same ws (field_at at has_field) 0 0 (omega arith) in
    rw e (written ws bs at has_field 0 (omega arith) (omega arith) (numberless (bare_at ws bs at)) (rw (w₀, w₁, w₂) refl))

-- The child's label moved down behind the slot's own is both labels put.
module _ (ws bs cs : List ℕ) (at child : ℕ) (j : Joinable ws bs at child) (k : ℕ) (by : k ≡ bytes_for child - (bytes_for at + len_of ws at))
    (s : MovedDown bs cs (bytes_for child) (bytes_for child + len_of ws child) k) where
  abbrev own : List ℕ
  own = label_of ws bs at

  abbrev more : List ℕ
  more = label_of ws bs child

  own-length : length own ≡ len_of ws at
  own-length = label-length ws bs at (omega (arith, j.short)) (omega (arith, j.order, j.labels))

  more-length : length more ≡ len_of ws child
  more-length = label-length ws bs child (omega (arith, j.short)) j.labels

  both-length : length (own ++ more) ≡ len_of ws at + len_of ws child
  both-length = length-append own more ∙ omega (arith, own-length, more-length)

  fits : bytes_for at + length (own ++ more) ≤ length bs
  fits = omega (arith, both-length, j.order, j.labels, j.short)

  -- a place within the slot's own label, within the child's, or behind both
  own-place : (o : ℕ) → o < len_of ws at → get_or cs (bytes_for at + o) 0 ≡ get_or (label_put bs at (own ++ more)) (bytes_for at + o) 0
  own-place o h =
      s.low (bytes_for at + o) (omega (arith, j.order, j.short))
      ∙ sym
      (put-mid bs at (own ++ more) fits o (omega (arith, both-length))
      ∙ get_or-append own more 0 o (omega (arith, own-length))
      ∙ label_get ws bs at (omega (arith, j.short)) (omega (arith, j.order, j.labels)) o h)

  more-place : (o : ℕ) → o < len_of ws child → get_or cs (bytes_for at + (len_of ws at + o)) 0 ≡ get_or (label_put bs at (own ++ more)) (bytes_for at + (len_of ws at + o)) 0
  more-place o h =
      s.mid (bytes_for at + (len_of ws at + o)) (omega (arith, j.order, j.short)) (omega (arith, j.order, j.short))
      ∙ at_place bs (omega (arith, j.order, j.short))
      ∙ sym
      (put-mid bs at (own ++ more) fits (len_of ws at + o) (omega (arith, both-length))
      ∙ at_place (own ++ more) (omega (arith, own-length))
      ∙ get_or-append-add own more o 0
      ∙ label_get ws bs child (omega (arith, j.short)) j.labels o h)

  pub both-put : cs ≡ label_put bs at (own ++ more)
  both-put =
      let n = len_of ws at in
      let l = own ++ more in
      ext_get_or 0 cs (label_put bs at l) (s.len ∙ sym (put-length bs at l fits))
      (λ i h.
      by_lt i (bytes_for at)
      (λ a. s.low i (omega (arith, j.order, j.short)) ∙ sym (put_low bs at l fits i a))
      (λ a.
      let o = i - bytes_for at in
      by_lt o n
      (λ b. at_place cs (omega arith) ∙ own-place o b ∙ at_place (label_put bs at l) (omega arith))
      (λ b.
      by_lt (o - n) (len_of ws child)
      (λ d. at_place cs (omega arith) ∙ more-place (o - n) d ∙ at_place (label_put bs at l) (omega arith))
      (λ d. s.high i (omega (arith, j.order, j.short)) ∙ sym (put-high bs at l fits i (omega (arith, both-length)))))))

pub joined : (ws bs vs cs : List ℕ) (at child k start own more : ℕ) (w : Num) → vs ≡ head_put ws at start (own + more) w
    → MovedDown bs cs (bytes_for child) (bytes_for child + more) k → w ≡ num_at ws child → Joinable ws bs at child → start ≡ start_of ws at → own ≡ len_of ws at → more ≡ len_of ws child
    → k ≡ bytes_for child - (bytes_for at + own) → Altered ws bs vs cs at (join_of (bare_at ws bs at) (bare_at ws bs child))
unfolding bare_at
joined ws bs vs cs at child k start own more w v s i j e f g by =
    let s' : MovedDown bs cs (bytes_for child) (bytes_for child + len_of ws child) k = rw g at s in
    let by' : k ≡ bytes_for child - (bytes_for at + len_of ws at) = rw f at by in
    let n = both-length ws bs cs at child j k by' s' in
    let l = label_of ws bs at ++ label_of ws bs child in
    let v' : vs ≡ head_put ws at (start_of ws at) (length l) (num_at ws child) = rw (n, ← e, ← f, ← g, ← i) v in
    record {
      filled = filled_by ws bs vs cs at (start_of ws at) l (num_at ws child) (omega (arith, j.order, j.words)) (omega (arith, j.order, j.labels)) (omega (arith, n, j.short)) v' (both-put ws bs cs at child j k by' s');
      spans = λ x. ap (λ (us : List ℕ). span_of us x) v' ∙ head-span ws at (start_of ws at) (length l) (num_at ws child) x;
    }

-- Gaps opened one after another
pub gaps-none : (ws bs : List ℕ) (from : ℕ) → Emptied ws bs ws from from
gaps-none ws bs from =
    record { len = refl; head = λ j h. refl; gaps = λ i a b. absurd (omega arith); others = λ i ne r. refl; spans = λ i. refl }

pub gaps-more : (ws bs vs us : List ℕ) (from i : ℕ) → from ≤ i → RoomIn bs i → Emptied ws bs vs from i → Altered vs bs us bs i (gap_of (bare_at vs bs i))
    → Emptied ws bs us from (i + 1)
gaps-more ws bs vs us from i h r e a =
    let f = a.filled in
    record {
      len = f.len_w ∙ e.len;
      head = λ j h. f.head j h ∙ e.head j h;
      gaps = λ x p q.
          by_eq x i
          (λ y. rw y (f.slot ∙ ap gap_of (e.others i (λ b d. omega arith) r)))
          (λ ne. f.others x ne (omega arith) ∙ e.gaps x p (by_lt x i (λ l. l) (λ l. absurd (ne (omega arith)))));
      others = λ x ne q. f.others x (λ y. ne (omega arith) (omega arith)) q ∙ e.others x (λ b d. ne b (omega arith)) q;
      spans = λ x. a.spans x ∙ e.spans x;
    }

pub gaps-done : {ws bs vs : List ℕ} {from i to : ℕ} → i ≡ to → Emptied ws bs vs from i → Emptied ws bs vs from to
gaps-done {ws} {bs} {vs} {from} {i} {to} e h = rw e at h
