-- A label cut in two: each part fills its slot. Assumes nothing.
use mathlib.Core.Path.{◌≡◌, refl, sym, ap, ◌∙◌}
use mathlib.Core.List.{List}
use mathlib.Core.Option.{none, some}
use Prim.Native.Nat.{ℕ, zero, suc, ◌+◌, ◌-◌, ◌≤◌, ◌<◌}
use native.Mathlib.Omega.{arith}
use lib.ListN.{length, get_or, take, drop, length-take, length-drop}
use lib.Seq.{get_or-take, get_or-drop, ext_get_or, length-take-le, take-take}
use Rattle.tree.specs.Map.{Num}
use Rattle.label.specs.Runs.{MovedDown}
use Rattle.label.proofs.Moves.{by_lt}
use Rattle.slots.specs.Layout.{label_room, bytes_for, WordsIn, RoomIn, start_of, len_of, label_of, num_of, num_at}
use Rattle.slots.specs.Bare.{bare_at, head_put, front_of, back_of, Filled}
use Rattle.slots.proofs.Slots.{at_place, label_put, put-length, put_low, put-mid, put-high, filled_by}

-- The number read back
pub stored_none : (h v : ℕ) → h ≡ 0 → none ≡ num_of h v
unfolding num_of
stored_none zero v e = refl
stored_none (suc h) v e = absurd (omega arith)

pub stored_some : (h v u : ℕ) → (h ≡ 0 → ⊥) → u ≡ v → some u ≡ num_of h v
unfolding num_of
stored_some zero v u ne e = absurd (ne refl)
stored_some (suc h) v u ne e = ap (λ (x : ℕ). some x) e

-- The label as a part of the buffer
pub label-part : (ws bs : List ℕ) (c n : ℕ) → n ≡ len_of ws c → len_of ws c ≤ 255 → take (bytes_for c + n - bytes_for c) (drop (bytes_for c) bs) ≡ label_of ws bs c
label-part ws bs c n e h =
    let m : bytes_for c + n - bytes_for c ≡ len_of ws c = omega arith in
    rw m (sym (take-take (len_of ws c) label_room (drop (bytes_for c) bs) h))

-- The label of a slot, place by place
module _ (ws bs : List ℕ) (at : ℕ) (short : len_of ws at ≤ 255) (in_b : RoomIn bs at) where
  pub label-length : length (label_of ws bs at) ≡ len_of ws at
  label-length = simp (length-take, length-drop) (omega arith)

  pub label_get : (o : ℕ) → o < len_of ws at → get_or (label_of ws bs at) o 0 ≡ get_or bs (bytes_for at + o) 0
  label_get o h =
      get_or-take (len_of ws at) (take label_room (drop (bytes_for at) bs)) o 0 h ∙ get_or-take label_room (drop (bytes_for at) bs) o 0 (omega arith) ∙ get_or-drop (bytes_for at) bs o 0

  module _ (m : ℕ) (cut : m ≤ len_of ws at) where
    front_length : length (take m (label_of ws bs at)) ≡ m
    front_length = length-take-le m (label_of ws bs at) (omega (arith, label-length))

    back-length : length (drop m (label_of ws bs at)) ≡ len_of ws at - m
    back-length = simp length-drop (omega (arith, label-length))

    -- the front written over itself
    front-put : bs ≡ label_put bs at (take m (label_of ws bs at))
    front-put =
        let l = take m (label_of ws bs at) in
        let fits : bytes_for at + length l ≤ length bs = omega (arith, front_length) in
        ext_get_or 0 bs (label_put bs at l) (sym (put-length bs at l fits))
        (λ j h.
        by_lt j (bytes_for at)
        (λ a. sym (put_low bs at l fits j a))
        (λ a.
        by_lt j (bytes_for at + m)
        (λ b.
        let o = j - bytes_for at in
        at_place bs (omega arith)
        ∙ sym (put-mid bs at l fits o (omega (arith, front_length)) ∙ get_or-take m (label_of ws bs at) o 0 (omega arith) ∙ label_get o (omega arith))
        ∙ at_place (label_put bs at l) (omega arith))
        (λ b. sym (put-high bs at l fits j (omega (arith, front_length))))))

    -- the back moved down to the front
    back-put : (cs : List ℕ) (len : ℕ) → len ≡ len_of ws at → MovedDown bs cs (bytes_for at + m) (bytes_for at + len) m → cs ≡ label_put bs at (drop m (label_of ws bs at))
    back-put cs len e s =
        let l = drop m (label_of ws bs at) in
        let fits : bytes_for at + length l ≤ length bs = omega (arith, back-length) in
        let ls = s.len in
        ext_get_or 0 cs (label_put bs at l) (ls ∙ sym (put-length bs at l fits))
        (λ j h.
        by_lt j (bytes_for at)
        (λ a. s.low j (omega arith) ∙ sym (put_low bs at l fits j a))
        (λ a.
        by_lt (j + m) (bytes_for at + len)
        (λ b.
        let o = j - bytes_for at in
        s.mid j (omega arith) b
        ∙ at_place bs (omega arith)
        ∙ sym (put-mid bs at l fits o (omega (arith, back-length)) ∙ get_or-drop m (label_of ws bs at) o 0 ∙ label_get (m + o) (omega arith))
        ∙ at_place (label_put bs at l) (omega arith))
        (λ b. s.high j b ∙ sym (put-high bs at l fits j (omega (arith, back-length))))))

    module _ (in_w : WordsIn ws at) where
      pub front_kept : (vs : List ℕ) (start : ℕ) (w : Num) → start ≡ start_of ws at → vs ≡ head_put ws at start m w
          → Filled ws bs vs bs at (front_of m w (bare_at ws bs at))
      unfolding bare_at
      front_kept vs start w e v =
          filled_by ws bs vs bs at (start_of ws at) (take m (label_of ws bs at)) w in_w in_b (omega (arith, front_length)) (rw (front_length, ← e) v) front-put

      pub back-kept : (vs cs : List ℕ) (start len : ℕ) (w : Num) → start ≡ start_of ws at → len ≡ len_of ws at → w ≡ num_at ws at
          → vs ≡ head_put ws at (start + m) (len - m) w → MovedDown bs cs (bytes_for at + m) (bytes_for at + len) m
          → Filled ws bs vs cs at (back_of m (bare_at ws bs at))
      unfolding bare_at
      back-kept vs cs start len w e f g v s =
          filled_by ws bs vs cs at (start_of ws at + m) (drop m (label_of ws bs at)) (num_at ws at) in_w in_b (omega (arith, back-length))
          (rw (back-length, ← e, ← f, ← g) v)
          (back-put cs len f s)
