-- A slot written: its words, its label, its record; what is not written stays. Assumes nothing.
use mathlib.Core.Path.{◌≡◌, refl, sym, ap, ◌∙◌}
use mathlib.Core.List.{List}
use Prim.Native.Nat.{ℕ, ◌+◌, ◌-◌, ◌≤◌, ◌<◌}
use native.Mathlib.Omega.{arith}
use lib.ListN.{length, get_or, set, take, drop, length-set, length-take, length-drop}
use lib.Seq.{get_or-set_same, get_or-set_other, get_or-take, get_or-drop, ext_get_or}
use borrow.Rule.Slice.PartMut.{put_mid}
use Rattle.tree.specs.Map.{Num}
use Rattle.label.proofs.Moves.{by_lt}
use Rattle.slots.specs.declared.put.Head.{Head}
use Rattle.slots.specs.Layout.{label_room, used_words, bytes_for, WordsIn, RoomIn, field_at, start_field, len_field, has_field, low_field, span_field, high_field, start_of, len_of, has_of, number_of, span_of, label_of, num_of}
use Rattle.slots.specs.Records.{Rec, rec_at}
use Rattle.slots.specs.Put.{words_put, WordsPut, LabelPut, SlotPut, rec_of}
use Rattle.slots.specs.Bare.{fields_put, bare_of, HeadOf, Filled}
use Rattle.slots.proofs.Slots.{number_same, fields_length, fields_low, fields_high, fields_start, fields_len, fields_has, fields_number, bare_of_lem, label-put_eq, put-length, put_low, put-high, put-label-is, num_read}

-- The words of a slot are then there, and no other word has changed.
pub words-put : (ws vs : List ℕ) (i : ℕ) (h : Head) → WordsIn ws i → vs ≡ words_put ws i h → WordsPut ws vs i h
unfolding words_put
words-put ws vs i h room e =
    let start = h.start in
    let len = h.len in
    let has = h.has in
    let number = h.number.0 in
    let us = fields_put ws i start len has number in
    let size = fields_length ws i start len has number in
    let kept : (j : ℕ) → (j ≡ field_at i span_field → ⊥) → get_or (set us (field_at i span_field) h.span) j 0 ≡ get_or us j 0 =
    λ j ne. get_or-set_other us (field_at i span_field) j h.span 0 ne in
    let low = kept (field_at i low_field) (λ q. omega arith) in
    let high = kept (field_at i high_field) (λ q. omega arith) in
    rw e
    (record {
      size = length-set us (field_at i span_field) h.span ∙ size;
      start = kept (field_at i start_field) (λ q. omega arith) ∙ fields_start ws i start len has number room;
      len = kept (field_at i len_field) (λ q. omega arith) ∙ fields_len ws i start len has number room;
      has = kept (field_at i has_field) (λ q. omega arith) ∙ fields_has ws i start len has number room;
      number = rw (low, high) (fields_number ws i start len has number room);
      span = get_or-set_same us (field_at i span_field) h.span 0 (omega arith);
      low = λ j l. kept j (λ q. omega arith) ∙ fields_low ws i start len has number j l;
      high = λ j l. kept j (λ q. omega arith) ∙ fields_high ws i start len has number j l;
    })

-- They are set one after another.
pub words-set : (ws us vs : List ℕ) (i : ℕ) (h : Head) → us ≡ fields_put ws i h.start h.len h.has h.number.0
    → vs ≡ set us (field_at i span_field) h.span → vs ≡ words_put ws i h
unfolding words_put
words-set ws us vs i h a b = rw (b, a)

-- a label in the place of as many bytes
pub label-put : (bs ys l : List ℕ) (i : ℕ) → RoomIn bs i → length l ≤ 255 → ys ≡ l
    → LabelPut bs (put_mid (bytes_for i) (bytes_for i + length l - bytes_for i) bs ys) i l
label-put bs ys l i room short e =
    let fits : bytes_for i + length l ≤ length bs = omega arith in
    rw (label-put_eq bs i l ys e)
    (record { size = put-length bs i l fits; label = put-label-is bs i l fits short room; low = put_low bs i l fits; high = put-high bs i l fits })

-- Where a slot's words and bytes are as they were, so is its record.
pub rec_same : (ws bs vs cs : List ℕ) (k : ℕ) → ((j : ℕ) → field_at k start_field ≤ j → j < field_at k used_words → get_or vs j 0 ≡ get_or ws j 0)
    → take label_room (drop (bytes_for k) cs) ≡ take label_room (drop (bytes_for k) bs) → rec_at vs cs k ≡ rec_at ws bs k
unfolding rec_at
rec_same ws bs vs cs k w b =
    let start : start_of vs k ≡ start_of ws k = w (field_at k start_field) (omega arith) (omega arith) in
    let len : len_of vs k ≡ len_of ws k = w (field_at k len_field) (omega arith) (omega arith) in
    let has : has_of vs k ≡ has_of ws k = w (field_at k has_field) (omega arith) (omega arith) in
    let number : number_of vs k ≡ number_of ws k = number_same vs ws k k (λ o l _. w (field_at k o) (omega arith) (omega arith)) in
    let span : span_of vs k ≡ span_of ws k = w (field_at k span_field) (omega arith) (omega arith) in
    λ i. record { start = start i; len = len i; has = has i; num = num_of (has i) (number i); span = span i; label = take (len i) (b i) }

block_same : (bs cs : List ℕ) (k : ℕ) → length cs ≡ length bs → ((j : ℕ) → bytes_for k ≤ j → j < bytes_for k + label_room → get_or cs j 0 ≡ get_or bs j 0)
    → take label_room (drop (bytes_for k) cs) ≡ take label_room (drop (bytes_for k) bs)
block_same bs cs k size h =
    ext_get_or 0 _ _ (simp (length-take, length-drop, size))
    (λ j l.
    let m : j < 255 = omega (arith, l, length-take label_room (drop (bytes_for k) cs)) in
    get_or-take label_room (drop (bytes_for k) cs) j 0 m
    ∙ get_or-drop (bytes_for k) cs j 0
    ∙ h (bytes_for k + j) (omega arith) (omega arith)
    ∙ sym (get_or-take label_room (drop (bytes_for k) bs) j 0 m ∙ get_or-drop (bytes_for k) bs j 0))

-- A slot written whole
module _ (ws bs vs cs : List ℕ) (i : ℕ) (h : Head) (l : List ℕ) (short : length l ≤ label_room) (long : h.len ≡ length l) (in_w : WordsIn ws i)
    (put : vs ≡ words_put ws i h) (q : LabelPut bs cs i l) where
  abbrev p : WordsPut ws vs i h
  p = words-put ws vs i h in_w put

  slot_is : rec_at vs cs i ≡ rec_of h l
  unfolding rec_at
  slot_is =
      let b : label_of vs cs i ≡ l = ap (λ (n : ℕ). take n (take label_room (drop (bytes_for i) cs))) (p.len ∙ long) ∙ q.label in
      λ z.
      record { start = p.start z; len = p.len z; has = p.has z; num = num_of (p.has z) (p.number z); span = p.span z; label = b z }

  other_is : (k : ℕ) → (k ≡ i → ⊥) → rec_at vs cs k ≡ rec_at ws bs k
  other_is k ne =
      by_lt k i
      (λ lt.
      rec_same ws bs vs cs k (λ j _ b. p.low j (omega arith)) (block_same bs cs k q.size (λ j _ b. q.low j (omega arith))))
      (λ ge.
      let gt : i < k = by_lt i k (λ m. m) (λ m. absurd (ne (omega arith))) in
      rec_same ws bs vs cs k (λ j a _. p.high j (omega arith)) (block_same bs cs k q.size (λ j a _. q.high j (omega arith))))

  pub slot-put : SlotPut ws bs vs cs i (rec_of h l)
  slot-put = record { words = p.size; labels = q.size; slot = slot_is; others = other_is; head = λ j m. p.low j (omega arith) }

-- The same, told as a splice
pub slot-filled : (ws bs vs cs : List ℕ) (at : ℕ) (h : Head) (l : List ℕ) (start span : ℕ) (w : Num) → HeadOf h start (length l) w span
    → SlotPut ws bs vs cs at (rec_of h l) → Filled ws bs vs cs at (bare_of start l w) × (span_of vs at ≡ span)
unfolding rec_at
slot-filled ws bs vs cs at h l start span w o p =
    let num : num_of h.has h.number.0 ≡ w = rw (o.has-is, o.number_is) (num_read w) in (
      record {
        len_w = p.words;
        len_b = p.labels;
        head = p.head;
        slot = bare_of_lem vs cs at (rec_of h l) p.slot ∙ rw (o.start_is, o.len_is, num, o.has-is);
        others = λ i ne r. bare_of_lem vs cs i (rec_at ws bs i) (p.others i ne) ∙ sym (bare_of_lem ws bs i (rec_at ws bs i) refl);
        spans = λ i ne. ap (λ (x : Rec). x.span) (p.others i ne);
      },
      ap (λ (x : Rec). x.span) p.slot ∙ o.span-is,
    )

-- The count of nodes is in no slot.
pub nodes-put : (ws bs : List ℕ) (n k : ℕ) → rec_at (set ws 0 n) bs k ≡ rec_at ws bs k
nodes-put ws bs n k = rec_same ws bs (set ws 0 n) bs k (λ j a b. get_or-set_other ws 0 j n 0 (λ e. omega arith)) refl
