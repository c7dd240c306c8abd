-- Slots written and filled: what each slot says afterwards. Assumes nothing.
use mathlib.Core.Path.{◌≡◌, refl, ap, ◌∙◌}
use mathlib.Core.List.{List, [], ◌∷◌, ◌++◌}
use mathlib.Core.Option.{none, some}
use Prim.Native.Nat.{ℕ, zero, suc, ◌+◌, ◌-◌, ◌/◌, ◌%◌, ◌≤◌, ◌<◌}
use native.Mathlib.Omega.{arith}
use lib.ListN.{length, get_or, set, take, drop, length-set, length-take, length-drop, length-append, get_or-append}
use lib.Seq.{sets, length-sets, get_or-set_same, get_or-set_other, get_or-take, get_or-drop, get_or-append-add, ext_get_or, take-take, length-take-le}
use Rattle.std.specs.Prelude.{Option, Some, None, is_some}
use Rattle.std.specs.Int.{from_bool}
use Rattle.std.specs.Option.{unwrap_or}
use Rattle.tree.specs.declared.RuleNo.{RuleNo}
use Rattle.tree.specs.Map.{Num}
use Rattle.tree.specs.Tree.{keys_w}
use borrow.Rule.Slice.PartMut.{put_mid, Post-is}
use Rattle.label.proofs.Moves.{by_lt}
use Rattle.slots.specs.Layout.{used_words, label_room, word_range, bytes_for, WordsIn, RoomIn, field_at, start_field, len_field, has_field, low_field, span_field, high_field, start_of, len_of, has_of, number_of, span_of, label_of, num_of}
use Rattle.slots.specs.Records.{Rec, rec_at}
use Rattle.slots.specs.Bare.{bare_at, stored_of, number_word, number_put, fields_put, head_put, bare_of, Filled}

-- m places of a list from place a on
abbrev pub block : List ℕ → ℕ → ℕ → List ℕ
block bs a m = take m (drop a bs)

-- two parts that agree place by place are equal
pub block_eq : (vs ws : List ℕ) (b a m : ℕ) → b + m ≤ length vs → a + m ≤ length ws → ((j : ℕ) → j < m → get_or vs (b + j) 0 ≡ get_or ws (a + j) 0)
    → block vs b m ≡ block ws a m
block_eq vs ws b a m hv hw same =
    ext_get_or 0 (block vs b m) (block ws a m) (simp (length-take, length-drop) (omega arith))
    (λ j l.
    let h : j < m = omega (arith, l, length-take m (drop b vs)) in
    simp (get_or-take m (drop b vs) j 0 h, get_or-take m (drop a ws) j 0 h, get_or-drop) (same j h))

-- the words of slot j are those of slot i, but for the span
abbrev pub SameWords : (vs ws : List ℕ) (j i : ℕ) → Type 0
SameWords vs ws j i = (o : ℕ) → o < used_words → (o ≡ span_field → ⊥) → get_or vs (field_at j o) 0 ≡ get_or ws (field_at i o) 0

pub number_same : (vs ws : List ℕ) (j i : ℕ) → SameWords vs ws j i → number_of vs j ≡ number_of ws i
number_same vs ws j i w =
    let low = w low_field (omega arith) (λ e. omega arith) in
    let high = w high_field (omega arith) (λ e. omega arith) in
    rw (low, high)

-- the words of a slot agree, and the bytes of its label: it says the same
pub bare_by : (vs cs ws bs : List ℕ) (j i : ℕ) → SameWords vs ws j i → take (len_of ws i) (block cs (bytes_for j) label_room) ≡ label_of ws bs i
    → bare_at vs cs j ≡ bare_at ws bs i
unfolding bare_at
bare_by vs cs ws bs j i w b =
    let w₀ : start_of vs j ≡ start_of ws i = w start_field (omega arith) (λ e. omega arith) in
    let w₁ : len_of vs j ≡ len_of ws i = w len_field (omega arith) (λ e. omega arith) in
    let w₂ : has_of vs j ≡ has_of ws i = w has_field (omega arith) (λ e. omega arith) in
    rw (w₀, w₁, w₂, number_same vs ws j i w, b)

-- the same where all of its room agrees
pub bare_eq : (vs cs ws bs : List ℕ) (j i : ℕ) → SameWords vs ws j i → block cs (bytes_for j) label_room ≡ block bs (bytes_for i) label_room
    → bare_at vs cs j ≡ bare_at ws bs i
bare_eq vs cs ws bs j i w b = bare_by vs cs ws bs j i w (ap (take (len_of ws i)) b)

-- what a record says, but for its span
pub bare_of_lem : (ws bs : List ℕ) (c : ℕ) (r : Rec) → rec_at ws bs c ≡ r → bare_at ws bs c ≡ record { start = r.start; len = r.len; has = r.has; num = r.num; label = r.label }
unfolding rec_at bare_at
bare_of_lem ws bs c r e = λ i. record { start = (e i).start; len = (e i).len; has = (e i).has; num = (e i).num; label = (e i).label }

pub at_place : (vs : List ℕ) {x y : ℕ} → x ≡ y → get_or vs x 0 ≡ get_or vs y 0
at_place vs e = ap (λ (x : ℕ). get_or vs x 0) e

-- A run of stores, place by place
pub sets_low : (l : List ℕ) (i : ℕ) (vs : List ℕ) (j : ℕ) → j < i → get_or (sets l i vs) j 0 ≡ get_or l j 0
sets_low l i [] j h = refl
sets_low l i (v ∷ vs) j h = sets_low (set l i v) (suc i) vs j (omega arith) ∙ get_or-set_other l i j v 0 (λ e. omega arith)

pub sets_high : (l : List ℕ) (i : ℕ) (vs : List ℕ) (j : ℕ) → i + length vs ≤ j → get_or (sets l i vs) j 0 ≡ get_or l j 0
sets_high l i [] j h = refl
sets_high l i (v ∷ vs) j h = sets_high (set l i v) (suc i) vs j (omega arith) ∙ get_or-set_other l i j v 0 (λ e. omega arith)

pub sets_mid : (l : List ℕ) (i : ℕ) (vs : List ℕ) (j k : ℕ) → i + length vs ≤ length l → j < length vs → k ≡ i + j → get_or (sets l i vs) k 0 ≡ get_or vs j 0
sets_mid l i [] j k r h e = absurd (omega arith)
sets_mid l i (v ∷ vs) zero k r h e =
    let q : k ≡ i = omega arith in
    rw q (sets_low (set l i v) (suc i) vs i (omega arith) ∙ get_or-set_same l i v 0 (omega arith))
sets_mid l i (v ∷ vs) (suc j) k r h e = sets_mid (set l i v) (suc i) vs j k (rw length-set (omega arith)) (omega arith) (omega arith)

-- The words of a slot but for the span, put: what stands where then
module _ (ws : List ℕ) (i start len has number : ℕ) where
  abbrev front : List ℕ
  front = start ∷ len ∷ has ∷ []

  abbrev fronted : List ℕ
  fronted = sets ws (field_at i start_field) front

  pub fields_length : length (fields_put ws i start len has number) ≡ length ws
  unfolding fields_put number_put
  fields_length = simp length-set

  -- the number is in two words
  apart : (j : ℕ) → (j ≡ field_at i low_field → ⊥) → (j ≡ field_at i high_field → ⊥) → get_or (fields_put ws i start len has number) j 0 ≡ get_or fronted j 0
  unfolding fields_put number_put
  apart j p q =
      get_or-set_other (set fronted (field_at i low_field) (number % word_range)) (field_at i high_field) j (number / word_range) 0 q
      ∙ get_or-set_other fronted (field_at i low_field) j (number % word_range) 0 p

  pub fields_low : (j : ℕ) → j < field_at i start_field → get_or (fields_put ws i start len has number) j 0 ≡ get_or ws j 0
  fields_low j h = apart j (λ e. omega arith) (λ e. omega arith) ∙ sets_low ws (field_at i start_field) front j h

  pub fields_high : (j : ℕ) → field_at i used_words ≤ j → get_or (fields_put ws i start len has number) j 0 ≡ get_or ws j 0
  fields_high j h = apart j (λ e. omega arith) (λ e. omega arith) ∙ sets_high ws (field_at i start_field) front j (omega arith)

  -- no span is among them
  pub fields_span : (k : ℕ) → span_of (fields_put ws i start len has number) k ≡ span_of ws k
  fields_span k =
      apart (field_at k span_field) (λ e. omega arith) (λ e. omega arith)
      ∙ by_lt k i (λ m. sets_low ws (field_at i start_field) front (field_at k span_field) (omega arith))
      (λ m. sets_high ws (field_at i start_field) front (field_at k span_field) (omega arith))

  module _ (in_w : WordsIn ws i) where
    word : (o : ℕ) → o < 3 → get_or (fields_put ws i start len has number) (field_at i o) 0 ≡ get_or front o 0
    word o h =
        apart (field_at i o) (λ e. omega arith) (λ e. omega arith)
        ∙ sets_mid ws (field_at i start_field) front o (field_at i o) (omega arith) h (omega arith)

    pub fields_start : start_of (fields_put ws i start len has number) i ≡ start
    fields_start = word start_field (omega arith)

    pub fields_len : len_of (fields_put ws i start len has number) i ≡ len
    fields_len = word len_field (omega arith)

    pub fields_has : has_of (fields_put ws i start len has number) i ≡ has
    fields_has = word has_field (omega arith)

    pub fields_number : number_of (fields_put ws i start len has number) i ≡ number
    unfolding fields_put number_put
    fields_number =
        let size = length-sets ws (field_at i start_field) front in
        let lowed = set fronted (field_at i low_field) (number % word_range) in
        let low = get_or-set_other lowed (field_at i high_field) (field_at i low_field) (number / word_range) 0 (λ e. omega arith)
        ∙ get_or-set_same fronted (field_at i low_field) (number % word_range) 0 (omega arith) in
        let high = get_or-set_same lowed (field_at i high_field) (number / word_range) 0 (simp length-set (omega arith)) in
        rw (low, high) (omega arith)

-- They are set one after another.
pub fields_set : (ws ws₁ ws₂ ws₃ vs : List ℕ) (i start len has number : ℕ) → ws₁ ≡ set ws (field_at i start_field) start
    → ws₂ ≡ set ws₁ (field_at i len_field) len → ws₃ ≡ set ws₂ (field_at i has_field) has → vs ≡ number_put ws₃ i number
    → vs ≡ fields_put ws i start len has number
unfolding fields_put
fields_set ws ws₁ ws₂ ws₃ vs i start len has number a b c d =
    let e₁ : suc (field_at i start_field) ≡ field_at i len_field = omega arith in
    let e₂ : suc (field_at i len_field) ≡ field_at i has_field = omega arith in
    rw (d, c, b, a) (simp (e₁, e₂))

pub head-span : (ws : List ℕ) (at start len : ℕ) (w : Num) (i : ℕ) → span_of (head_put ws at start len w) i ≡ span_of ws i
head-span ws at start len w = fields_span ws at start len (keys_w w) (number_word w)

pub head-kept : (ws vs : List ℕ) (at start len : ℕ) (w : Num) → vs ≡ head_put ws at start len w → span_of vs at ≡ span_of ws at
head-kept ws vs at start len w e = ap (λ (z : List ℕ). span_of z at) e ∙ head-span ws at start len w at

-- A slot's label put
unfoldable pub label_put : (bs : List ℕ) (i : ℕ) (l : List ℕ) → List ℕ
label_put bs i l = take (bytes_for i) bs ++ (l ++ drop (bytes_for i + length l) bs)

-- A part of the labels filled is the label put.
pub label-put_eq : (bs : List ℕ) (i : ℕ) (l ys : List ℕ) → ys ≡ l → put_mid (bytes_for i) (bytes_for i + length l - bytes_for i) bs ys ≡ label_put bs i l
unfolding label_put
label-put_eq bs i l ys e = rw (Post-is (bytes_for i) (bytes_for i + length l) bs (omega arith), e)

-- has and number of a number that may be missing, as the code tells them
pub stored_has : (s : Option RuleNo) → from_bool (is_some s) ≡ keys_w (stored_of s)
unfolding keys_w
stored_has None = refl
stored_has (Some v) = refl

pub stored_number : (s : Option RuleNo) → (unwrap_or s (record { 0 = 0 })).0 ≡ number_word (stored_of s)
stored_number None = refl
stored_number (Some v) = refl

-- A label put, place by place
module _ (bs : List ℕ) (i : ℕ) (l : List ℕ) (fits : bytes_for i + length l ≤ length bs) where
  front_length : length (take (bytes_for i) bs) ≡ bytes_for i
  front_length = length-take-le (bytes_for i) bs (omega arith)

  pub put-length : length (label_put bs i l) ≡ length bs
  unfolding label_put
  put-length = simp (length-append, length-drop) (omega (arith, front_length))

  pub put_low : (j : ℕ) → j < bytes_for i → get_or (label_put bs i l) j 0 ≡ get_or bs j 0
  unfolding label_put
  put_low j h = get_or-append (take (bytes_for i) bs) (l ++ drop (bytes_for i + length l) bs) 0 j (omega (arith, front_length)) ∙ get_or-take (bytes_for i) bs j 0 h

  put-past : (j : ℕ) → get_or (label_put bs i l) (bytes_for i + j) 0 ≡ get_or (l ++ drop (bytes_for i + length l) bs) j 0
  unfolding label_put
  put-past j = at_place (label_put bs i l) (omega (arith, front_length)) ∙ get_or-append-add (take (bytes_for i) bs) (l ++ drop (bytes_for i + length l) bs) j 0

  pub put-mid : (j : ℕ) → j < length l → get_or (label_put bs i l) (bytes_for i + j) 0 ≡ get_or l j 0
  put-mid j h = put-past j ∙ get_or-append l (drop (bytes_for i + length l) bs) 0 j h

  pub put-high : (j : ℕ) → bytes_for i + length l ≤ j → get_or (label_put bs i l) j 0 ≡ get_or bs j 0
  put-high j h =
      let k = j - (bytes_for i + length l) in
      at_place (label_put bs i l) (omega arith)
      ∙ put-past (length l + k)
      ∙ get_or-append-add l (drop (bytes_for i + length l) bs) k 0
      ∙ get_or-drop (bytes_for i + length l) bs k 0
      ∙ at_place bs (omega arith)

  -- the label that is then there
  pub put-label-is : length l ≤ 255 → RoomIn bs i → take (length l) (take label_room (drop (bytes_for i) (label_put bs i l))) ≡ l
  put-label-is h r =
      let c = label_put bs i l in
      take-take (length l) 255 (drop (bytes_for i) c) h
      ∙ ext_get_or 0 (take (length l) (drop (bytes_for i) c)) l
      (simp (length-take, length-drop) (omega (arith, put-length)))
      (λ j q.
      let g : j < length l = omega (arith, q, length-take (length l) (drop (bytes_for i) c)) in
      get_or-take (length l) (drop (bytes_for i) c) j 0 g ∙ get_or-drop (bytes_for i) c j 0 ∙ put-mid j g)

-- has and number read back
pub num_read : (w : Num) → num_of (keys_w w) (number_word w) ≡ w
unfolding num_of keys_w
num_read none = refl
num_read (some v) = refl

-- A head and a label put fill a slot.
module _ (ws bs : List ℕ) (at start : ℕ) (l : List ℕ) (w : Num) (in_w : WordsIn ws at) (in_b : RoomIn bs at) (short : length l ≤ label_room) where
  abbrev vs : List ℕ
  vs = head_put ws at start (length l) w

  filled-slot : bare_at vs (label_put bs at l) at ≡ bare_of start l w
  unfolding bare_at
  filled-slot =
      let has = keys_w w in
      let number = number_word w in
      let w₀ = fields_start ws at start (length l) has number in_w in
      let w₁ = fields_len ws at start (length l) has number in_w in
      let w₂ = fields_has ws at start (length l) has number in_w in
      let w₃ = fields_number ws at start (length l) has number in_w in
      rw (w₀, w₁, w₂, w₃, num_read w, put-label-is bs at l (omega arith) short in_b)

  -- slots before and behind
  other_words : (i : ℕ) → (i ≡ at → ⊥) → SameWords vs ws i i
  other_words i ne o h _ =
      by_lt i at (λ m. fields_low ws at start (length l) (keys_w w) (number_word w) (field_at i o) (omega arith))
      (λ m. fields_high ws at start (length l) (keys_w w) (number_word w) (field_at i o) (by_lt at i (λ k. omega arith) (λ k. absurd (ne (omega arith)))))

  past : (i j : ℕ) → (i ≡ at → ⊥) → at ≤ i → bytes_for at + length l ≤ bytes_for i + j
  past i j ne m = by_lt at i (λ h. omega arith) (λ h. absurd (ne (omega arith)))

  pub filled : Filled ws bs vs (label_put bs at l) at (bare_of start l w)
  filled =
      let lb = put-length bs at l (omega arith) in
      record {
        len_w = fields_length ws at start (length l) (keys_w w) (number_word w);
        len_b = lb;
        head = λ j h. fields_low ws at start (length l) (keys_w w) (number_word w) j (omega arith);
        slot = filled-slot;
        others = λ i ne r.
            bare_eq vs (label_put bs at l) ws bs i i (other_words i ne)
            (block_eq (label_put bs at l) bs (bytes_for i) (bytes_for i) label_room (omega (arith, lb)) r
            (λ j h. by_lt i at (λ m. put_low bs at l (omega arith) (bytes_for i + j) (omega arith)) (λ m. put-high bs at l (omega arith) (bytes_for i + j) (past i j ne m))));
        spans = λ i ne. head-span ws at start (length l) w i;
      }

-- as the code leaves them
pub filled_by : (ws bs vs cs : List ℕ) (at start : ℕ) (l : List ℕ) (w : Num) → WordsIn ws at → RoomIn bs at → length l ≤ 255
    → vs ≡ head_put ws at start (length l) w → cs ≡ label_put bs at l → Filled ws bs vs cs at (bare_of start l w)
filled_by ws bs vs cs at start l w in_w in_b short v c = rw (v, c) (filled ws bs at start l w in_w in_b short)
