-- What writing one slot leaves in the two lent lists: ws and bs before, vs and cs after.
use Rattle.std.specs.Prelude.{◌≡◌, List, ℕ, ◌+◌, ◌≤◌, ◌<◌, length, get_or, set, take, drop}
use Rattle.slots.specs.declared.put.Head.{Head}
use Rattle.slots.specs.Layout.{SameHead, label_room, used_words, bytes_for, field_at, start_field, span_field, start_of, len_of, has_of, number_of, span_of, num_of}
use Rattle.slots.specs.Records.{Rec, rec_at}
use Rattle.slots.specs.Bare.{fields_put}

-- The words of a slot
unfoldable pub words_put : (ws : List ℕ) (i : ℕ) → Head → List ℕ
words_put ws i h = set (fields_put ws i h.start h.len h.has h.number.0) (field_at i span_field) h.span

-- Slot i has these words; every other word is as it was.
pub record WordsPut (ws vs : List ℕ) (i : ℕ) (h : Head) : Type 0 where
  pub size : length vs ≡ length ws
  pub start : start_of vs i ≡ h.start
  pub len : len_of vs i ≡ h.len
  pub has : has_of vs i ≡ h.has
  pub number : number_of vs i ≡ h.number.0
  pub span : span_of vs i ≡ h.span
  pub low : (j : ℕ) → j < field_at i start_field → get_or vs j 0 ≡ get_or ws j 0
  pub high : (j : ℕ) → field_at i used_words ≤ j → get_or vs j 0 ≡ get_or ws j 0

-- Slot i has the label l; every other byte is as it was.
pub record LabelPut (bs cs : List ℕ) (i : ℕ) (l : List ℕ) : Type 0 where
  pub size : length cs ≡ length bs
  pub label : take (length l) (take label_room (drop (bytes_for i) cs)) ≡ l
  pub low : (j : ℕ) → j < bytes_for i → get_or cs j 0 ≡ get_or bs j 0
  pub high : (j : ℕ) → bytes_for i + length l ≤ j → get_or cs j 0 ≡ get_or bs j 0

-- the record that a slot's words and label make
abbrev pub rec_of : Head → List ℕ → Rec
rec_of h l = record { start = h.start; len = h.len; has = h.has; num = num_of h.has h.number.0; span = h.span; label = l }

-- Slot i has the record r; every other slot and the eight words before the first are as they were.
pub record SlotPut (ws bs vs cs : List ℕ) (i : ℕ) (r : Rec) : Type 0 where
  pub words : length vs ≡ length ws
  pub labels : length cs ≡ length bs
  pub slot : rec_at vs cs i ≡ r
  pub others : (k : ℕ) → (k ≡ i → ⊥) → rec_at vs cs k ≡ rec_at ws bs k
  pub head : SameHead ws vs
