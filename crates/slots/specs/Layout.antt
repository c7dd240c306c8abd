-- The layout of a pool, said once: where the head and each slot's fields stand in the two lent lists, ws the words and bs the
-- label bytes.
use Rattle.std.specs.Prelude.{◌≡◌, List, ℕ, zero, suc, ◌+◌, ◌*◌, ◌/◌, ◌≤◌, ◌<◌, length, get_or, take, drop}
use Rattle.std.proofs.Math.Option.{none, some}
use Rattle.tree.specs.Map.{Num}

-- Words of the head, words of a slot, how many of those are used, and bytes of a slot's room, in which its label stands
abbrev pub head_words : ℕ
head_words = 8

abbrev pub slot_words : ℕ
slot_words = 8

abbrev pub used_words : ℕ
used_words = 6

abbrev pub label_room : ℕ
label_room = 255

-- The words of n slots with the head, and the label bytes of n slots: slot n begins behind them.
abbrev pub words_for : ℕ → ℕ
words_for n = slot_words * n + head_words

abbrev pub bytes_for : ℕ → ℕ
bytes_for n = label_room * n

-- So many slots have so many label bytes.
abbrev pub slots_in : List ℕ → ℕ
slots_in bs = length bs / label_room

-- Where a field of slot i stands
abbrev pub field_at : (i field : ℕ) → ℕ
field_at i field = slot_words * i + (head_words + field)

-- The slot's words lie in the slice; its room lies in the slice.
abbrev pub WordsIn : List ℕ → ℕ → Type 0
WordsIn ws i = field_at i slot_words ≤ length ws

abbrev pub RoomIn : List ℕ → ℕ → Type 0
RoomIn bs i = bytes_for i + label_room ≤ length bs

-- The fields among a slot's words
abbrev pub start_field : ℕ
start_field = 0

abbrev pub len_field : ℕ
len_field = 1

abbrev pub has_field : ℕ
has_field = 2

abbrev pub low_field : ℕ
low_field = 3

abbrev pub span_field : ℕ
span_field = 4

abbrev pub high_field : ℕ
high_field = 5

-- The head's words are as they were.
abbrev pub SameHead : (ws vs : List ℕ) → Type 0
SameHead ws vs = (j : ℕ) → j < head_words → get_or vs j 0 ≡ get_or ws j 0

-- How many slots are in use, the nodes of the tree: a word of the head
abbrev pub nodes_word : ℕ
nodes_word = 0

abbrev pub nodes_of : List ℕ → ℕ
nodes_of ws = get_or ws nodes_word 0

-- Bytes of the path above the slot's label
abbrev pub start_of : List ℕ → ℕ → ℕ
start_of ws i = get_or ws (field_at i start_field) 0

-- Label length
abbrev pub len_of : List ℕ → ℕ → ℕ
len_of ws i = get_or ws (field_at i len_field) 0

-- 1 if the slot has a number, else 0
abbrev pub has_of : List ℕ → ℕ → ℕ
has_of ws i = get_or ws (field_at i has_field) 0

-- The number, if it has one: its low word, and its high word
abbrev pub word_range : ℕ
word_range = 4294967296

abbrev pub number_of : List ℕ → ℕ → ℕ
number_of ws i = get_or ws (field_at i low_field) 0 + word_range * get_or ws (field_at i high_field) 0

-- Nodes of the slot's subtree, itself included: the link past it
abbrev pub span_of : List ℕ → ℕ → ℕ
span_of ws i = get_or ws (field_at i span_field) 0

-- The label's first byte
abbrev pub first_of : List ℕ → ℕ → ℕ
first_of bs i = get_or bs (bytes_for i) 0

-- The label: so many bytes of the slot's room
abbrev pub label_of : List ℕ → List ℕ → ℕ → List ℕ
label_of ws bs i = take (len_of ws i) (take label_room (drop (bytes_for i) bs))

-- The two words has and number as a number that may be missing
unfoldable pub num_of : (has number : ℕ) → Num
num_of zero v = none
num_of (suc h) v = some v

abbrev pub num_at : List ℕ → ℕ → Num
num_at ws i = num_of (has_of ws i) (number_of ws i)
