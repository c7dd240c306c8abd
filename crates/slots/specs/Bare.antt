-- Bare records: what a slot says but for its span, and what a bare record's words and label are. A record but for its span is
-- determined by its node alone.
use Rattle.std.specs.Prelude.{◌≡◌, List, [], ◌∷◌, ◌++◌, ℕ, suc, ◌+◌, ◌/◌, ◌%◌, length, set, take, drop, Option, Some, None}
use Rattle.std.proofs.Math.Option.{none, some}
use Rattle.std.proofs.lemmas.List.Edits.{sets}
use Rattle.tree.specs.declared.RuleNo.{RuleNo}
use Rattle.tree.specs.Key.{Key}
use Rattle.tree.specs.Map.{Num}
use Rattle.tree.specs.Tree.{Forest, nil, node, Tree, keys_w}
use Rattle.slots.specs.Layout.{SameHead, RoomIn, word_range, field_at, start_field, low_field, high_field, start_of, len_of, has_of, span_of, label_of, num_at}
use Rattle.slots.specs.Records.{run}
use Rattle.slots.specs.declared.put.Head.{Head}

-- A record without its span
pub record Bare : Type 0 where
  pub start : ℕ
  pub len : ℕ
  pub has : ℕ
  pub num : Num
  pub label : List ℕ

unfoldable pub bare_at : (ws bs : List ℕ) → ℕ → Bare
bare_at ws bs i = record { start = start_of ws i; len = len_of ws i; has = has_of ws i; num = num_at ws i; label = label_of ws bs i }

abbrev pub bares_from : (ws bs : List ℕ) (i m : ℕ) → List Bare
bares_from ws bs i m = run (bare_at ws bs) i m

abbrev pub node_bare : (s b : ℕ) (l : Key) (w : Num) → Bare
node_bare s b l w = record { start = s; len = suc (length l); has = keys_w w; num = w; label = b ∷ l }

-- The nodes of a forest in preorder
unfoldable pub bares_f : (s : ℕ) → Forest → List Bare
bares_f s nil = []
bares_f s (node b l w kids rest) = node_bare s b l w ∷ bares_f (s + suc (length l)) kids ++ bares_f s rest

abbrev pub root_bare : Num → Bare
root_bare w = record { start = 0; len = 0; has = keys_w w; num = w; label = [] }

unfoldable pub bares_t : Tree → List Bare
bares_t t = root_bare t.num ∷ bares_f 0 t.kids

-- A number that may be missing, as the code has it
abbrev pub stored_of : Option RuleNo → Num
stored_of None = none
stored_of (Some v) = some v.0

abbrev pub number_word : Num → ℕ
number_word none = 0
number_word (some v) = v

-- A slot's number, in its two words
unfoldable pub number_put : (ws : List ℕ) (i number : ℕ) → List ℕ
number_put ws i number = set (set ws (field_at i low_field) (number % word_range)) (field_at i high_field) (number / word_range)

-- A slot's words but for its span
unfoldable pub fields_put : (ws : List ℕ) (i start len has number : ℕ) → List ℕ
fields_put ws i start len has number = number_put (sets ws (field_at i start_field) (start ∷ len ∷ has ∷ [])) i number

abbrev pub head_put : (ws : List ℕ) (i start len : ℕ) → Num → List ℕ
head_put ws i start len w = fields_put ws i start len (keys_w w) (number_word w)

-- A slot's words with its span
pub record HeadOf (h : Head) (start len : ℕ) (w : Num) (span : ℕ) : Type 0 where
  pub start_is : h.start ≡ start
  pub len_is : h.len ≡ len
  pub has-is : h.has ≡ keys_w w
  pub number_is : h.number.0 ≡ number_word w
  pub span-is : h.span ≡ span

-- What a slot with the label l and the number w says
abbrev pub bare_of : (start : ℕ) (l : List ℕ) → Num → Bare
bare_of start l w = record { start = start; len = length l; has = keys_w w; num = w; label = l }

-- The two parts of a node whose label is cut behind m bytes: the upper one, with a number of its own or none, and the lower
-- one, which keeps the node's number.
abbrev pub front_of : (m : ℕ) → Num → Bare → Bare
front_of m w x = bare_of x.start (take m x.label) w

abbrev pub back_of : (m : ℕ) → Bare → Bare
back_of m x = bare_of (x.start + m) (drop m x.label) x.num

-- Slot `at` says x, and every other slot what it said, with its span.
pub record Filled (ws bs vs cs : List ℕ) (at : ℕ) (x : Bare) : Type 0 where
  pub len_w : length vs ≡ length ws
  pub len_b : length cs ≡ length bs
  pub head : SameHead ws vs
  pub slot : bare_at vs cs at ≡ x
  pub others : (i : ℕ) → (i ≡ at → ⊥) → RoomIn bs i → bare_at vs cs i ≡ bare_at ws bs i
  pub spans : (i : ℕ) → (i ≡ at → ⊥) → span_of vs i ≡ span_of ws i
