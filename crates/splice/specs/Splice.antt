-- Splices of the list of records. A record but for its span is determined by its node alone, and the spans by the starts
-- and lengths of the slots: so a splice moves bare records, and then the spans are put right.
use Rattle.std.specs.Prelude.{◌≡◌, List, [], ◌∷◌, true, false, ◌⊎◌, ℕ, zero, suc, ◌+◌, ◌-◌, ◌≤◌, ◌<◌, length, get_or, leb}
use Rattle.slots.specs.Layout.{SameHead, label_room, words_for, bytes_for, RoomIn, field_at, span_field, nodes_of, start_of, len_of, span_of}
use Rattle.slots.specs.Bare.{Bare, bare_at, bares_from, Filled}

-- How many of the m slots from i on, one behind another, start at base or deeper
unfoldable pub reach : (ws : List ℕ) (base i m : ℕ) → ℕ
reach ws base i zero = 0
reach ws base i (suc m) = elim (leb base (start_of ws i)) [ true ↦ suc (reach ws base (suc i) m) | false ↦ 0 ]

-- From slot i on the spans of the first n slots are right: a slot's subtree are the slots behind it that start at the end of
-- its label or deeper.
abbrev pub Linked : (ws : List ℕ) (i n : ℕ) → Type 0
Linked ws i n = (j : ℕ) → i ≤ j → j < n → span_of ws j ≡ 1 + reach ws (start_of ws j + len_of ws j) (j + 1) (n - (j + 1))

-- The spans are right, and nothing else has changed.
pub record Relinked (ws vs : List ℕ) (n : ℕ) : Type 0 where
  pub len : length vs ≡ length ws
  pub spans : Linked vs 0 n
  pub rest : (j : ℕ) → ((i : ℕ) → j ≡ field_at i span_field → ⊥) → get_or vs j 0 ≡ get_or ws j 0

-- n slots are in use, their spans are right, and every slot but for its span says what it said.
pub record Settled (ws vs : List ℕ) (n : ℕ) : Type 0 where
  pub len : length vs ≡ length ws
  pub nodes : nodes_of vs ≡ n
  pub spans : Linked vs 0 n
  pub bares : (bs : List ℕ) (i : ℕ) → bare_at vs bs i ≡ bare_at ws bs i

-- There are slots `to` .. `to` + k to move into.
pub record Room (ws bs : List ℕ) (from to k : ℕ) : Type 0 where
  pub order : from ≤ to
  pub words : words_for (to + k) ≤ length ws
  pub labels : bytes_for (to + k) ≤ length bs

-- The slots from .. to stand k slots higher, with their spans; what is not written over stays.
pub record Moved (ws bs vs cs : List ℕ) (from to k : ℕ) : Type 0 where
  pub len_w : length vs ≡ length ws
  pub len_b : length cs ≡ length bs
  pub head : SameHead ws vs
  pub low : (i : ℕ) → i < from + k → bare_at vs cs i ≡ bare_at ws bs i
  pub moved : (i : ℕ) → from ≤ i → i < to → bare_at vs cs (i + k) ≡ bare_at ws bs i
  pub high : (i : ℕ) → to + k ≤ i → RoomIn bs i → bare_at vs cs i ≡ bare_at ws bs i
  pub low-span : (i : ℕ) → i < from + k → span_of vs i ≡ span_of ws i
  pub moved-span : (i : ℕ) → from ≤ i → i < to → span_of vs (i + k) ≡ span_of ws i
  pub high-span : (i : ℕ) → to + k ≤ i → span_of vs i ≡ span_of ws i

-- So many bytes of a slot's room have all of its label.
pub record LabelIn (len m : ℕ) : Type 0 where
  pub most : m ≤ label_room
  pub enough : len ≤ m ⊎ m ≡ label_room

-- The records with a label
abbrev pub keep_if : (len : ℕ) → Bare → List Bare → List Bare
keep_if zero x xs = xs
keep_if (suc m) x xs = x ∷ xs

unfoldable pub solid : List Bare → List Bare
solid [] = []
solid (x ∷ xs) = keep_if x.len x (solid xs)

-- Slot i is a gap and passed, or it is kept as slot j.
pub data Swept (ws bs vs cs : List ℕ) (i j r : ℕ) : Type 0 where
  gone : len_of ws i ≡ 0 → r ≡ j → vs ≡ ws → cs ≡ bs → Swept ws bs vs cs i j r
  kept : (len_of ws i ≡ 0 → ⊥) → r ≡ j + 1 → Filled ws bs vs cs j (bare_at ws bs i) → Swept ws bs vs cs i j r

-- Of n slots r are left: the root, and the others with a label, in their order.
pub record Closed (ws bs vs cs : List ℕ) (n r : ℕ) : Type 0 where
  pub len_w : length vs ≡ length ws
  pub len_b : length cs ≡ length bs
  pub head : SameHead ws vs
  pub least : 1 ≤ r
  pub most : r ≤ n
  pub root : bare_at vs cs 0 ≡ bare_at ws bs 0
  pub slots : bares_from vs cs 1 (r - 1) ≡ solid (bares_from ws bs 1 (n - 1))
