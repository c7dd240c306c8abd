-- The strict reader: the tests of one record, a node with all below it, a list of siblings, and the verdict on an image.
-- s is the whole image, `at` an offset into it, ns the numbers not yet read, path the length of the labels above.
use Rattle.std.specs.Prelude.{List, [], ◌∷◌, ◌++◌, true, false, ℕ, zero, suc, ◌+◌, ◌*◌, ◌-◌, ◌/◌, ◌%◌, length, get_or, take, drop, leb, eqb}
use Rattle.std.proofs.Math.Option.{none, some}
use Rattle.tree.specs.Key.{key_max}
use Rattle.tree.specs.Map.{Num}
use Rattle.tree.specs.Tree.{Forest, nil, node, Tree, nodes_t}
use Rattle.tree.specs.Told.{Told, refusal, refusal_at}

-- A test and what is told where it fails: a is at most b, or a equals b.
pub data Rule : Type 0 where
  at_most : (a b : ℕ) → Told → Rule
  equal : (a b : ℕ) → Told → Rule

pub data Tested : Type 0 where
  broken : Told → Tested
  sound : Tested

-- The first test that fails decides.
unfoldable pub judge : List Rule → Tested
judge [] = sound
judge (at_most a b x ∷ rs) = elim (leb a b) [ true ↦ judge rs | false ↦ broken x ]
judge (equal a b x ∷ rs) = elim (eqb a b) [ true ↦ judge rs | false ↦ broken x ]

-- The lower bit of a flag pair says allocated, the upper initialised: the upper one says that the thing is there.
abbrev pub has_number : ℕ → ℕ
has_number f = f / 2 % 2

abbrev pub has_child : ℕ → ℕ
has_child f = f / 8 % 2

abbrev pub has_sibling : ℕ → ℕ
has_sibling f = f / 32 % 2

-- 0 for the root's level and 1 for every other
unfoldable pub below : ℕ → ℕ
below zero = 0
below (suc n) = 1

-- The tests of the flag byte f: no unused bit, no initialised bit without its allocated one, no sibling on the root; x
-- is told where one fails. An allocated bit may stand alone.
abbrev pub flag_rules : (f level : ℕ) → Told → List Rule
flag_rules f level x =
    at_most f 63 x
    ∷ at_most (f / 2 % 2) (f % 2) x
    ∷ at_most (f / 8 % 2) (f / 4 % 2) x
    ∷ at_most (f / 32 % 2) (f / 16 % 2) x
    ∷ at_most (has_sibling f) (below level) x
    ∷ []

-- The tests of one record, in document 01's order. A sibling's first byte is at least `least`, one more than its elder's.
abbrev pub rules : (s ns : List ℕ) (level least path at : ℕ) → List Rule
rules s ns level least path at =
    let f = get_or s at 0 in
    let m = get_or s (at + 1) 0 in
    at_most (at + 4) (length s) (refusal_at 6 at)
    ∷ flag_rules f level (refusal_at 7 at)
    ++ equal (256 * get_or s (at + 2) 0 + get_or s (at + 3) 0) level (refusal_at 8 at)
    ∷ at_most (below level) m (refusal_at 9 at)
    ∷ at_most m (255 * below level) (refusal_at 9 at)
    ∷ at_most (at + 4 + m) (length s) (refusal_at 6 at)
    ∷ at_most least (get_or s (at + 4) 0) (refusal_at 10 at)
    ∷ at_most (path + m) key_max (refusal 2)
    ∷ at_most (below level) (has_number f + has_child f) (refusal_at 11 at)
    ∷ at_most (has_number f) (length ns) (refusal_at 12 at)
    ∷ []

-- What reading a part of the image gives: a refusal, or the thing read, the offset behind it and the numbers left
pub data Read (A : Type 0) : Type 0 where
  refused : Told → Read A
  gave : A → (at : ℕ) (left : List ℕ) → Read A

-- a record's own number, by its flag, and the numbers that are left
unfoldable pub number_of : ℕ → List ℕ → Num
number_of zero ns = none
number_of (suc i) [] = none
number_of (suc i) (v ∷ ns) = some v

unfoldable pub numbers_past : ℕ → List ℕ → List ℕ
numbers_past zero ns = ns
numbers_past (suc i) ns = drop 1 ns

-- A node but for its label is a number and children, as a tree is.
unfoldable pub over_kids : Num → Read Forest → Read Tree
over_kids w (refused x) = refused x
over_kids w (gave ks at left) = gave (record { num = w; kids = ks }) at left

-- A node: its record, and behind it its children, where it says that it has any. `kids_at` reads those.
unfoldable pub read_node :
    (kids_at : (level least path at : ℕ) → List ℕ → Read Forest) (s : List ℕ) (level least path at : ℕ) → List ℕ → Read Tree
read_node kids_at s level least path at ns =
    let f = get_or s at 0 in
    let m = get_or s (at + 1) 0 in
    elim (judge (rules s ns level least path at)) [
      | broken x ↦ refused x
      | sound ↦
          elim (has_child f) [
            | zero ↦ gave (record { num = number_of (has_number f) ns; kids = nil }) (at + 4 + m) (numbers_past (has_number f) ns)
            | suc i ↦
                over_kids (number_of (has_number f) ns) (kids_at (level + 1) 0 (path + m) (at + 4 + m) (numbers_past (has_number f) ns))
          ]
    ]

-- the record's label but for its first byte
abbrev pub label_rest : (s : List ℕ) (at : ℕ) → List ℕ
label_rest s at = take (get_or s (at + 1) 0 - 1) (drop (at + 5) s)

unfoldable pub over_rest : ℕ → List ℕ → Tree → Read Forest → Read Forest
over_rest b l t (refused x) = refused x
over_rest b l t (gave rest at left) = gave (node b l t.num t.kids rest) at left

-- A list of siblings: a node, and behind it the next sibling, where it says that it has one. n bounds the records; the
-- bytes left are enough, and where it is used up no byte is left, which is told as such.
unfoldable pub read_kids : (n : ℕ) (s : List ℕ) (level least path at : ℕ) → List ℕ → Read Forest
read_kids zero s level least path at ns = refused (refusal_at 6 at)
read_kids (suc n) s level least path at ns =
    let b = get_or s (at + 4) 0 in
    elim (read_node (read_kids n s) s level least path at ns) [
      | refused x ↦ refused x
      | gave t after left ↦
          elim (has_sibling (get_or s at 0)) [
            | zero ↦ gave (node b (label_rest s at) t.num t.kids nil) after left
            | suc i ↦ over_rest b (label_rest s at) t (read_kids n s level (b + 1) path after left)
          ]
    ]

-- After the last node: bytes left, numbers left, more nodes than slots
abbrev pub last_rules : (s left : List ℕ) (at nodes slots : ℕ) → List Rule
last_rules s left at nodes slots =
    at_most (length s) at (refusal_at 13 at) ∷ at_most (length left) 0 (refusal_at 12 (length s)) ∷ at_most nodes slots (refusal 4) ∷ []

pub data Verdict : Type 0 where
  refused_with : Told → Verdict
  ok : Tree → Verdict

-- The verdict on the image s with the numbers ns, for a pool of so many slots
unfoldable pub read_t : (s ns : List ℕ) (slots : ℕ) → Verdict
read_t s ns slots =
    elim (read_node (read_kids (length s) s) s 0 0 0 0 ns) [
      | refused x ↦ refused_with x
      | gave t at left ↦ elim (judge (last_rules s left at (nodes_t t) slots)) [ broken x ↦ refused_with x | sound ↦ ok t ]
    ]
