-- What the check answers, beside the reader of tree/specs/Reader.antt: that one gives trees and lists of numbers, the code
-- counts. s is the whole image, `at` an offset into it, path the length of the labels above.
use Rattle.std.specs.Prelude.{◌≡◌, List, [], ◌∷◌, ◌++◌, ℕ, suc, ◌+◌, ◌*◌, ◌≤◌, length, get_or, Ok, Err, ⊤}
use Rattle.tree.specs.Key.{key_max}
use Rattle.tree.specs.Tree.{Forest, Tree, nodes_f, nodes_t}
use Rattle.tree.specs.Told.{Told, refusal, refusal_at, Answer, refusal_told}
use Rattle.tree.specs.Reader.{Rule, at_most, equal, Tested, broken, sound, has_number, has_child, below, flag_rules}
use Rattle.tree.specs.Reader.{Read, refused, gave, read_node, read_kids, Verdict, refused_with, ok, read_t}
use Rattle.reader.specs.declared.Mark.{Mark}

-- The tests of one record in two parts; the numbers left are counted.
abbrev pub head_rules : (s : List ℕ) (level at : ℕ) → List Rule
head_rules s level at =
    let m = get_or s (at + 1) 0 in
    at_most (at + 4) (length s) (refusal_at 6 at)
    ∷ flag_rules (get_or s at 0) level (refusal_at 7 at)
    ++ equal (256 * get_or s (at + 2) 0 + get_or s (at + 3) 0) level (refusal_at 8 at)
    ∷ at_most (below level) m (refusal_at 9 at)
    ∷ at_most m (255 * below level) (refusal_at 9 at)
    ∷ at_most (at + 4 + m) (length s) (refusal_at 6 at)
    ∷ []

abbrev pub body_rules : (s : List ℕ) (left level least path at : ℕ) → List Rule
body_rules s left level least path at =
    let f = get_or s at 0 in
    at_most least (get_or s (at + 4) 0) (refusal_at 10 at)
    ∷ at_most (path + get_or s (at + 1) 0) key_max (refusal 2)
    ∷ at_most (below level) (has_number f + has_child f) (refusal_at 11 at)
    ∷ at_most (has_number f) left (refusal_at 12 at)
    ∷ []

abbrev pub count_rules : (s : List ℕ) (left level least path at : ℕ) → List Rule
count_rules s left level least path at = head_rules s level at ++ body_rules s left level least path at

abbrev pub found_of : Answer ⊤ → Tested
found_of (Ok x) = sound
found_of (Err x) = broken (refusal_told x)

-- How far a part of the image goes: a refusal, or the offset behind it, the numbers left and the nodes passed
pub data Way : Type 0 where
  off : Told → Way
  on : (at left nodes : ℕ) → Way

abbrev pub way_of : Answer Mark → Way
way_of (Ok m) = on m.at m.left m.nodes
way_of (Err x) = off (refusal_told x)

-- The same of what the reader gives, after k nodes
unfoldable pub kids_way : ℕ → Read Forest → Way
kids_way k (refused x) = off x
kids_way k (gave f a left) = on a (length left) (k + nodes_f f)

unfoldable pub node_way : ℕ → Read Tree → Way
node_way k (refused x) = off x
node_way k (gave t a left) = on a (length left) (k + nodes_t t)

-- What the code knows of a part that was read from a mark on
abbrev pub Within : (s : List ℕ) (level : ℕ) (from : Mark) → Answer Mark → Type 0
Within s level from (Ok m) = (from.at + 4 + below level ≤ m.at) × (m.at ≤ length s) × (m.nodes ≤ m.at)
Within s level from (Err x) = Unit {0}

-- The reader's answer, for all numbers of which so many are left, with any fuel that the bytes left ask
pub record NodeChecked (s : List ℕ) (level least path : ℕ) (from : Mark) (r : Answer Mark) : Type 0 where
  pub is : (n : ℕ) (ns : List ℕ) → length s ≤ from.at + suc n → length ns ≡ from.left
      → way_of r ≡ node_way from.nodes (read_node (read_kids n s) s level least path from.at ns)
  pub within : Within s level from r

pub record KidsChecked (s : List ℕ) (level least path : ℕ) (from : Mark) (r : Answer Mark) : Type 0 where
  pub is : (n : ℕ) (ns : List ℕ) → length s ≤ from.at + n → length ns ≡ from.left
      → way_of r ≡ kids_way from.nodes (read_kids n s level least path from.at ns)
  pub within : Within s level from r

-- The root's part begins with the image.
abbrev pub start : ℕ → Mark
start numbers = record { at = 0; left = numbers; nodes = 0 }

abbrev pub RootChecked : (s : List ℕ) (numbers : ℕ) → Answer Mark → Type 0
RootChecked s numbers r = NodeChecked s 0 0 0 (start numbers) r

-- Where a part begins, below the root; this settles every overflow.
pub record Place (s : List ℕ) (level path : ℕ) (from : Mark) : Type 0 where
  pub inside : from.at ≤ length s
  pub deep : 1 ≤ level
  pub shallow : level ≤ from.at
  pub short : path ≤ 4096
  pub few : from.nodes ≤ from.at

-- The verdict on the whole image: a refusal, or a tree of so many nodes
pub data Count : Type 0 where
  refuses : Told → Count
  holds : (nodes : ℕ) → Count

abbrev pub count_of : Answer ℕ → Count
count_of (Ok k) = holds k
count_of (Err x) = refuses (refusal_told x)

unfoldable pub verdict_count : Verdict → Count
verdict_count (refused_with x) = refuses x
verdict_count (ok t) = holds (nodes_t t)

-- The check's answer is the reader's, for all lists of so many numbers.
abbrev pub CheckedAs : (s : List ℕ) (numbers slots : ℕ) → Answer ℕ → Type 0
CheckedAs s numbers slots r = (ns : List ℕ) → length ns ≡ numbers → count_of r ≡ verdict_count (read_t s ns slots)
