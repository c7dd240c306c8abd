-- What the fill finds in an image that has passed the check, and what it leaves in the pool. s is the image, ns the numbers;
-- ws and bs are the pool's words and labels before, vs and cs after.
use Rattle.std.specs.Prelude.{◌≡◌, List, ℕ, ◌+◌, ◌≤◌, ◌<◌, length, get_or, take, drop}
use Rattle.std.proofs.Math.Option.{some}
use Rattle.tree.specs.Tree.{Tree, nodes_t, WellFormed}
use Rattle.tree.specs.Image.{image_t, numbers_t}
use Rattle.tree.specs.Reader.{has_number, ok, read_t}
use Rattle.tree.specs.Cleared.{cleared}
use Rattle.slots.specs.Layout.{words_for, bytes_for, num_of}
use Rattle.pool.specs.Pool.{slots_of}
use Rattle.slots.specs.Records.{Rec}
use Rattle.slots.specs.Bare.{bares_from, bares_t}
use Rattle.reader.specs.declared.fill.Cursor.{Cursor}

-- The slots below e are there.
pub record Room (ws bs : List ℕ) (e : ℕ) : Type 0 where
  pub words : words_for e ≤ length ws
  pub labels : bytes_for e ≤ length bs
  pub few : e ≤ 16384

-- A record that can be written
pub record SlotDue (s ns ws bs : List ℕ) (path : ℕ) (from : Cursor) : Type 0 where
  pub inside : from.at + 4 + get_or s (from.at + 1) 0 ≤ length s
  pub stocked : from.next + has_number (get_or s from.at 0) ≤ length ns
  pub short : path ≤ 4096
  pub room : Room ws bs (from.slot.0 + 1)

-- and the record that a slot has then
abbrev pub rec_read : (s ns : List ℕ) (path : ℕ) (from : Cursor) → Rec
rec_read s ns path from =
    record {
      start = path;
      len = get_or s (from.at + 1) 0;
      has = has_number (get_or s from.at 0);
      num = num_of (has_number (get_or s from.at 0)) (get_or ns from.next 0);
      span = 1;
      label = take (get_or s (from.at + 1) 0) (drop (from.at + 4) s);
    }

-- A record that is there, and numbers that can be counted on
pub record RecordDue (s : List ℕ) (from : Cursor) : Type 0 where
  pub inside : from.at + 4 + get_or s (from.at + 1) 0 ≤ length s
  pub few : from.slot.0 ≤ 16384
  pub countable : from.next + 1 < 18446744073709551616

-- c is the cursor behind the record at `from`.
pub record Behind (s : List ℕ) (from c : Cursor) : Type 0 where
  pub at : c.at ≡ from.at + 4 + get_or s (from.at + 1) 0
  pub slot : c.slot.0 ≡ from.slot.0 + 1
  pub next : c.next ≡ from.next + has_number (get_or s from.at 0)

-- s, its single bits cleared, and ns are the image and the numbers of the tree t.
pub record ImageOf (s ns : List ℕ) (t : Tree) : Type 0 where
  pub image : cleared s ≡ image_t t
  pub numbers : ns ≡ numbers_t t
  pub wf : WellFormed t

-- They are those of a tree whose nodes have room.
pub record RecordsDue (s ns ws bs : List ℕ) : Type 0 where
  pub tree : Tree
  pub known : ImageOf s ns tree
  pub room : Room ws bs (nodes_t tree)

-- The nodes of a tree stand in the first n slots, but for their spans.
pub record Bared (vs cs : List ℕ) (n : ℕ) (t : Tree) : Type 0 where
  pub count : n ≡ nodes_t t
  pub bares : bares_from vs cs 0 n ≡ bares_t t

-- Whatever tree the image and the numbers are those of, its nodes stand there now.
pub record Recorded (s ns ws bs vs cs : List ℕ) (n : ℕ) : Type 0 where
  pub words : length vs ≡ length ws
  pub labels : length cs ≡ length bs
  pub filled : (t : Tree) → ImageOf s ns t → Bared vs cs n t

-- The image has passed the check for the pool's slots.
pub record FillDue (s ns ws bs : List ℕ) : Type 0 where
  pub slots : ℕ
  pub tree : Tree
  pub sized : slots_of ws bs ≡ some slots
  pub accepted : read_t s ns slots ≡ ok tree
