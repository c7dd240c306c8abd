-- What the reader's tests of one record ask, by name. Assumes nothing.
use mathlib.Core.Path.{◌≡◌}
use mathlib.Core.List.{List}
use Prim.Native.Nat.{ℕ, ◌+◌, ◌*◌, ◌/◌, ◌%◌, ◌≤◌}
use native.Mathlib.Omega.{arith}
use lib.ListN.{length, get_or}
use Rattle.tree.specs.Key.{key_max}
use Rattle.tree.specs.Reader.{sound, judge, below, has_number, has_child, has_sibling, rules}
use Rattle.tree.proofs.Judge.{passed, all_hold}

-- What the rules ask of a flag byte for itself: an initialised bit has its allocated one.
pub record Allocated (f : ℕ) : Type 0 where
  pub unused : f ≤ 63
  pub number : has_number f ≤ f % 2
  pub child : has_child f ≤ f / 4 % 2
  pub sibling : has_sibling f ≤ f / 16 % 2

-- What they ask of the record at the offset `at`, with the flags f and the label length m
pub record Fine (s ns : List ℕ) (level least path at f m : ℕ) : Type 0 where
  pub head : at + 4 ≤ length s
  pub bits : Allocated f
  pub only : has_sibling f ≤ below level
  pub due : 256 * get_or s (at + 2) 0 + get_or s (at + 3) 0 ≡ level
  pub labelled : below level ≤ m
  pub bare : m ≤ 255 * below level
  pub whole : at + 4 + m ≤ length s
  pub above : least ≤ get_or s (at + 4) 0
  pub short : path + m ≤ key_max
  pub used : below level ≤ has_number f + has_child f
  pub stocked : has_number f ≤ length ns

module _ (s ns : List ℕ) (level least path at : ℕ) where
  abbrev pub FineAt : Type 0
  FineAt = Fine s ns level least path at (get_or s at 0) (get_or s (at + 1) 0)

  pub fine_judged : FineAt → judge (rules s ns level least path at) ≡ sound
  fine_judged g = passed (rules s ns level least path at) (omega arith)

  pub fine : judge (rules s ns level least path at) ≡ sound → FineAt
  fine e = let a = all_hold (rules s ns level least path at) e in omega arith
