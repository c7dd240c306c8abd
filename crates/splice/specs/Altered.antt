-- One slot altered in its place, its start and span kept: ws and bs before, vs and cs after.
use Rattle.std.specs.Prelude.{◌≡◌, List, [], ◌++◌, ℕ, ◌+◌, ◌≤◌, ◌<◌, length}
use Rattle.std.proofs.Math.Option.{none}
use Rattle.slots.specs.Layout.{SameHead, WordsIn, RoomIn, len_of, span_of}
use Rattle.slots.specs.Bare.{Bare, bare_at, bare_of, Filled}

-- A slot without a label is a gap.
abbrev pub gap_of : Bare → Bare
gap_of x = record { start = x.start; len = 0; has = x.has; num = x.num; label = [] }

abbrev pub numberless : Bare → Bare
numberless x = record { start = x.start; len = x.len; has = 0; num = none; label = x.label }

-- A node and its only child in one: both labels, and the child's number
abbrev pub join_of : (node child : Bare) → Bare
join_of x y = bare_of x.start (x.label ++ y.label) y.num

-- Slot `at` says x, every other slot what it said, and every span stays.
pub record Altered (ws bs vs cs : List ℕ) (at : ℕ) (x : Bare) : Type 0 where
  pub filled : Filled ws bs vs cs at x
  pub spans : (i : ℕ) → span_of vs i ≡ span_of ws i

-- Slot `child` comes behind slot `at`, both lie within the buffers, and their labels fit together into one.
pub record Joinable (ws bs : List ℕ) (at child : ℕ) : Type 0 where
  pub order : at < child
  pub words : WordsIn ws child
  pub labels : RoomIn bs child
  pub short : len_of ws at + len_of ws child ≤ 255

-- The slots from .. to are gaps, the others are what they were, and every span stays.
pub record Emptied (ws bs vs : List ℕ) (from to : ℕ) : Type 0 where
  pub len : length vs ≡ length ws
  pub head : SameHead ws vs
  pub gaps : (i : ℕ) → from ≤ i → i < to → bare_at vs bs i ≡ gap_of (bare_at ws bs i)
  pub others : (i : ℕ) → (from ≤ i → i < to → ⊥) → RoomIn bs i → bare_at vs bs i ≡ bare_at ws bs i
  pub spans : (i : ℕ) → span_of vs i ≡ span_of ws i
