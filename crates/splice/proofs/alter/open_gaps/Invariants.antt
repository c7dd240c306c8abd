-- `splice::alter::open_gaps` meets its contract: the slots passed are gaps. Assumes nothing.
use mathlib.Core.Path.{◌≡◌}
use mathlib.Core.List.{List}
use Prim.Native.Nat.{ℕ, ◌≤◌}
use lib.ListN.{length}
use Rattle.splice.specs.Altered.{Emptied}
use Rattle.slots.specs.Layout.{bytes_for}
use Rattle.splice.proofs.alter.open_gaps.Given as goal

abbrev pub invariant-loop-i : goal.invariant-loop-i
invariant-loop-i l = (length l.words ≡ length l.initial.words) × ((bs : List ℕ) → bytes_for l.i-end ≤ length bs → Emptied l.initial.words bs l.words l.initial.i l.i)
