-- `splice::extent` meets its contract: the walk has passed what belongs to the slot. Assumes nothing.
use Prim.Native.Nat.{◌-◌}
use Rattle.splice.proofs.Reach.{Walked}
use Rattle.splice.proofs.extent.Given as goal

abbrev pub invariant-loop-j : goal.invariant-loop-j
invariant-loop-j l = Walked l.words l.base l.i l.n l.j

abbrev pub decreases-loop-j : goal.decreases-loop-j
decreases-loop-j l = l.n - l.j
