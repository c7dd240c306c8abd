-- `splice::raise` meets its contract: the spans of the slots passed are right. Assumes nothing.
use Prim.Native.Nat.{◌-◌}
use Rattle.splice.proofs.Spans.{Raising}
use Rattle.splice.proofs.raise.Given as goal

abbrev pub invariant-loop-c : goal.invariant-loop-c
invariant-loop-c l = Raising l.initial.words l.words l.at.0 l.k l.c.0

abbrev pub decreases-loop-c : goal.decreases-loop-c
decreases-loop-c l = l.at.0 - l.c.0
