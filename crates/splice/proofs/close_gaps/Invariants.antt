-- `splice::close_gaps` meets its contract: the slots passed stand close together. Assumes nothing.
use Rattle.splice.proofs.Gaps.{Sweeping}
use Rattle.splice.proofs.close_gaps.Given as goal

abbrev pub invariant-loop-i : goal.invariant-loop-i
invariant-loop-i l = Sweeping l.initial.words l.initial.labels l.words l.labels l.i l.to.0
