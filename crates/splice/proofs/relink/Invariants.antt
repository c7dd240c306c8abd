-- `splice::relink` meets its contract: the spans of the slots passed are right. Assumes nothing.
use Rattle.splice.proofs.Reach.{Linking}
use Rattle.splice.proofs.relink.Given as goal

abbrev pub invariant-loop-i : goal.invariant-loop-i
invariant-loop-i l = Linking l.initial.words l.words l.i l.n
