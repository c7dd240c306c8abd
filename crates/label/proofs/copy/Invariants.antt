-- `label::copy` meets its contract: the places passed are the source's. Assumes nothing.
use Rattle.label.proofs.Moves.{Filled}
use Rattle.label.proofs.copy.Given as goal

abbrev pub invariant-loop-i : goal.invariant-loop-i
invariant-loop-i l = Filled l.to l.from l.i
