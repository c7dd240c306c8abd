-- `split::lift` meets its contract: the slots passed stand in the other pool. Assumes nothing.
use Rattle.split.specs.Lift.{Lifted}
use Rattle.split.proofs.lift.Given as goal

abbrev pub invariant-loop-i : goal.invariant-loop-i
invariant-loop-i l =
    let p = l.part in
    Lifted p.words.now p.labels.now l.initial.words2 l.initial.labels2 l.words2 l.labels2 p.from.0 l.to.0 l.i p.base
