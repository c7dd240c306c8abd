-- `line::many` meets its contract: each turn takes one number. Assumes nothing.
use Rattle.line.proofs.Lists.{Listing}
use Rattle.line.proofs.many.Given as goal

abbrev pub invariant-loop-k : goal.invariant-loop-k
invariant-loop-k l = Listing l.s l.initial.out l.out l.rest l.k
