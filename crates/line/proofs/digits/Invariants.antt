-- `line::digits` meets its contract: each turn reads one digit. Assumes nothing.
use Rattle.line.proofs.Turns.{Valuing}
use Rattle.line.proofs.digits.Given as goal

abbrev pub invariant-loop-b : goal.invariant-loop-b
invariant-loop-b l = Valuing l.s l.n l.b-index
