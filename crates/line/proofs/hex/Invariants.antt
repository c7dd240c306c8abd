-- `line::hex` meets its contract: each turn reads two digits. Assumes nothing.
use Rattle.line.proofs.Turns.{Hexing}
use Rattle.line.proofs.hex.Given as goal

abbrev pub invariant-loop-i : goal.invariant-loop-i
invariant-loop-i l = Hexing l.s l.initial.out l.out l.i
