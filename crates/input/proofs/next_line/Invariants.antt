-- `input::next_line` meets its contract: what is still to be taken of the chunk lies within it. Assumes nothing.
use Rattle.input.specs.Lines.{Unread}
use Rattle.input.proofs.next_line.Given as goal

abbrev pub invariant-loop : goal.invariant-loop
invariant-loop g l = Unread l.at l.got
