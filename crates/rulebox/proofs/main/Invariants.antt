-- `rulebox::main` is safe and ends. Assumes nothing.
use Rattle.input.specs.Lines.{Unread}
use Rattle.rulebox.proofs.main.Given as goal

abbrev pub invariant-loop : goal.invariant-loop
invariant-loop l = Unread l.rest.at l.rest.got
