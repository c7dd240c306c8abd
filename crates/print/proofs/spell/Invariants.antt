-- `print::spell` meets its contract: each turn spells one byte more. Assumes nothing.
use Rattle.print.specs.Hex.{Spelling}
use Rattle.print.proofs.spell.Given as goal

abbrev pub invariant-loop-n : goal.invariant-loop-n
invariant-loop-n l = Spelling l.bytes l.initial.out l.out l.n
