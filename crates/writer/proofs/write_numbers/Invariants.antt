-- `writer::write_numbers` meets its contract: the numbers put are those of the slots passed. Assumes nothing.
use Rattle.writer.specs.Parts.{numbers_in}
use Rattle.writer.specs.Runs.{Put}
use Rattle.writer.proofs.write_numbers.Given as goal

abbrev pub invariant-loop-i : goal.invariant-loop-i
invariant-loop-i l = Put (numbers_in l.words l.i) l.initial.out 0 l.out l.at
