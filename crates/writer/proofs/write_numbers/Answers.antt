-- `writer::write_numbers` meets its contract: the numbers put are those of the slots passed. Assumes nothing.
use native.Mathlib.Omega.{arith}
use Rattle.writer.proofs.Lists.{put-length}
use Rattle.writer.proofs.Totals.{numbers-none, numbers_step, number_fits}
use Rattle.writer.proofs.write_numbers.Goals as goal

pub write_number-at-requires : goal.write_number-at-requires
write_number-at-requires c =
    (omega arith, omega (arith, number_fits c.args.words.now c.loop-i.i c.args.n c.loop-i-test.true, put-length c.loop-i.invariant, c.loop-i.invariant.behind))

pub loop-i-preserved : goal.loop-i-preserved
loop-i-preserved c =
    numbers_step c.args.words.now c.loop-i.i c.loop-i.invariant c.write_number-at.ensures

pub loop-i-init : goal.loop-i-init
loop-i-init c = numbers-none _ _
