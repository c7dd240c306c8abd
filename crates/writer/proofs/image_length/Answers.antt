-- `writer::image_length` meets its contract: the bytes counted are those of the slots passed. Assumes nothing.
use native.Mathlib.Omega.{arith}
use Rattle.writer.specs.Parts.{record_sum}
use Rattle.writer.proofs.Totals.{sum_more}
use Rattle.writer.proofs.image_length.Goals as goal

pub loop-i-preserved : goal.loop-i-preserved
loop-i-preserved c = omega (arith, sum_more c.args.words.now c.loop-i.i)

pub loop-i-init : goal.loop-i-init
loop-i-init c = unfold record_sum in omega arith
