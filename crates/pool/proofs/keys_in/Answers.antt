-- `pool::keys_in` meets its contract: the keys counted are those of the slots passed. Assumes nothing.
use native.Mathlib.Omega.{arith}
use Rattle.pool.specs.Fields.{has_sum}
use Rattle.pool.proofs.Sums.{sum_more}
use Rattle.pool.proofs.keys_in.Goals as goal

pub loop-i-preserved : goal.loop-i-preserved
loop-i-preserved c =
    let i = c.loop-i.i in
    omega (arith, sum_more c.args.words.now i, c.requires.2 i (omega arith))

pub loop-i-init : goal.loop-i-init
loop-i-init c = unfold has_sum in omega arith
