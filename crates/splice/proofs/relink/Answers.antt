-- `splice::relink` meets its contract: the spans of the slots passed are right. Assumes nothing.
use native.Mathlib.Omega.{arith}
use Rattle.splice.proofs.Reach.{linking_step}
use Rattle.splice.proofs.relink.Goals as goal

pub loop-i-preserved : goal.loop-i-preserved
loop-i-preserved c =
    linking_step _ _ _ _ _ _ (omega arith) (omega arith) (omega arith) c.extent-span.ensures.0 c.set_span.ensures c.loop-i.invariant
