-- `splice::close_gaps` meets its contract: the slots passed stand close together. Assumes nothing.
use native.Mathlib.Omega.{arith}
use Rattle.splice.proofs.Gaps.{sweep_none, sweep_on}
use Rattle.splice.proofs.close_gaps.Goals as goal

pub loop-i-preserved : goal.loop-i-preserved
loop-i-preserved c =
    sweep_on _ _ _ _ _ _ c.loop-i.invariant (omega (arith, c.loop-i.invariant.len_b)) _ _ _ c.sweep_slot-to.ensures

pub loop-i-init : goal.loop-i-init
loop-i-init c = sweep_none _ _
