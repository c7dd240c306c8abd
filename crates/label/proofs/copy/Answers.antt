-- `label::copy` meets its contract: the places passed are the source's. Assumes nothing.
use native.Mathlib.Omega.{arith}
use Rattle.label.proofs.Moves.{fill_none, fill_step, fill_done}
use Rattle.label.proofs.copy.Goals as goal

pub loop-i-preserved : goal.loop-i-preserved
loop-i-preserved c = fill_step _ _ _ (omega arith) c.loop-i.invariant

pub returns : goal.returns
returns c = fill_done _ _ _ (omega arith) c.loop-i.invariant

pub loop-i-init : goal.loop-i-init
loop-i-init c = fill_none _ _ (omega arith)
