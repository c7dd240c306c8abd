-- `splice::raise` meets its contract: the spans of the slots passed are right. Assumes nothing.
use native.Mathlib.Omega.{arith}
use Rattle.splice.proofs.Spans.{raising_done}
use Rattle.splice.proofs.raise.Goals as goal

pub returns : goal.returns
returns c = raising_done _ _ _ _ _ (omega arith) c.loop-c.invariant
