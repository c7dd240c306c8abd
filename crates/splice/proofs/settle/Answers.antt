-- `splice::settle` meets its contract. Assumes nothing.
use native.Mathlib.Omega.{arith}
use Rattle.splice.proofs.Moved.{settled}
use Rattle.splice.proofs.settle.Goals as goal

pub returns : goal.returns
returns c = settled _ _ _ _ (omega arith) c.set_nodes.ensures c.relink.ensures
