-- `splice::settle_at` meets its contract. Assumes nothing.
use native.Mathlib.Omega.{arith}
use Rattle.splice.proofs.Moved.{settled}
use Rattle.splice.proofs.Spans.{counted}
use Rattle.splice.proofs.settle_at.Goals as goal

pub returns : goal.returns
returns c =
    let put = c.set_nodes.ensures in
    let n = counted c.args.words.now _ c.args.n c.args.at.0 c.args.k put (omega arith) in
    settled _ _ _ _ (omega arith) put (rw n at c.raise.ensures)
