-- `split::put_root` meets its contract. Assumes nothing.
use native.Mathlib.Omega.{arith}
use Rattle.split.proofs.Lifts.{rooted}
use Rattle.split.proofs.put_root.Goals as goal

pub returns : goal.returns
returns c = rooted _ _ _ _ _ _ (omega arith) c.new-head.ensures c.put_words.ensures c.set_nodes.ensures
