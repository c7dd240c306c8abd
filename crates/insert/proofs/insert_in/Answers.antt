-- `insert::insert_in` meets its contract. Assumes nothing.
use mathlib.Core.Path.{refl}
use native.Mathlib.Omega.{arith}
use Rattle.pool.proofs.Answers.{bytes_of}
use Rattle.search.proofs.Answers.{knows}
use Rattle.insert.proofs.Ends.{left_asks, no_room}
use Rattle.insert.proofs.insert_in.Goals as goal

pub nodes_in-n-requires : goal.nodes_in-n-requires
nodes_in-n-requires c = omega (arith, c.requires.whole.rule)

pub new_nodes-k-requires : goal.new_nodes-k-requires
new_nodes-k-requires c = left_asks (knows c.requires) _ refl

pub returns-then-n-k : goal.returns-then-n-k
returns-then-n-k c =
    no_room (knows c.requires) (bytes_of c.args.key.now c.type_inv.key) _ _ _ c.nodes_in-n.ensures.0 c.new_nodes-k.ensures.0 (rw c.slots_in.ensures at c.if-n-k.true)
