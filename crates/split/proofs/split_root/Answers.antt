-- `split::split_root` meets its contract. Assumes nothing.
use native.Mathlib.Omega.{arith}
use Rattle.split.proofs.Halves.{root_ready, root-nodes, root-full, root-done}
use Rattle.split.proofs.split_root.Goals as goal

pub nodes_in-requires : goal.nodes_in-requires
nodes_in-requires c = (root-nodes c.requires.0 c.requires.1).0

pub returns-then-nodes_in-room : goal.returns-then-nodes_in-room
returns-then-nodes_in-room c = λ x. root-full x c.requires.1 (omega (arith, c.nodes_in.ensures.0, c.if-nodes_in-room.true))

pub detach_node-requires : goal.detach_node-requires
detach_node-requires c =
    let p = c.requires in
    let n = root-nodes p.0 p.1 in
    (root_ready p.0 p.1, record { words = omega (arith, n, p.1.words, c.nodes_in.ensures.0); labels = omega (arith, n, p.1.labels, c.nodes_in.ensures.0) })

pub write_empty-requires : goal.write_empty-requires
write_empty-requires c = (root-nodes c.requires.0 c.requires.1).1

pub returns : goal.returns
returns c =
    λ x. root-done x c.requires.1 _ _ _ (omega (arith, c.nodes_in.ensures.0, c.if-nodes_in-room.false)) c.detach_node.ensures c.write_empty.ensures
