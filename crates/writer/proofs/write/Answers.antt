-- `writer::write` meets its contract: each answer by the tests that led to it. Assumes nothing.
use native.Mathlib.Omega.{arith}
use Rattle.std.proofs.lemmas.Result.{err_from_is_err_and}
use Rattle.pool.proofs.Answers.{bytes_of}
use Rattle.writer.proofs.Answers.{Known, known, write_refused, tree-room, numbers-counted, write_short_tree, write_short_numbers, write_done}
use Rattle.writer.proofs.write.Goals as goal
use Rattle.writer.proofs.write.Goals.{After-nodes_in-n}

-- past the test the lent slices are a pool, and its tree is known once the nodes are counted
known_at : (c : After-nodes_in-n)
    → let a = c.args in
    Known a.words.now a.labels.now c.nodes_in-n.result
known_at c =
    known c.in_ok-tested.ensures (bytes_of c.args.labels.now c.type_inv.labels) c.nodes_in-n.ensures.0

pub returns-in_err-tested : goal.returns-in_err-tested
returns-in_err-tested c =
    let p = err_from_is_err_and c.from_residual.result c.from_residual.ensures.1 in
    let e = c.in_err-tested.ensures in
    rw (p.1, p.2, e.0) (write_refused _ _ _ _ e.1)

pub returns-then-tree-bytes : goal.returns-then-tree-bytes
returns-then-tree-bytes c =
    write_short_tree (known_at (goal.at.returns-then-tree-bytes c).After-nodes_in-n) _ _ c.image_length-bytes.ensures c.keys_in-keys.ensures
    c.if-tree-bytes.true

pub returns-then-numbers-keys : goal.returns-then-numbers-keys
returns-then-numbers-keys c =
    write_short_numbers (known_at (goal.at.returns-then-numbers-keys c).After-nodes_in-n) _ _ c.image_length-bytes.ensures c.keys_in-keys.ensures
    c.if-tree-bytes.false c.if-numbers-keys.true

pub write_tree-requires : goal.write_tree-requires
write_tree-requires c =
    tree-room (known_at (goal.at.write_tree-requires c).After-nodes_in-n) _ c.image_length-bytes.ensures c.if-tree-bytes.false

pub write_numbers-requires : goal.write_numbers-requires
write_numbers-requires c =
    (omega (arith, c.in_ok-tested.ensures), omega (arith, numbers-counted (known_at (goal.at.write_numbers-requires c).After-nodes_in-n)))

pub returns : goal.returns
returns c =
    write_done (known_at (goal.at.returns c).After-nodes_in-n) _ _ c.image_length-bytes.ensures c.keys_in-keys.ensures
    c.if-tree-bytes.false c.if-numbers-keys.false c.write_tree.ensures c.write_numbers.ensures
