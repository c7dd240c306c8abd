-- `pool::counts` meets its contract. Assumes nothing.
use Rattle.std.proofs.lemmas.Result.{err_from_is_err_and}
use Rattle.pool.proofs.Answers.{bytes_of, counts_refused, counts_done}
use Rattle.pool.proofs.counts.Goals as goal

pub returns-in_err-tested : goal.returns-in_err-tested
returns-in_err-tested c =
    let p = err_from_is_err_and c.from_residual.result c.from_residual.ensures.1 in
    let e = c.in_err-tested.ensures in
    rw (p.1, p.2, e.0) (counts_refused _ _ e.1)

pub returns : goal.returns
returns c =
    let by = bytes_of c.args.labels.now c.type_inv.labels in
    counts_done _ _ c.in_ok-tested.ensures by _ _ c.keys_in-keys.ensures c.nodes_in-nodes.ensures.0
