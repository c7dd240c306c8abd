-- `pool::clear` meets its contract. Assumes nothing.
use Rattle.std.proofs.lemmas.Result.{err_from_is_err_and}
use Rattle.pool.proofs.Answers.{clear_refused, clear_done}
use Rattle.pool.proofs.clear.Goals as goal

pub returns-in_err-tested : goal.returns-in_err-tested
returns-in_err-tested c =
    let p = err_from_is_err_and c.from_residual.result c.from_residual.ensures.1 in
    let e = c.in_err-tested.ensures in
    rw (p.1, p.2, e.0) (clear_refused _ _ e.1)

pub returns : goal.returns
returns c = clear_done _ _ _ c.in_ok-tested.ensures c.write_empty.ensures
