-- `search::shared` meets its contract. Assumes nothing.
use Rattle.std.proofs.lemmas.Result.{err_from_is_err_and}
use Rattle.search.proofs.Answers.{shared-refused, shared_long}
use Rattle.search.proofs.shared.Goals as goal

pub returns-in_err-pool : goal.returns-in_err-pool
returns-in_err-pool c =
    let p = err_from_is_err_and c.from_residual.result c.from_residual.ensures.1 in
    let e = c.in_err-pool.ensures in
    rw (p.1, p.2, e.0) (shared-refused _ _ _ e.1)

pub returns-in_err-query : goal.returns-in_err-query
returns-in_err-query c =
    let p = err_from_is_err_and c.from_residual-in_err-query.result c.from_residual-in_err-query.ensures.1 in
    let e = c.in_err-query.ensures in
    rw (p.1, p.2, e.0) (shared_long _ _ _ c.in_ok-pool.ensures.1.rule e.1)

pub returns : goal.returns
returns c = rw c.in_ok-pool.ensures.0 at (rw c.in_ok-query.ensures.0 at c.shared_in.ensures)
