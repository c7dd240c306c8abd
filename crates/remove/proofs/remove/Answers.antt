-- `remove::remove` meets its contract. Assumes nothing.
use Rattle.std.proofs.lemmas.Result.{err_from_is_err_and}
use Rattle.remove.proofs.Taken.{remove-refused, remove_long}
use Rattle.remove.proofs.remove.Goals as goal

pub returns-in_err-pool : goal.returns-in_err-pool
returns-in_err-pool c =
    let p = err_from_is_err_and c.from_residual.result c.from_residual.ensures.1 in
    let e = c.in_err-pool.ensures in
    rw (p.1, p.2, e.0) (remove-refused _ _ _ e.1)

pub returns-in_err-tested : goal.returns-in_err-tested
returns-in_err-tested c =
    let p = err_from_is_err_and c.from_residual-in_err-tested.result c.from_residual-in_err-tested.ensures.1 in
    let e = c.in_err-tested.ensures in
    rw (p.1, p.2, e.0) (remove_long _ _ _ c.in_ok-pool.ensures.1.rule e.1)
