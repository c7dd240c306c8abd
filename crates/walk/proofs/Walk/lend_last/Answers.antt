-- `walk::Walk::lend_last` meets its contract: a last key is lent as its bytes are. Assumes nothing.
use mathlib.Core.Path.{refl, ap}
use mathlib.Core.Option.{some}
use Rattle.std.proofs.lemmas.Result.{err_from_is_err_and}
use Rattle.tree.specs.Calls.{last_fits}
use Rattle.walk.proofs.Answers.{fits-short, fits_long}
use Rattle.walk.proofs.Walk.lend_last.Goals as goal

pub returns-in_err-lend-in-Some : goal.returns-in_err-lend-in-Some
unfolding last_fits
returns-in_err-lend-in-Some c =
    let p = err_from_is_err_and c.from_residual.result c.from_residual.ensures.1 in
    let e = c.in_err-lend-in-Some.ensures in
    rw (p.1, p.2, c.in-Some.is) (e.0, fits_long _ e.1)

pub returns-in_ok-lend-in-Some : goal.returns-in_ok-lend-in-Some
unfolding last_fits
returns-in_ok-lend-in-Some c =
    let e = c.in_ok-lend-in-Some.ensures in
    rw c.in-Some.is (ap some e.0, fits-short _ e.1)

pub returns-in-None : goal.returns-in-None
unfolding last_fits
returns-in-None c = rw c.in-None.is (refl, refl)
