-- `pool::make` meets its contract. Assumes nothing.
use mathlib.Core.Path.{sym}
use native.Mathlib.Omega.{arith}
use Rattle.std.proofs.lemmas.Result.{err_from_is_err_and}
use Rattle.tree.proofs.Exits.{was-some, was-none}
use Rattle.pool.proofs.Decode.{lengths-right}
use Rattle.pool.proofs.Answers.{make_refused, make_done}
use Rattle.pool.proofs.make.Goals as goal

pub returns-in_err-ok_or : goal.returns-in_err-ok_or
returns-in_err-ok_or c =
    let p = err_from_is_err_and c.from_residual.result c.from_residual.ensures.1 in
    let w = was-none c.slots_of.result _ c.in_err-ok_or.ensures.value in
    rw (p.1, p.2, w.refusal) (make_refused _ _ (sym (rw w.none at c.slots_of.ensures)))

pub write_empty-requires : goal.write_empty-requires
write_empty-requires c =
    let w = was-some c.slots_of.result _ c.in_ok-ok_or.ensures.value in
    omega (arith, lengths-right _ _ _ (sym (rw w at c.slots_of.ensures)))

pub returns : goal.returns
returns c =
    let w = was-some c.slots_of.result _ c.in_ok-ok_or.ensures.value in
    make_done _ _ _ _ (sym (rw w at c.slots_of.ensures)) c.write_empty.ensures
