-- `reader::check` meets its contract: the root's part, and then the tests after the last node. Assumes nothing.
use native.Mathlib.Omega.{arith}
use Rattle.std.proofs.lemmas.Result.{err_from_is_err_and}
use Rattle.reader.proofs.Verdicts.{verdict_refused, verdict_broken, verdict_ok}
use Rattle.reader.proofs.check.Goals as goal

pub returns-in_err-end : goal.returns-in_err-end
returns-in_err-end c =
    let p = err_from_is_err_and c.from_residual.result c.from_residual.ensures.1 in
    rw (p.1, p.2) (verdict_refused _ _ _ _ c.in_err-end.ensures)

pub returns-then-end-tree : goal.returns-then-end-tree
returns-then-end-tree c = verdict_broken _ _ _ _ c.in_ok-end.ensures 0 tt (omega arith)

pub returns-then-end-gt0 : goal.returns-then-end-gt0
returns-then-end-gt0 c = verdict_broken _ _ _ _ c.in_ok-end.ensures 1 (omega arith) (omega arith)

pub returns-then-end-slots : goal.returns-then-end-slots
returns-then-end-slots c = verdict_broken _ _ _ _ c.in_ok-end.ensures 2 (omega arith) (omega arith)

pub returns : goal.returns
returns c = verdict_ok _ _ _ _ c.in_ok-end.ensures (omega arith)
