-- `reader::test_record` meets its contract: its tests are those of the head and then those of the body. Assumes nothing.
use mathlib.Core.Path.{sym, ◌∙◌}
use native.Mathlib.Omega.{arith}
use Rattle.std.proofs.lemmas.Result.{err_from_is_err_and}
use Rattle.tree.proofs.Judge.{all_hold}
use Rattle.reader.proofs.Tests.{below-is, record_past, record_stop}
use Rattle.reader.proofs.test_record.Goals as goal

pub returns-in_err-test_head : goal.returns-in_err-test_head
returns-in_err-test_head c =
    let p = err_from_is_err_and c.from_residual.result c.from_residual.ensures.1 in
    let a = c.args in
    rw (p.1, p.2) (record_stop a.tree.now a.from.left a.level.0 a.least a.path a.from.at (sym c.in_err-test_head.ensures))

pub test_body-requires : goal.test_body-requires
test_body-requires c =
    let h = all_hold _ (sym c.in_ok-test_head.ensures) in
    let d = below-is c.args.level.0 (omega arith) in
    omega (arith, h)

pub returns : goal.returns
returns c =
    let a = c.args in
    c.test_body.ensures
    ∙ record_past a.tree.now a.from.left a.level.0 a.least a.path a.from.at (sym c.in_ok-test_head.ensures)
