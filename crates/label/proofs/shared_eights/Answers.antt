-- `label::shared_eights` meets its contract: each step passes eight shared bytes, and fewer are left. Assumes nothing.
use mathlib.Core.Path.{sym, ◌∙◌}
use native.Mathlib.Omega.{arith}
use Rattle.label.proofs.Eights.{common-within, step_on, step_off}
use Rattle.label.proofs.shared_eights.Goals as goal

pub returns-then-not-eight_same : goal.returns-then-not-eight_same
returns-then-not-eight_same c =
    let lent = c.args in
    let off = sym c.eight_same.ensures ∙ c.if-not-eight_same.true in
    omega (arith, step_off lent.k.now lent.l.now _ (omega arith) 8 off)

pub loop-n-preserved : goal.loop-n-preserved
loop-n-preserved c =
    let lent = c.args in
    let on = sym c.eight_same.ensures ∙ c.if-not-eight_same.false in
    omega (arith, step_on lent.k.now lent.l.now _ (omega arith) 8 on)

pub returns : goal.returns
returns c =
    let lent = c.args in
    omega (arith, common-within lent.k.now lent.l.now)
