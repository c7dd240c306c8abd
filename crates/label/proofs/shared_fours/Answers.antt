-- `label::shared_fours` meets its contract: four more bytes are passed exactly where they are shared. Assumes nothing.
use mathlib.Core.Path.{sym, ◌∙◌}
use native.Mathlib.Omega.{arith}
use Rattle.label.proofs.Eights.{common-within, step_on, step_off}
use Rattle.label.proofs.shared_fours.Goals as goal
use Rattle.label.proofs.shared_fours.Goals.{else-left-ge4-via-then-left-ge4+else-four_same, else-left-ge4-via-else-left-ge4}

pub overflow_sub-left : goal.overflow_sub-left
overflow_sub-left c =
    let lent = c.args in
    omega (arith, common-within lent.k.now lent.l.now)

pub returns-then-four_same : goal.returns-then-four_same
returns-then-four_same c =
    let lent = c.args in
    let on = sym c.four_same.ensures ∙ c.if-four_same.true in
    omega (arith, step_on lent.k.now lent.l.now lent.i (omega arith) 4 on)

pub returns : goal.returns
returns c =
    let k = c.args.k.now in
    let l = c.args.l.now in
    elim c.else-left-ge4.branch [
      | else-left-ge4-via-then-left-ge4+else-four_same w ↦
          let off = sym w.four_same.ensures ∙ w.if-four_same.false in
          omega (arith, step_off k l c.args.i (omega arith) 4 off)
      | else-left-ge4-via-else-left-ge4 w ↦ omega (arith, common-within k l)
    ]
