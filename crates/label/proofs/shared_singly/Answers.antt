-- `label::shared_singly` meets its contract: every byte passed is shared. Assumes nothing.
use native.Mathlib.Omega.{arith}
use Rattle.label.proofs.Eights.{common-within, common-next, common-at}
use Rattle.label.proofs.shared_singly.Goals as goal

pub returns-then-k-i : goal.returns-then-k-i
returns-then-k-i c =
    let lent = c.args in
    common-at lent.k.now lent.l.now c.loop-i.i (omega arith) (omega arith) (omega arith) c.if-k-i.true

pub loop-i-preserved : goal.loop-i-preserved
loop-i-preserved c =
    let lent = c.args in
    common-next lent.k.now lent.l.now c.loop-i.i (omega arith) (omega arith) (omega arith) c.if-k-i.false

pub returns : goal.returns
returns c =
    let lent = c.args in
    omega (arith, common-within lent.k.now lent.l.now)
