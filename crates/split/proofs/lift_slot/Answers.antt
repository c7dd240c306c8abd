-- `split::lift_slot` meets its contract. Assumes nothing.
use Prim.Native.Nat.{◌+◌}
use native.Mathlib.Omega.{arith}
use Rattle.split.proofs.Lifts.{lift_one, lowered-put}
use Rattle.split.proofs.lift_slot.Goals as goal

pub returns : goal.returns
returns c =
    let p = c.requires.fact in
    let a = c.args in
    let short = p.0.short (a.part.now.from.0 + a.i) (omega arith) (omega arith) in
    let put = rw c.carried-head.ensures at c.put_slot.ensures in
    lowered-put _ _ _ _ _ _ _ _ _ _ _ (lift_one _ p.1 p.0) short c.label_at-label.ensures (omega (arith, c.start_at.ensures.0)) put
