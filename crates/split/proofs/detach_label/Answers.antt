-- `split::detach_label` meets its contract. Assumes nothing.
use mathlib.Core.Path.{refl}
use native.Mathlib.Omega.{arith}
use Rattle.split.proofs.Lifts.{detached-below}
use Rattle.split.proofs.detach_label.Goals as goal

pub returns : goal.returns
returns c =
    let p = c.requires in
    let s = c.span_at-span.ensures.0 in
    detached-below _ _ _ _ _ _ _ _ _ _ _ _ _ _ _ p.0 refl (omega arith) (omega (arith, c.start_at.ensures.0)) (omega arith) c.lift.ensures c.top_slot.ensures c.put_root.ensures
