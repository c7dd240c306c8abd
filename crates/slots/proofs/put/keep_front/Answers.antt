-- `slots::put::keep_front` meets its contract. Assumes nothing.
use native.Mathlib.Omega.{arith}
use Rattle.slots.proofs.Slots.{head-kept}
use Rattle.slots.proofs.Cuts.{front_kept}
use Rattle.slots.proofs.put.keep_front.Goals as goal

pub returns : goal.returns
returns c =
    let e = c.put_head.ensures in (
      λ bs h. front_kept _ bs _ (omega arith) h _ (omega arith) (omega arith) _ _ _ c.start_at-start.ensures.0 e,
      head-kept _ _ _ _ _ _ e,
    )
