-- `slots::put::keep_back` meets its contract. Assumes nothing.
use native.Mathlib.Omega.{arith}
use borrow.Author.Rules.{rules}
use Rattle.slots.proofs.Slots.{head-kept}
use Rattle.slots.proofs.Cuts.{back-kept}
use Rattle.slots.proofs.put.keep_back.Goals as goal

pub returns : goal.returns
returns c = (
  back-kept _ _ _ (omega arith) (omega arith) _ (omega arith) (omega arith) _ _ _ _ _ c.start_at-start.ensures.0 c.len_at-len.ensures.0 c.stored_at-stored.ensures c.put_head.ensures (search rules),
  head-kept _ _ _ _ _ _ c.put_head.ensures,
)
