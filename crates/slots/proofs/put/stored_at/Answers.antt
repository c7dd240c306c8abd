-- `slots::put::stored_at` meets its contract. Assumes nothing.
use native.Mathlib.Omega.{arith}
use Rattle.slots.proofs.Cuts.{stored_none, stored_some}
use Rattle.slots.proofs.put.stored_at.Goals as goal

pub returns : goal.returns
returns c = stored_some _ _ _ (λ e. c.if-has_at-eq0.false (omega arith)) c.number_at.ensures

pub returns-then-has_at-eq0 : goal.returns-then-has_at-eq0
returns-then-has_at-eq0 c = stored_none _ _ (omega arith)
