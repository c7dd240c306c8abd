-- `reader::fill::number_due` meets its contract. Assumes nothing.
use mathlib.Core.Path.{refl}
use Rattle.slots.proofs.Cuts.{stored_none, stored_some}
use Rattle.reader.proofs.fill.number_due.Goals as goal

pub returns-then-has-eq0 : goal.returns-then-has-eq0
returns-then-has-eq0 c = stored_none _ _ c.if-has-eq0.true

pub returns : goal.returns
returns c = stored_some _ _ _ c.if-has-eq0.false refl
