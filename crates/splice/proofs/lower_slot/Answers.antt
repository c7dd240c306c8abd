-- `splice::lower_slot` meets its contract. Assumes nothing.
use mathlib.Core.Path.{refl}
use native.Mathlib.Omega.{arith}
use Rattle.splice.proofs.Gaps.{slot-lowered}
use borrow.Author.Rules.{rules}
use Rattle.splice.proofs.lower_slot.Goals as goal

pub returns : goal.returns
returns c =
    slot-lowered _ _ _ _ _ _ _ _ (omega arith) refl (omega arith) (omega arith) c.label_room-n.ensures (search rules) (search rules)
