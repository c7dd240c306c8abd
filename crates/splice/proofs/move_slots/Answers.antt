-- `splice::move_slots` meets its contract. Assumes nothing.
use Rattle.splice.proofs.Moved.{slots-moved}
use borrow.Author.Rules.{rules}
use Rattle.splice.proofs.move_slots.Goals as goal

pub returns : goal.returns
returns c = slots-moved _ _ _ _ _ _ _ (search rules) (search rules) (search rules)
