-- `remove::take_number` meets its contract. Assumes nothing.
use mathlib.Core.Path.{ap, sym, ◌∙◌}
use Rattle.slots.specs.Bare.{stored_of}
use Rattle.remove.proofs.Taken.{found-slot, found_climbing, not_stored, stored}
use Rattle.remove.proofs.take_number.Goals as goal

pub stored_at-requires : goal.stored_at-requires
stored_at-requires c = (found-slot c.requires).0

pub drop_number-requires : goal.drop_number-requires
drop_number-requires c = (found-slot c.requires).0

pub tidy-requires : goal.tidy-requires
tidy-requires c = found_climbing c.requires _ (c.drop_number.ensures _)

pub returns-in-None : goal.returns-in-None
returns-in-None c = λ x. not_stored x (sym (ap stored_of c.in-None.is) ∙ c.stored_at.ensures)

pub returns-in-Some : goal.returns-in-Some
returns-in-Some c =
    λ x. stored x _ _ _ _ (sym (ap stored_of c.in-Some.is) ∙ c.stored_at.ensures) (c.drop_number.ensures _) (c.tidy.ensures (found_climbing x _ (c.drop_number.ensures _)))
