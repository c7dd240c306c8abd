-- `host::yarnhollow_insert` meets its contract. Assumes nothing.
use mathlib.Core.Path.{◌∙◌}
use Rattle.tree.specs.Told.{inserted_told}
use Rattle.host.proofs.Handed.{flagged_length, held_three, changes}
use Rattle.host.proofs.FewTold.{few, does_tell, insert_few}
use Rattle.tree.proofs.OneAnswer.{number_of_told}
use Rattle.host.proofs.yarnhollow_insert.Goals as goal

pub store_inserted-requires : goal.store_inserted-requires
store_inserted-requires c = few _ _ 0 (does_tell _ _ _ c.insert-answer.ensures) (insert_few _ _ _ _)

pub returns : goal.returns
returns c =
    let told = inserted_told c.insert-answer.result in
    changes _ c.insert-answer.ensures
    (held_three flagged_length told (c.number.ensures ∙ number_of_told _ c.insert-answer.result) c.store_inserted.ensures)
