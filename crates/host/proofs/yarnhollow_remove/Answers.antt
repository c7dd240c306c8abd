-- `host::yarnhollow_remove` meets its contract. Assumes nothing.
use mathlib.Core.Path.{◌∙◌}
use Rattle.tree.specs.Told.{got_told}
use Rattle.host.proofs.Handed.{last-length, held_two, changes}
use Rattle.host.proofs.FewTold.{few, does_tell, remove_few}
use Rattle.tree.proofs.OneAnswer.{number_of_told}
use Rattle.host.proofs.yarnhollow_remove.Goals as goal

pub store_got-requires : goal.store_got-requires
store_got-requires c = few _ _ 1 (does_tell _ _ _ c.remove-answer.ensures) (remove_few _ _)

pub returns : goal.returns
returns c =
    let told = got_told c.remove-answer.result in
    changes _ c.remove-answer.ensures (held_two last-length told (c.number.ensures ∙ number_of_told _ c.remove-answer.result) c.store_got.ensures)
