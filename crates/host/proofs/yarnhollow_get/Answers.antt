-- `host::yarnhollow_get` meets its contract. Assumes nothing.
use mathlib.Core.Path.{◌∙◌}
use Rattle.tree.specs.Told.{got_told}
use Rattle.host.proofs.Handed.{last-length, held_two, returned}
use Rattle.host.proofs.FewTold.{few, get_few}
use Rattle.tree.proofs.OneAnswer.{number_of_told}
use Rattle.host.proofs.yarnhollow_get.Goals as goal

pub store_got-requires : goal.store_got-requires
store_got-requires c = few _ _ 1 c.get-answer.ensures (get_few _ _)

pub returns : goal.returns
returns c =
    let told = got_told c.get-answer.result in
    returned c.get-answer.ensures (held_two last-length told (c.number.ensures ∙ number_of_told _ c.get-answer.result) c.store_got.ensures)
