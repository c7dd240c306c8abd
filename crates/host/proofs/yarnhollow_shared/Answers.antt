-- `host::yarnhollow_shared` meets its contract. Assumes nothing.
use mathlib.Core.Path.{◌∙◌}
use Rattle.tree.specs.Told.{sharing_told}
use Rattle.host.proofs.Handed.{last-length, held_two, returned}
use Rattle.host.proofs.FewTold.{few, shared_few}
use Rattle.tree.proofs.OneAnswer.{number_of_told}
use Rattle.host.proofs.yarnhollow_shared.Goals as goal

pub store_sharing-requires : goal.store_sharing-requires
store_sharing-requires c = few _ _ 1 c.shared-answer.ensures (shared_few _ _)

pub returns : goal.returns
returns c =
    let told = sharing_told c.shared-answer.result in
    returned c.shared-answer.ensures (held_two last-length told (c.number.ensures ∙ number_of_told _ c.shared-answer.result) c.store_sharing.ensures)
