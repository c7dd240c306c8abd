-- `host::yarnhollow_longest` meets its contract. Assumes nothing.
use mathlib.Core.Path.{◌∙◌}
use Rattle.tree.specs.Told.{prefixed_told}
use Rattle.host.proofs.Handed.{last-length, held_three, returned}
use Rattle.host.proofs.FewTold.{few, longest_few}
use Rattle.tree.proofs.OneAnswer.{number_of_told}
use Rattle.host.proofs.yarnhollow_longest.Goals as goal

pub store_prefixed-requires : goal.store_prefixed-requires
store_prefixed-requires c = few _ _ 1 c.longest-answer.ensures (longest_few _ _)

pub returns : goal.returns
returns c =
    let told = prefixed_told c.longest-answer.result in
    returned c.longest-answer.ensures
    (held_three last-length told (c.number.ensures ∙ number_of_told _ c.longest-answer.result) c.store_prefixed.ensures)
