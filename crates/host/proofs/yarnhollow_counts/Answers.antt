-- `host::yarnhollow_counts` meets its contract. Assumes nothing.
use mathlib.Core.Path.{◌∙◌}
use Rattle.tree.specs.Told.{counted_told}
use Rattle.host.proofs.Handed.{returns_two, returned}
use Rattle.host.proofs.FewTold.{few, counts_few}
use Rattle.tree.proofs.OneAnswer.{number_of_told}
use Rattle.host.proofs.yarnhollow_counts.Goals as goal

pub store_counted-requires : goal.store_counted-requires
store_counted-requires c = few _ _ 0 c.counts-answer.ensures (counts_few _)

pub returns : goal.returns
returns c =
    returned c.counts-answer.ensures (returns_two (counted_told c.counts-answer.result) (c.number.ensures ∙ number_of_told _ c.counts-answer.result) c.store_counted.ensures)
