-- `host::yarnhollow_split` meets its contract. Assumes nothing.
use mathlib.Core.Path.{◌∙◌}
use Rattle.tree.specs.Told.{bare_told}
use Rattle.host.proofs.Handed.{returns-none, splits}
use Rattle.tree.proofs.OneAnswer.{number_of_told}
use Rattle.host.proofs.yarnhollow_split.Goals as goal

pub returns : goal.returns
returns c = splits _ c.split.ensures (returns-none (bare_told c.split.result) (c.number.ensures ∙ number_of_told _ c.split.result))
