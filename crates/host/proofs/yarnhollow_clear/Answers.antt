-- `host::yarnhollow_clear` meets its contract. Assumes nothing.
use mathlib.Core.Path.{◌∙◌}
use Rattle.tree.specs.Told.{bare_told}
use Rattle.host.proofs.Handed.{returns-none, changes}
use Rattle.tree.proofs.OneAnswer.{number_of_told}
use Rattle.host.proofs.yarnhollow_clear.Goals as goal

pub returns : goal.returns
returns c = changes _ c.clear.ensures (returns-none (bare_told c.clear.result) (c.number.ensures ∙ number_of_told _ c.clear.result))
