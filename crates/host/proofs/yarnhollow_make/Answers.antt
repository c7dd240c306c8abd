-- `host::yarnhollow_make` meets its contract. Assumes nothing.
use mathlib.Core.Path.{◌∙◌}
use Rattle.tree.specs.Told.{bare_told}
use Rattle.host.proofs.Handed.{returns-none, changes}
use Rattle.tree.proofs.OneAnswer.{number_of_told}
use Rattle.host.proofs.yarnhollow_make.Goals as goal

pub returns : goal.returns
returns c = changes _ c.make.ensures (returns-none (bare_told c.make.result) (c.number.ensures ∙ number_of_told _ c.make.result))
