-- `host::yarnhollow_read` meets its contract. Assumes nothing.
use mathlib.Core.Path.{◌∙◌}
use Rattle.tree.specs.Told.{bare_told}
use Rattle.host.proofs.Handed.{returns_one, changes}
use Rattle.tree.proofs.OneAnswer.{number_of_told}
use Rattle.host.proofs.yarnhollow_read.Goals as goal

pub returns : goal.returns
returns c =
    changes _ c.read-answer.ensures (returns_one (bare_told c.read-answer.result) (c.number.ensures ∙ number_of_told _ c.read-answer.result) c.store_loaded.ensures)
