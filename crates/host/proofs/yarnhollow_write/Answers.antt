-- `host::yarnhollow_write` meets its contract. Assumes nothing.
use mathlib.Core.Path.{◌∙◌}
use Rattle.tree.specs.Told.{written_told}
use Rattle.host.proofs.Handed.{returns_two, written}
use Rattle.tree.proofs.OneAnswer.{number_of_told}
use Rattle.host.proofs.yarnhollow_write.Goals as goal

pub returns : goal.returns
returns c =
    written c.write-answer.ensures (returns_two (written_told c.write-answer.result) (c.number.ensures ∙ number_of_told _ c.write-answer.result) c.store_written.ensures)
