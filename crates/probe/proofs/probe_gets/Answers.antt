-- `probe::probe_gets` meets its contract. Assumes nothing.
use mathlib.Core.Path.{ap, ◌∙◌}
use Rattle.tree.specs.Told.{Told}
use Rattle.tree.proofs.OneAnswer.{number_of_told}
use Rattle.probe.proofs.probe_gets.Goals as goal

pub returns : goal.returns
returns c = c.number.ensures ∙ number_of_told _ c.gets.result ∙ ap (λ (x : Told). x.number) c.gets.ensures
