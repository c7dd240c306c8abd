-- `host::yarnhollow_next` meets its contract. Assumes nothing.
use mathlib.Core.Path.{◌∙◌}
use Rattle.tree.specs.Told.{stepped_told}
use Rattle.host.proofs.Handed.{returns_two}
use Rattle.host.proofs.Resuming.{next-given}
use Rattle.host.proofs.FewTold.{few, step_few}
use Rattle.tree.proofs.OneAnswer.{number_of_told}
use Rattle.host.proofs.yarnhollow_next.Goals as goal

pub store_stepped-requires : goal.store_stepped-requires
store_stepped-requires c = few _ _ 1 c.step-step.ensures.said (step_few _ _ _ _)

pub returns : goal.returns
returns c =
    next-given
    c.resumed.ensures
    c.step-step.ensures
    (returns_two (stepped_told c.step-step.result.answer) (c.number.ensures ∙ number_of_told _ c.step-step.result.answer) c.store_stepped.ensures)
