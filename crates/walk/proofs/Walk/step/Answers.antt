-- `walk::Walk::step` meets its contract: the walk is handed on by what the step answers. Assumes nothing.
use mathlib.Core.Path.{refl}
use Rattle.tree.specs.Key.{key_max}
use Rattle.walk.proofs.Walk.step.Goals as goal

pub find-answer-requires : goal.find-answer-requires
unfolding key_max
find-answer-requires c = refl
