-- `slots::set_number` meets its contract: a low word and a high one are stored. Assumes nothing.
use mathlib.Core.Path.{refl}
use Rattle.slots.specs.Bare.{number_put}
use Rattle.slots.proofs.set_number.Goals as goal

pub returns : goal.returns
returns c = unfold number_put in refl
