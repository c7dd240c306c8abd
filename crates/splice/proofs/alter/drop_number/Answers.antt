-- `splice::alter::drop_number` meets its contract. Assumes nothing.
use native.Mathlib.Omega.{arith}
use Rattle.splice.proofs.Altered.{number_dropped}
use Rattle.splice.proofs.alter.drop_number.Goals as goal

pub returns : goal.returns
returns c = λ bs. number_dropped _ _ bs _ (omega arith) c.set_has.ensures
