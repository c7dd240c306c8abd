-- `splice::alter::open_gap` meets its contract. Assumes nothing.
use native.Mathlib.Omega.{arith}
use Rattle.splice.proofs.Altered.{gap_opened}
use Rattle.splice.proofs.alter.open_gap.Goals as goal

pub returns : goal.returns
returns c = λ bs. gap_opened _ _ bs _ (omega arith) c.set_len.ensures
