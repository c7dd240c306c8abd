-- `Pool::new` meets its contract. Assumes nothing.
use Rattle.std.proofs.Common.{refl}
use Rattle.pool.proofs.Answers.{bytes_of}
use Rattle.pool.proofs.whole.Pool.new.Goals as goal

pub invariant_of-result : goal.invariant_of-result
invariant_of-result c = record { rule = c.in_ok-tested.ensures; bytes = bytes_of _ c.type_inv.labels }

pub returns : goal.returns
returns c = (refl, record { rule = c.in_ok-tested.ensures; bytes = bytes_of _ c.type_inv.labels })
