-- `Key::new` meets its contract. Assumes nothing.
use Rattle.std.proofs.Common.{refl, arith}
use Rattle.tree.specs.Key.{key_max}
use Rattle.tree.proofs.key.Key.new.Goals as goal

pub returns-then-bytes-gt-KEY_MAX : goal.returns-then-bytes-gt-KEY_MAX
unfolding key_max
returns-then-bytes-gt-KEY_MAX c = (refl, λ h. omega arith)

pub invariant_of-result : goal.invariant_of-result
unfolding key_max
invariant_of-result c = omega arith

pub returns : goal.returns
unfolding key_max
returns c = (refl, omega arith)
