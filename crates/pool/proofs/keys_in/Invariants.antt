-- `pool::keys_in` meets its contract: the keys counted are those of the slots passed. Assumes nothing.
use mathlib.Core.Path.{◌≡◌}
use Prim.Native.Nat.{◌≤◌}
use Rattle.pool.specs.Fields.{has_sum}
use Rattle.pool.proofs.keys_in.Given as goal

abbrev pub invariant-loop-i : goal.invariant-loop-i
invariant-loop-i l = (l.i ≤ l.n) × (l.keys ≡ has_sum l.words l.i) × (l.keys ≤ l.i)
