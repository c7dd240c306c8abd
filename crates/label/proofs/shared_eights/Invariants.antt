-- `label::shared_eights` meets its contract: each step passes eight shared bytes, and fewer are left. Assumes nothing.
use Prim.Native.Nat.{◌≤◌, ◌*◌}
use Rattle.tree.specs.Key.{common}
use Rattle.label.proofs.shared_eights.Given as goal

abbrev pub invariant-loop-n : goal.invariant-loop-n
invariant-loop-n l = 8 * l.n ≤ common l.k l.l
