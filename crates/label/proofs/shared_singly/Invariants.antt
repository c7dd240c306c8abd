-- `label::shared_singly` meets its contract: every byte passed is shared. Assumes nothing.
use Prim.Native.Nat.{◌≤◌}
use Rattle.tree.specs.Key.{common}
use Rattle.label.proofs.shared_singly.Given as goal

abbrev pub invariant-loop-i : goal.invariant-loop-i
invariant-loop-i l = l.i ≤ common l.k l.l
