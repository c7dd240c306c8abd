-- `tidy::parent_of` meets its contract: the slots passed start no higher. Assumes nothing.
use Prim.Native.Nat.{◌-◌}
use Rattle.tidy.proofs.Rise.{Scanned}
use Rattle.tidy.proofs.parent_of.Given as goal

abbrev pub invariant-loop-r : goal.invariant-loop-r
invariant-loop-r l = Scanned l.words l.start (l.initial.r - 1) (l.r - 1)
