-- `tidy::next_child` meets its contract: the slots passed are gaps. Assumes nothing.
use Prim.Native.Nat.{◌-◌}
use Rattle.tidy.specs.Sparse.{Hops}
use Rattle.tidy.proofs.Sparse.{Passing}
use Rattle.tidy.proofs.next_child.Given as goal

abbrev pub invariant-loop-c : goal.invariant-loop-c
invariant-loop-c l = Hops l.words l.end l.c × Passing l.words l.end l.fn.from.0 l.c

abbrev pub decreases-loop-c : goal.decreases-loop-c
decreases-loop-c l = l.end - l.c
