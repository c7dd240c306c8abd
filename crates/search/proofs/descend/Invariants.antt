-- `search::descend` meets its contract: its loop keeps where in the tree the search has come to. Assumes nothing.
use Prim.Native.Nat.{◌-◌}
use Rattle.search.specs.Landing.{best_of}
use Rattle.search.proofs.Seek.{Seek}
use Rattle.search.proofs.descend.Given as goal

abbrev pub invariant-loop-c : goal.invariant-loop-c
invariant-loop-c l = Seek l.words l.labels l.key (best_of l.best) l.looked l.parent.0 l.c l.end l.p

abbrev pub decreases-loop-c : goal.decreases-loop-c
decreases-loop-c l = l.end - l.c
