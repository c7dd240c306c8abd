-- `pool::children_ok` meets its contract: the rest of the chain is right where the whole is. Assumes nothing.
use Prim.Native.Nat.{◌-◌}
use Rattle.pool.proofs.Kin.{Along}
use Rattle.pool.proofs.children_ok.Given as goal

abbrev pub invariant-loop-c : goal.invariant-loop-c
invariant-loop-c l = Along l.words l.labels l.base l.end.0 l.initial.c l.least l.c

abbrev pub decreases-loop-c : goal.decreases-loop-c
decreases-loop-c l = l.end.0 - l.c
