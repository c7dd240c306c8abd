-- `tidy::climb` meets its contract: what is behind is settled, and a slot is next or the root is reached. Assumes nothing.
use Rattle.tidy.specs.Climb.{Climbing, Stage}
use Rattle.tidy.proofs.climb.Given as goal

abbrev pub invariant-loop-c : goal.invariant-loop-c
invariant-loop-c l = (x : Climbing l.initial.words l.initial.labels l.fn.from.0) → Stage x.words x.labels x.whole x.final l.words l.labels l.c

abbrev pub decreases-loop-c : goal.decreases-loop-c
decreases-loop-c l = l.c
