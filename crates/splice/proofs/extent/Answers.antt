-- `splice::extent` meets its contract: the walk has passed what belongs to the slot. Assumes nothing.
use native.Mathlib.Omega.{arith}
use Rattle.splice.proofs.Reach.{walk-on, walk-stop, walk_end, extent_is}
use Rattle.splice.proofs.extent.Goals as goal

pub returns-then-start_at-base : goal.returns-then-start_at-base
returns-then-start_at-base c =
    extent_is _ _ _ _ _ (omega arith) (walk-stop _ _ _ _ _ (omega arith) c.loop-j.invariant) (omega arith) (omega arith)

pub loop-j-preserved : goal.loop-j-preserved
loop-j-preserved c =
    walk-on _ _ _ _ _ _ c.requires.3 (omega arith) (omega arith) c.span_at-j.ensures.0 c.loop-j.invariant

pub returns : goal.returns
returns c =
    extent_is _ _ _ _ _ (omega arith) (walk_end _ _ _ _ _ (omega arith) c.loop-j.invariant) (omega arith) (omega arith)
