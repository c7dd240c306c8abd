-- `tidy::next_child` meets its contract: the slots passed are gaps. Assumes nothing.
use native.Mathlib.Omega.{arith}
use Rattle.tidy.proofs.Sparse.{pass_none, pass_on, hops_on}
use Rattle.tidy.proofs.next_child.Goals as goal

pub loop-c-init : goal.loop-c-init
loop-c-init c = (c.requires.1, pass_none _ _ _)

pub loop-c-preserved : goal.loop-c-preserved
loop-c-preserved c =
    ((hops_on (omega arith) c.span_at-c.ensures.0 c.loop-c.invariant.0).1, pass_on _ _ _ _ _ (omega arith) (omega (arith, c.if-len_at-gt0.false, c.len_at.ensures.0)) c.span_at-c.ensures.0 c.loop-c.invariant.1)
