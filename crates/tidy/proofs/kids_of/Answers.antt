-- `tidy::kids_of` meets its contract, by the two children that it looks for. Assumes nothing.
use native.Mathlib.Omega.{arith}
use Rattle.tidy.proofs.Settle.{childless, several, only_child}
use Rattle.tidy.proofs.kids_of.Goals as goal

pub returns-then-child-end : goal.returns-then-child-end
returns-then-child-end c =
    λ bs s b l w kids r. childless r _ _ (omega (arith, c.span_at.ensures.0)) c.next_child-child.ensures.1 (omega arith)

pub returns-then-other-end : goal.returns-then-other-end
returns-then-other-end c =
    λ bs s b l w kids r. several r _ _ (omega (arith, c.span_at.ensures.0)) c.next_child-child.ensures.1 (omega arith) _ _ (omega (arith, c.span_at-2.ensures.0)) c.next_child-other.ensures.1 (omega arith)

pub returns : goal.returns
returns c =
    λ bs s b l w kids r. only_child r _ _ (omega (arith, c.span_at.ensures.0)) c.next_child-child.ensures.1 (omega arith) _ _ (omega (arith, c.span_at-2.ensures.0)) c.next_child-other.ensures.1 (omega arith)
