-- `split::leave` meets its contract. Assumes nothing.
use native.Mathlib.Omega.{arith}
use Rattle.split.proofs.Left.{leave_bounds, leave_climbing, left_tidied}
use Rattle.split.proofs.leave.Goals as goal

pub span_at-requires : goal.span_at-requires
span_at-requires c = (leave_bounds c.requires).0

pub open_gaps-requires : goal.open_gaps-requires
open_gaps-requires c = omega (arith, leave_bounds c.requires, c.span_at.ensures.0)

pub tidy-requires : goal.tidy-requires
tidy-requires c =
    let x = c.requires in
    let s = c.span_at.ensures.0 in
    leave_climbing x _ _ (omega arith) (c.open_gaps.ensures _ (omega (arith, leave_bounds x)))

pub returns : goal.returns
returns c =
    λ x.
    let s = c.span_at.ensures.0 in
    let e = c.open_gaps.ensures c.args.labels.now (omega (arith, leave_bounds x)) in
    left_tidied x _ _ (omega arith) e _ _ (c.tidy.ensures (leave_climbing x _ _ (omega arith) e))
