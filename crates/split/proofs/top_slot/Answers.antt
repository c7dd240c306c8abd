-- `split::top_slot` meets its contract. Assumes nothing.
use native.Mathlib.Omega.{arith}
use lib.ListN.{length}
use Prim.Native.Nat.{◌≤◌}
use Rattle.split.proofs.Lifts.{label_long, topped-put}
use Rattle.split.proofs.top_slot.Goals as goal
use Rattle.split.proofs.top_slot.Goals.{After-label_at-label}

-- the label is as long as its slot says
long : (c : After-label_at-label) → c.args.m ≤ length c.label_at-label.result.now
long c =
    let p = c.requires in
    omega (arith, p.1, label_long _ _ _ _ p.0 p.2 c.label_at-label.ensures)

pub slice_bounds-rest-count : goal.slice_bounds-rest-count
slice_bounds-rest-count c = omega (arith, long (goal.at.slice_bounds-rest-count c).After-label_at-label)

pub slice_bounds-rest-start : goal.slice_bounds-rest-start
slice_bounds-rest-start c = omega (arith, long (goal.at.slice_bounds-rest-start c).After-label_at-label)

pub returns : goal.returns
returns c =
    let p = c.requires in
    topped-put _ _ _ _ _ _ _ _ c.args.m _ p.0 p.2 c.label_at-label.ensures (rw c.carried-head.ensures at c.put_slot.ensures)
