-- `tidy::climb` meets its contract: what is behind is settled, and a slot is next or the root is reached. Assumes nothing.
use native.Mathlib.Omega.{arith}
use Rattle.tidy.specs.Sparse.{Ready}
use Rattle.tidy.proofs.Stage.{origin, stage_ready, stage-on}
use Rattle.tidy.proofs.climb.Goals as goal
use Rattle.tidy.proofs.climb.Goals.{After-loop-c, In-loop-c}

-- the slot that the loop is at
ready : (c : goal.In-loop-c) → let v = c.loop-c in Ready v.words v.labels v.c
ready c =
    let x = c.requires in
    stage_ready (origin x) (c.loop-c.invariant x) c.loop-c-test.true

pub settle_node-requires : goal.settle_node-requires
settle_node-requires c = search ready

pub parent_of-c-requires : goal.parent_of-c-requires
parent_of-c-requires c =
    let r = ready (goal.at.parent_of-c-requires c).In-loop-c in
    let d = c.settle_node.ensures _ _ _ _ _ r.ripe in
    (omega arith, omega (arith, d.inside.len_w, r.words, r.ripe.span))

pub loop-c-preserved : goal.loop-c-preserved
loop-c-preserved c =
    λ x.
    stage-on (origin x) (c.loop-c.invariant x) (omega arith) c.settle_node.ensures c.parent_of-c.ensures
