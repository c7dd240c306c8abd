-- `search::descend` meets its contract: its loop keeps where in the tree the search has come to. Assumes nothing.
use mathlib.Core.Path.{refl}
use native.Mathlib.Omega.{arith}
use Rattle.search.specs.declared.Meeting.{Meeting}
use Rattle.search.specs.Landing.{best_of}
use Rattle.search.proofs.Seek.{seek_start, AtNode, seek_node, node_means, through_left, seek_over, seek_down, lands_root, lands_before, lands_same, lands_inside, lands_fork, lands_last}
use Rattle.search.proofs.descend.Goals as goal
use Rattle.search.proofs.descend.Goals.{In-loop-c}

-- the node that the loop is at
here : (c : goal.In-loop-c)
    → let v = c.loop-c in
    let best = best_of v.best in
    AtNode c.pool.inside.words.now c.pool.inside.labels.now c.key.inside.bytes.now best v.looked v.parent.0 v.c v.end v.p
here c = seek_node c.pool.invariant.rule c.loop-c-test.true c.loop-c.invariant

pub returns-then-key-eq0 : goal.returns-then-key-eq0
returns-then-key-eq0 c =
    rw (← c.pool.view_is, ← c.key.view_is, c.landed.ensures)
    (record {
      whole = c.pool.invariant;
      short = c.key.invariant;
      lands = lands_root _ _ _ c.pool.invariant.rule c.pool.invariant.bytes _ c.if-key-eq0.true refl
          (record { at-is = refl; parent_is = refl; above-is = refl }) c.best_at-best.ensures refl;
    })

pub loop-c-init : goal.loop-c-init
loop-c-init c =
    seek_start _ _ _ c.pool.invariant.rule c.pool.invariant.bytes _ _ c.nodes_in-n.ensures.0 c.best_at-best.ensures c.if-key-eq0.false

pub nodes_in-n-requires : goal.nodes_in-n-requires
nodes_in-n-requires c = omega (arith, c.pool.invariant.rule)

pub best_at-best-requires : goal.best_at-best-requires
best_at-best-requires c = omega (arith, c.pool.invariant.rule)

pub overflow_add-seen : goal.overflow_add-seen
overflow_add-seen c = omega (arith, here (goal.at.overflow_add-seen c).In-loop-c)

pub meet-requires : goal.meet-requires
meet-requires c =
    ((here (goal.at.meet-requires c).In-loop-c).within, omega (arith, here (goal.at.meet-requires c).In-loop-c))

pub returns-in-Before : goal.returns-in-Before
returns-in-Before c =
    rw (← c.pool.view_is, ← c.key.view_is, c.landed-in-Before.ensures)
    (record { whole = c.pool.invariant; short = c.key.invariant; lands = lands_before _ (here (goal.at.returns-in-Before c).In-loop-c) refl refl (node_means (here (goal.at.returns-in-Before c).In-loop-c) _ Meeting.Before c.meet.ensures c.in-Before.is) refl })

pub loop-c-smaller-in-Past : goal.loop-c-smaller-in-Past
loop-c-smaller-in-Past c = omega (arith, here (goal.at.loop-c-smaller-in-Past c).In-loop-c)

pub loop-c-preserved-in-Past : goal.loop-c-preserved-in-Past
loop-c-preserved-in-Past c =
    seek_over (here (goal.at.loop-c-preserved-in-Past c).In-loop-c) _ c.span_at-c.ensures.0 (node_means (here (goal.at.loop-c-preserved-in-Past c).In-loop-c) _ Meeting.Past c.meet.ensures c.in-Past.is)

pub returns-in-Same : goal.returns-in-Same
returns-in-Same c =
    let same = node_means (here (goal.at.returns-in-Same c).In-loop-c) _ Meeting.Same c.meet.ensures c.in-Same.is in
    rw (← c.pool.view_is, ← c.key.view_is, c.landed-in-Same.ensures)
    (record { whole = c.pool.invariant; short = c.key.invariant; lands = lands_same _ (here (goal.at.returns-in-Same c).In-loop-c) refl c.best_at-best-in-Same.ensures same refl })

pub returns-in-Inside : goal.returns-in-Inside
returns-in-Inside c =
    let inside = node_means (here (goal.at.returns-in-Inside c).In-loop-c) _ (Meeting.Inside _) c.meet.ensures c.in-Inside.is in
    rw (← c.pool.view_is, ← c.key.view_is, c.landed-in-Inside.ensures)
    (record { whole = c.pool.invariant; short = c.key.invariant; lands = lands_inside _ (here (goal.at.returns-in-Inside c).In-loop-c) refl _ refl inside refl })

pub returns-in-Fork : goal.returns-in-Fork
returns-in-Fork c =
    let fork = node_means (here (goal.at.returns-in-Fork c).In-loop-c) _ (Meeting.Fork _) c.meet.ensures c.in-Fork.is in
    rw (← c.pool.view_is, ← c.key.view_is, c.landed-in-Fork.ensures)
    (record { whole = c.pool.invariant; short = c.key.invariant; lands = lands_fork _ (here (goal.at.returns-in-Fork c).In-loop-c) refl _ refl fork refl })

pub overflow_add-p : goal.overflow_add-p
overflow_add-p c =
    omega (arith, through_left (here (goal.at.overflow_add-p c).In-loop-c) _ (node_means (here (goal.at.overflow_add-p c).In-loop-c) _ (Meeting.Through _) c.meet.ensures c.in-Through.is))

pub overflow_add-p-in-Through : goal.overflow_add-p-in-Through
overflow_add-p-in-Through c =
    omega (arith, through_left (here (goal.at.overflow_add-p-in-Through c).In-loop-c) _ (node_means (here (goal.at.overflow_add-p-in-Through c).In-loop-c) _ (Meeting.Through _) c.meet.ensures c.in-Through.is))

pub loop-c-smaller : goal.loop-c-smaller
loop-c-smaller c = omega (arith, here (goal.at.loop-c-smaller c).In-loop-c)

pub loop-c-preserved : goal.loop-c-preserved
loop-c-preserved c =
    seek_down (here (goal.at.loop-c-preserved c).In-loop-c) _ c.span_at.ensures.0 _ (node_means (here (goal.at.loop-c-preserved c).In-loop-c) _ (Meeting.Through _) c.meet.ensures c.in-Through.is) _ c.best_at-best-in-Through.ensures

pub returns : goal.returns
returns c = rw (← c.pool.view_is, ← c.key.view_is, c.landed-2.ensures)
    (record { whole = c.pool.invariant; short = c.key.invariant; lands = lands_last _ c.loop-c.invariant c.loop-c-test.false refl })
