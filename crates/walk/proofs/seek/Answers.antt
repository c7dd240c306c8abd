-- `walk::seek` meets its contract: its loop keeps what the slots ahead of it give. Assumes nothing.
use mathlib.Core.Path.{sym, ◌∙◌}
use Rattle.walk.proofs.Sought.{ahead-start, slot-room, sought_none, ahead-plain, ahead-passed, sought_key}
use Rattle.walk.proofs.seek.Goals as goal
use Rattle.walk.proofs.seek.Goals.{then-gives_key+else-is_due, else-gives_key}

pub loop-i-init : goal.loop-i-init
loop-i-init c =
    ahead-start _ _ _ c.pool.invariant.rule c.pool.invariant.bytes c.nodes_in-n.ensures.0 c.requires

pub lay-length-requires : goal.lay-length-requires
lay-length-requires c = slot-room c.loop-i.invariant c.loop-i-test.true

pub returns-then-is_due : goal.returns-then-is_due
returns-then-is_due c =
    rw (← c.pool.view_is)
    (sought_key c.loop-i.invariant c.loop-i-test.true c.lay-length.ensures (rw c.if-gives_key.true at c.gives_key.ensures) (sym c.if-is_due.true ∙ c.is_due.ensures) _ c.number_at-number.ensures)

pub loop-i-preserved : goal.loop-i-preserved
loop-i-preserved c =
    elim c.if-gives_key.branch [
      | then-gives_key+else-is_due w ↦
          ahead-passed c.loop-i.invariant c.loop-i-test.true c.lay-length.ensures
          (rw w.if-gives_key.true at c.gives_key.ensures) (sym w.if-is_due.false ∙ w.is_due.ensures)
      | else-gives_key w ↦
          ahead-plain c.loop-i.invariant c.loop-i-test.true c.lay-length.ensures (rw w.if-gives_key.false at c.gives_key.ensures)
    ]

pub returns : goal.returns
returns c = rw (← c.pool.view_is) (sought_none c.loop-i.invariant c.loop-i-test.false)
