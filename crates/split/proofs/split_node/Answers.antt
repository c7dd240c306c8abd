-- `split::split_node` meets its contract. Assumes nothing.
use native.Mathlib.Omega.{arith}
use Rattle.split.proofs.Halves.{same_ready, same-slot, same-leaves, same_full, same-done}
use Rattle.split.proofs.split_node.Goals as goal

pub span_at-requires : goal.span_at-requires
span_at-requires c = same-slot c.requires.0

pub returns-then-span_at-room : goal.returns-then-span_at-room
returns-then-span_at-room c = λ x. same_full x c.requires.1 (omega (arith, c.span_at.ensures.0, c.if-span_at-room.true))

pub detach_node-requires : goal.detach_node-requires
detach_node-requires c =
    let p = c.requires in
    let s = c.span_at.ensures.0 in
    (same_ready p.0, record { words = omega (arith, p.1.words); labels = omega (arith, p.1.labels) })

pub leave-requires : goal.leave-requires
leave-requires c = same-leaves c.requires.0

pub returns : goal.returns
returns c =
    λ x. same-done x c.requires.1 _ _ _ _ (omega (arith, c.span_at.ensures.0, c.if-span_at-room.false)) c.detach_node.ensures (c.leave.ensures (same-leaves x))
