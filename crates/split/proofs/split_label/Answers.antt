-- `split::split_label` meets its contract. Assumes nothing.
use native.Mathlib.Omega.{arith}
use Rattle.split.proofs.Halves.{inside_ready, inside-slot, inside-leaves, inside-full, inside-done}
use Rattle.split.proofs.split_label.Goals as goal

pub span_at-requires : goal.span_at-requires
span_at-requires c = inside-slot c.requires.0

pub returns-then-span_at-room : goal.returns-then-span_at-room
returns-then-span_at-room c = λ x. inside-full x c.requires.1 (omega (arith, c.span_at.ensures.0, c.if-span_at-room.true))

pub detach_label-requires : goal.detach_label-requires
detach_label-requires c =
    let p = c.requires in
    let s = c.span_at.ensures.0 in
    let r = inside_ready p.0 in
    (r.0, r.1, record { words = omega (arith, p.1.words); labels = omega (arith, p.1.labels) })

pub leave-requires : goal.leave-requires
leave-requires c = inside-leaves c.requires.0

pub returns : goal.returns
returns c =
    λ x. inside-done x c.requires.1 _ _ _ _ (omega (arith, c.span_at.ensures.0, c.if-span_at-room.false)) c.detach_label.ensures (c.leave.ensures (inside-leaves x))
