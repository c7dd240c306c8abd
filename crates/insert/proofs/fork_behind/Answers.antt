-- `insert::fork_behind` meets its contract. Assumes nothing.
use Rattle.insert.proofs.Asks.{then, when_moved, when_filled, here, cut-within, keeps_front, keeps_back, next-below}
use Rattle.insert.proofs.Places.{behind_upper, behind-lower, forked_behind}
use Rattle.insert.proofs.fork_behind.Goals as goal

pub keep_front-requires : goal.keep_front-requires
keep_front-requires c =
    let m₂ = c.move_slots-2.ensures in
    let m = c.move_slots.ensures in
    let p = c.requires in
    keeps_front p.0 p.1.cuts (then (when_moved m₂) (when_moved m)) (behind_upper p.0 p.1 p.2 c.span_at.ensures.0 m m₂) (cut-within p.0 p.1.cuts)

pub keep_back-requires : goal.keep_back-requires
keep_back-requires c =
    let m₂ = c.move_slots-2.ensures in
    let m = c.move_slots.ensures in
    let p = c.requires in
    let up = then (when_moved m₂) (when_moved m) in
    let f = here p.0 up (cut-within p.0 p.1.cuts) c.keep_front.ensures.0 in
    keeps_back p.0 p.1.cuts (then (when_filled f) up) (behind-lower p.0 p.1 p.2 c.span_at.ensures.0 m m₂ f) (next-below p.0 p.1 p.2)

pub returns : goal.returns
returns c =
    let m₂ = c.move_slots-2.ensures in
    let m = c.move_slots.ensures in
    let p = c.requires in
    let f = here p.0 (then (when_moved m₂) (when_moved m)) (cut-within p.0 p.1.cuts) c.keep_front.ensures.0 in
    forked_behind c.args.fork.now.number.0 p.0 p.1 p.2 p.3 c.start_at.ensures.0 c.span_at.ensures.0 m m₂ (f, c.keep_front.ensures.1) c.keep_back.ensures c.chain.ensures
