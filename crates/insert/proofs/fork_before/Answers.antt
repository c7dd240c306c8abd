-- `insert::fork_before` meets its contract. Assumes nothing.
use Rattle.insert.proofs.Asks.{then, when_moved, when_filled, when_built, here, cut-within, keeps_front, keeps_back, upper_below, lower-within}
use Rattle.insert.proofs.Places.{before-lower, forked_before}
use Rattle.insert.proofs.fork_before.Goals as goal

pub keep_front-requires : goal.keep_front-requires
keep_front-requires c =
    let m = c.move_slots.ensures in
    let p = c.requires in
    keeps_front p.0 p.1.cuts (when_moved m) (m.low _ (upper_below p.0 p.1 p.2)) (cut-within p.0 p.1.cuts)

pub keep_back-requires : goal.keep_back-requires
keep_back-requires c =
    let b = c.chain.ensures in
    let m = c.move_slots.ensures in
    let p = c.requires in
    let f = here p.0 (when_moved m) (cut-within p.0 p.1.cuts) c.keep_front.ensures.0 in
    keeps_back p.0 p.1.cuts (then (when_built b) (then (when_filled f) (when_moved m))) (before-lower c.args.fork.now.number.0 p.0 p.1 p.2 p.3 c.start_at.ensures.0 m f b) (lower-within p.0 p.1 p.2)

pub returns : goal.returns
returns c =
    let m = c.move_slots.ensures in
    let p = c.requires in
    let f = here p.0 (when_moved m) (cut-within p.0 p.1.cuts) c.keep_front.ensures.0 in
    forked_before c.args.fork.now.number.0 p.0 p.1 p.2 p.3 c.start_at.ensures.0 m (f, c.keep_front.ensures.1) c.chain.ensures c.keep_back.ensures
