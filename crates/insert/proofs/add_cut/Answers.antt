-- `insert::add_cut` meets its contract. Assumes nothing.
use mathlib.Core.Path.{refl, ◌∙◌}
use Rattle.insert.proofs.Asks.{then, when_moved, when_filled, here, cut_below, cut-within, next_last, keeps_front, keeps_back, settles}
use Rattle.insert.proofs.Places.{cut-lower, cut_two}
use Rattle.insert.proofs.Room.{placed_grown}
use Rattle.insert.proofs.add_cut.Goals as goal

pub keep_front-requires : goal.keep_front-requires
keep_front-requires c =
    let m = c.move_slots.ensures in
    let p = c.requires in
    keeps_front p.0 p.1 (when_moved m) (m.low _ (cut_below p.0 p.1)) (cut-within p.0 p.1)

pub keep_back-requires : goal.keep_back-requires
keep_back-requires c =
    let m = c.move_slots.ensures in
    let p = c.requires in
    let f = here p.0 (when_moved m) (cut-within p.0 p.1) c.keep_front.ensures.0 in
    keeps_back p.0 p.1 (then (when_filled f) (when_moved m)) (cut-lower p.0 p.1 m f) (next_last p.0 p.1)

pub settle_at-requires : goal.settle_at-requires
settle_at-requires c =
    let b = c.keep_back.ensures in
    let m = c.move_slots.ensures in
    let p = c.requires in
    let f = here p.0 (when_moved m) (cut-within p.0 p.1) c.keep_front.ensures.0 in
    settles p.0 (cut_two p.0 p.1 p.2 m (f, c.keep_front.ensures.1) b).1 (b.0.len_w ∙ f.len_w ∙ m.len_w)

pub returns : goal.returns
returns c =
    let m = c.move_slots.ensures in
    let p = c.requires in
    let f = here p.0 (when_moved m) (cut-within p.0 p.1) c.keep_front.ensures.0 in
    let two = cut_two p.0 p.1 p.2 m (f, c.keep_front.ensures.1) c.keep_back.ensures in
    placed_grown p.0 refl two.0 c.settle_at.ensures
