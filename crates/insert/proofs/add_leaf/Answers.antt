-- `insert::add_leaf` meets its contract. Assumes nothing.
use mathlib.Core.Path.{◌∙◌}
use Rattle.insert.proofs.Asks.{settles}
use Rattle.insert.proofs.Places.{leaf_opened}
use Rattle.insert.proofs.Room.{leaf_placed}
use Rattle.insert.proofs.add_leaf.Goals as goal

pub settle_at-requires : goal.settle_at-requires
settle_at-requires c =
    let b = c.chain.ensures in
    let m = c.move_slots.ensures in
    let p = c.requires in
    settles p.0 (leaf_opened c.args.leaf.now.number.0 p.0 p.1 p.2 m b).1 (b.len_w ∙ m.len_w)

pub returns : goal.returns
returns c =
    let p = c.requires in
    let v = c.args.leaf.now.number.0 in
    leaf_placed v p.0 p.1 p.2 (leaf_opened v p.0 p.1 p.2 c.move_slots.ensures c.chain.ensures).0 c.settle_at.ensures
