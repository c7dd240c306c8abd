-- `insert::add_fork` meets its contract. Assumes nothing.
use Rattle.insert.proofs.Room.{fork_placed}
use Rattle.insert.proofs.add_fork.Goals as goal

pub returns : goal.returns
returns c =
    let p = c.requires in
    fork_placed c.args.fork.now.number.0 p.0 p.1 p.2 c.fork_label.ensures.0 c.settle_at.ensures
