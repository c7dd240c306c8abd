-- `insert::byte_below` meets its contract. Assumes nothing.
use mathlib.Core.Path.{ap}
use native.Mathlib.Omega.{arith}
use lib.ListN.{length}
use Rattle.slots.proofs.Cuts.{label-length}
use Rattle.insert.proofs.byte_below.Goals as goal

pub bounds-label-m : goal.bounds-label-m
bounds-label-m c =
    omega (arith, ap length c.label_at-label.ensures, label-length c.args.words.now c.args.labels.now c.args.at.0 (omega arith) (omega arith))
