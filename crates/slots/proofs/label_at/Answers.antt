-- `slots::label_at` meets its contract. Assumes nothing.
use native.Mathlib.Omega.{arith}
use Rattle.slots.proofs.Cuts.{label-part}
use Rattle.slots.proofs.label_at.Goals as goal

pub returns : goal.returns
returns c = label-part c.args.words.now c.args.labels.now c.args.at.0 _ c.len_at.ensures.0 (omega arith)
