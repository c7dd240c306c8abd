-- `walk::lay` meets its contract: the part of the path behind the bytes above the slot is filled with its label. Assumes nothing.
use native.Mathlib.Omega.{arith}
use mathlib.Core.Path.{◌∙◌, ap}
use lib.ListN.{length}
use Rattle.slots.proofs.Cuts.{label-length}
use Rattle.walk.proofs.Path.{lay_done}
use Prim.Native.Nat.{ℕ, ◌+◌}
use Rattle.walk.proofs.lay.Goals as goal

pub copy-requires : goal.copy-requires
copy-requires c =
    omega (arith, ap length c.label_at.ensures, label-length c.args.words.now c.args.labels.now c.args.at.0 c.requires.short c.requires.labels)

pub returns : goal.returns
returns c =
    lay_done c.requires c.start_at-from.ensures.0 (ap (λ (n : ℕ). c.start_at-from.result + n) c.len_at.ensures.0) (c.copy.ensures ∙ c.label_at.ensures)
