-- `reader::fill::fill_records` meets its contract: the records that are left are due, each with its path in the table. Assumes nothing.
use mathlib.Core.Path.{◌≡◌}
use Prim.Native.Nat.{◌-◌}
use lib.ListN.{length}
use Rattle.tree.specs.Tree.{Tree}
use Rattle.reader.specs.Fill.{ImageOf}
use Rattle.reader.proofs.Fills.{Left}
use Rattle.reader.proofs.fill.fill_records.Given as goal

abbrev pub invariant-loop-c : goal.invariant-loop-c
invariant-loop-c l =
    (length l.starts ≡ 4098)
    × (length l.words ≡ length l.initial.words)
    × (length l.labels ≡ length l.initial.labels)
    × ((t : Tree) → ImageOf l.tree l.numbers t → Left l.tree l.numbers l.starts l.words l.labels l.c t)

abbrev pub decreases-loop-c : goal.decreases-loop-c
decreases-loop-c l = length l.tree - l.c.at
