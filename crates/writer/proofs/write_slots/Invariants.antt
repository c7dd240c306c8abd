-- `writer::write_slots` meets its contract: the rows that are left are due, each with its level in the table. Assumes nothing.
use mathlib.Core.Path.{◌≡◌}
use lib.ListN.{length}
use Rattle.tree.specs.Tree.{Forest}
use Rattle.writer.specs.Runs.{Run}
use Rattle.writer.proofs.Rows.{Flat}
use Rattle.writer.proofs.write_slots.Given as goal

abbrev pub invariant-loop-i : goal.invariant-loop-i
invariant-loop-i l = (length l.levels ≡ 4097) × ((f : Forest) → Run l.words l.labels 1 l.n 1 f → Flat l.words l.labels l.levels l.i l.n l.initial.out l.at l.out l.place f)
