-- `writer::image_length` meets its contract: the bytes counted are those of the slots passed. Assumes nothing.
use mathlib.Core.Path.{◌≡◌}
use Prim.Native.Nat.{◌≤◌, ◌*◌}
use Rattle.writer.specs.Parts.{record_sum}
use Rattle.writer.proofs.image_length.Given as goal

abbrev pub invariant-loop-i : goal.invariant-loop-i
invariant-loop-i l = (l.sum ≡ record_sum l.words l.i) × (l.sum ≤ 4294967300 * l.i)
