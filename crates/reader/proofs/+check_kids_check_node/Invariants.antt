-- The cycle `reader::check_node`, `reader::check_kids`. Measures: the bytes left, twice, and one more for `check_kids`, which
-- calls `check_node` at the same place.
use Prim.Native.Nat.{◌+◌, ◌*◌, ◌-◌}
use lib.ListN.{length}
use Rattle.reader.proofs.Walk.{Walk}
use Rattle.reader.proofs.+check_kids_check_node.Given as goal

abbrev pub decreases-check_kids : goal.decreases-check_kids
decreases-check_kids l = 2 * (length l.tree.now - l.from.at) + 1

abbrev pub decreases-check_node : goal.decreases-check_node
decreases-check_node l = 2 * (length l.tree.now - l.from.at)

abbrev pub invariant-check_kids-loop-next : goal.invariant-check_kids-loop-next
invariant-check_kids-loop-next l = Walk l.tree l.level.0 l.path l.initial.m l.least l.m

abbrev pub decreases-check_kids-loop-next : goal.decreases-check_kids-loop-next
decreases-check_kids-loop-next l = length l.tree - l.m.at
