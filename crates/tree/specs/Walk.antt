-- The walk under a prefix.
use Rattle.std.proofs.Math.Option.{Option}
use Rattle.tree.specs.Key.{Key}
use Rattle.tree.specs.Map.{Pair, next}
use Rattle.tree.specs.Tree.{Tree, pairs_t}

-- A step gives the smallest stored key that starts with the prefix and is greater than the last one given, with its
-- number, in the tree as it stands. A new walk has given none.
unfoldable pub step_t : Tree → (prefix : Key) (last : Option Key) → Option Pair
step_t t prefix last = next (pairs_t t) prefix last
