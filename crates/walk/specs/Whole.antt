-- What repeated steps give, over the map alone: each step goes on from the key that the one before gave, until none is left.
use Rattle.std.specs.Prelude.{◌≡◌, [], ◌∷◌}
use Rattle.std.proofs.Math.Option.{Option, none, some}
use Rattle.tree.specs.Key.{Key}
use Rattle.tree.specs.Map.{Pair, Pairs, starting_with, next}
use Rattle.tree.specs.Tree.{labelled}

pub data Yields (m : Pairs) (p : Key) : (last : Option Key) → Pairs → Type 0 where
  ends : {l : Option Key} → next m p l ≡ none → Yields m p l []
  gives : {l : Option Key} {x : Pair} {ys : Pairs} → next m p l ≡ some x → Yields m p (some x.0) ys → Yields m p l (x ∷ ys)

-- The pairs whose keys start with the prefix: the prefix taken off, and put back
unfoldable pub under : Key → Pairs → Pairs
under p m = labelled p (starting_with p m)
