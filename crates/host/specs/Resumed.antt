-- The walk that a lent state stands for.
use Rattle.std.specs.Prelude.{◌≡◌, true}
use Rattle.std.proofs.Math.Option.{Option}
use Rattle.tree.specs.Key.{Key}
use Rattle.tree.specs.Calls.{fits, last_fits}
use Rattle.walk.specs.declared.Walk.{Walk}
use Rattle.walk.specs.Walks.{prefix_of, last_of}

-- Keys that fit are the walk's; one that is too long is not kept, but the walk's own is too long as well.
pub record Resumes (p : Key) (l : Option Key) (w : Walk) : Type 0 where
  pub prefix : fits p ≡ true → prefix_of w ≡ p
  pub prefix_fits : fits (prefix_of w) ≡ fits p
  pub last : last_fits l ≡ true → last_of w ≡ l
  pub last_fits : last_fits (last_of w) ≡ last_fits l
