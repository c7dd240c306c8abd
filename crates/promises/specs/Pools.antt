-- The pools that the public calls make out of keys of at most 255 bytes. Each step is a result that the contract of a call
-- allows, with 0 told.
use Rattle.std.specs.Prelude.{⊤}
use Rattle.std.specs.Prelude.{◌≡◌, ℕ}
use Rattle.std.proofs.Math.Option.{Option, none, some}
use Rattle.tree.specs.Key.{Key}
use Rattle.tree.specs.Map.{Pairs}
use Rattle.tree.specs.Tree.{Tree, pairs_t}
use Rattle.tree.specs.Told.{Answer, Told, bare_told, inserted_told, got_told}
use Rattle.tree.specs.declared.Inserted.{Inserted}
use Rattle.tree.specs.declared.Got.{Got}
use Rattle.pool.specs.Lent.{Lent, tree_in}
use Rattle.pool.specs.Post.{MakeAllows, ClearAllows}
use Rattle.insert.specs.Post.{InsertAllows}
use Rattle.remove.specs.Post.{RemoveAllows}
use Rattle.split.specs.Post.{SplitAllows}
use Rattle.order.specs.Built.{Short}

-- 0 is told.
abbrev pub Accepted : Told → Type 0
Accepted told = told.number ≡ 0

pub data PoolBuilt : Lent → Type 0 where
  -- Any two slices of the right lengths are made a fresh pool.
  fresh : (was : Lent) {is : Lent} (r : Answer ⊤) → MakeAllows r was is → Accepted (bare_told r) → PoolBuilt is
  -- Any key of at most 255 bytes may be put in, with any number.
  inserted : {was is : Lent} (key : Key) (number : ℕ) (r : Answer Inserted) → Short key → InsertAllows key number r was is → Accepted (inserted_told r) → PoolBuilt was → PoolBuilt is
  -- A key may be taken out.
  removed : {was is : Lent} (key : Key) (r : Answer Got) → RemoveAllows key r was is → Accepted (got_told r) → PoolBuilt was → PoolBuilt is
  -- A pool may be cleared.
  cleared : {was is : Lent} (r : Answer ⊤) → ClearAllows r was is → Accepted (bare_told r) → PoolBuilt was → PoolBuilt is
  -- A split makes two pools of one: what is left,
  remaining : {was is : Lent} (was₂ is₂ : Lent) (prefix : Key) (r : Answer ⊤) → SplitAllows prefix r was was₂ is is₂ → Accepted (bare_told r) → PoolBuilt was → PoolBuilt is
  -- and what is detached, into any slices of the right lengths.
  detached : {was is₂ : Lent} (was₂ is : Lent) (prefix : Key) (r : Answer ⊤) → SplitAllows prefix r was was₂ is is₂ → Accepted (bare_told r) → PoolBuilt was → PoolBuilt is₂

-- The pairs that a pool holds, or none where it is no pool
unfoldable pub pairs_for : Option Tree → Option Pairs
pairs_for none = none
pairs_for (some t) = some (pairs_t t)

abbrev pub pairs_in : Lent → Option Pairs
pairs_in l = pairs_for (tree_in l)
