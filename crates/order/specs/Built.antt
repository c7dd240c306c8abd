-- The trees that the calls make out of keys of at most 255 bytes.
use Rattle.std.specs.Prelude.{◌≡◌, ℕ, ◌≤◌, length}
use Rattle.std.proofs.Math.Option.{some}
use Rattle.tree.specs.Key.{Key, Bytes}
use Rattle.tree.specs.Tree.{Tree, empty}
use Rattle.tree.specs.Insert.{insert_t}
use Rattle.tree.specs.Remove.{remove_t, clear_t}
use Rattle.tree.specs.Split.{halves, split_t}

-- A key of at most 255 bytes
pub record Short (k : Key) : Type 0 where
  pub bytes : Bytes k
  pub few : length k ≤ 255

pub data Built : Tree → Type 0 where
  -- Make gives the root alone, without a number.
  fresh : Built empty
  -- Any key of at most 255 bytes may be put in, with any number, whether or not it is stored already.
  inserted : {t : Tree} (k : Key) (v : ℕ) → Short k → Built t → Built (insert_t t k v)
  -- A key that is stored may be taken out; any other is refused, and nothing has changed.
  erased : {t u : Tree} (k : Key) → remove_t t k ≡ some u → Built t → Built u
  -- Clear leaves what make gives.
  cleared : {t : Tree} → Built t → Built (clear_t t)
  -- A split that finds its prefix makes two trees of one: the tree that is moved out, prefix taken off,
  detached : {t d u : Tree} (p : Key) → split_t t p ≡ halves d u → Built t → Built d
  -- and the tree that is left.
  remaining : {t d u : Tree} (p : Key) → split_t t p ≡ halves d u → Built t → Built u
