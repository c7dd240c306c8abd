-- A slot at which the search for a key has ended, and how many nodes it looked at: the whole key has matched there.
use Rattle.std.specs.Prelude.{◌≡◌, List, ℕ, ◌≤◌, length}
use Rattle.std.proofs.Math.Option.{some}
use Rattle.tree.specs.Key.{Key, Bytes, key_max}
use Rattle.tree.specs.Tree.{Tree}
use Rattle.tree.specs.Search.{looked_t}
use Rattle.pool.specs.Pool.{pool_tree}
use Rattle.search.specs.declared.Stop.{Stop}
use Rattle.search.specs.Landing.{PlaceOf}

abbrev pub Exact : Stop → Type 0
Exact Stop.Root = Unit {0}
Exact Stop.Gap = ⊥
Exact Stop.Same = Unit {0}
Exact (Stop.Inside m) = ⊥
Exact (Stop.Fork m) = ⊥

pub record Found (ws bs : List ℕ) (at looked : ℕ) : Type 0 where
  pub tree : Tree
  pub is : pool_tree ws bs ≡ some tree
  pub bytes : Bytes bs
  pub key : Key
  pub short : length key ≤ key_max
  pub stop : Stop
  pub exact : Exact stop
  pub over : ℕ
  pub above : ℕ
  pub place : PlaceOf tree key stop at over above
  pub looked-is : looked ≡ looked_t tree key
