-- Where the search for a prefix has ended, and what is left when the node there is cut off.
use Rattle.std.specs.Prelude.{◌≡◌, List, ℕ, ◌+◌, ◌-◌, ◌≤◌, length}
use Rattle.std.proofs.Math.Option.{some}
use Rattle.tree.specs.Key.{Key, Bytes, key_max}
use Rattle.tree.specs.Map.{Num}
use Rattle.tree.specs.Tree.{Forest, node, Tree, WellFormed}
use Rattle.tree.specs.Context.{Context, plug, before, parent, settled}
use Rattle.slots.specs.Layout.{start_of, len_of, has_of, span_of}
use Rattle.pool.specs.Pool.{pool_tree}
use Rattle.search.specs.declared.Stop.{Stop}
use Rattle.search.specs.Landing.{PlaceOf}
use Rattle.split.specs.Lift.{Liftable}

-- The search for a prefix has ended at slot `at`, below slot `over`.
pub record Landed (ws bs : List ℕ) (stop : Stop) (at over : ℕ) : Type 0 where
  pub tree : Tree
  pub is : pool_tree ws bs ≡ some tree
  pub bytes : Bytes bs
  pub prefix : Key
  pub short : length prefix ≤ key_max
  pub above : ℕ
  pub place : PlaceOf tree prefix stop at over above

-- A slot that can be carried over with all that is below it
pub record Detachable (ws bs : List ℕ) (at : ℕ) : Type 0 where
  pub span : 1 ≤ span_of ws at
  pub small : span_of ws at ≤ 16384
  pub has : has_of ws at ≤ 1
  pub short : len_of ws at ≤ 255
  pub deep : start_of ws at + len_of ws at ≤ 4096
  pub kids : Liftable ws bs (at + 1) (span_of ws at - 1) (start_of ws at + len_of ws at)

-- The node at slot `at` is to be cut off; its younger siblings take its place, and the way up is settled.
pub record Leaving (ws bs : List ℕ) (at over : ℕ) : Type 0 where
  pub tree : Tree
  pub is : pool_tree ws bs ≡ some tree
  pub bytes : Bytes bs
  pub context : Context
  pub b : ℕ
  pub l : Key
  pub w : Num
  pub kids : Forest
  pub rest : Forest
  pub place : tree.kids ≡ plug context (node b l w kids rest)
  pub at-is : at ≡ before context
  pub over-is : over ≡ parent context
  pub left : Tree
  pub num : left.num ≡ tree.num
  pub result : settled context rest ≡ left.kids
  pub wf : WellFormed left
