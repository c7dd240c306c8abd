-- The way up from a slot to the root: ws and bs are the pool before anything was taken out of it, vs and cs what it is now.
use Rattle.std.specs.Prelude.{◌≡◌, List, ℕ, ◌+◌, ◌≤◌, ◌<◌, length}
use Rattle.std.proofs.Math.Option.{some}
use Rattle.tree.specs.Key.{Key, Bytes}
use Rattle.tree.specs.Map.{Num}
use Rattle.tree.specs.Tree.{Forest, node, Tree, WellFormed}
use Rattle.tree.specs.Remove.{settle}
use Rattle.tree.specs.Context.{Context, plug, depth, before, settled}
use Rattle.slots.specs.Layout.{RoomIn, nodes_of, start_of, span_of}
use Rattle.pool.specs.Pool.{pool_tree}
use Rattle.slots.specs.Bare.{bare_at, root_bare}
use Rattle.tidy.specs.Sparse.{Sparse, Ripe}

-- No start and no span has been written, and the slots in use are counted as before.
pub record Kept (ws bs vs cs : List ℕ) : Type 0 where
  pub len_w : length vs ≡ length ws
  pub len_b : length cs ≡ length bs
  pub nodes : nodes_of vs ≡ nodes_of ws
  pub starts : (i : ℕ) → RoomIn bs i → start_of vs i ≡ start_of ws i
  pub spans : (i : ℕ) → span_of vs i ≡ span_of ws i

-- Slot c is to be settled next: the tree of the children `kids` has a node there, with the number w and the children `now`
-- by now. Outside its span nothing has changed. Settled all the way up, it is the tree of the children `final`.
pub record Site (ws bs vs cs : List ℕ) (kids final : Forest) (c : ℕ) : Type 0 where
  pub context : Context
  pub b : ℕ
  pub l : Key
  pub was-num : Num
  pub was : Forest
  pub rest : Forest
  pub tree : kids ≡ plug context (node b l was-num was rest)
  pub at-is : c ≡ before context
  pub w : Num
  pub now : Forest
  pub ripe : Ripe vs cs c (depth context) b l w now
  pub ahead : (i : ℕ) → i < c → RoomIn bs i → bare_at vs cs i ≡ bare_at ws bs i
  pub behind : (i : ℕ) → c + span_of ws c ≤ i → RoomIn bs i → bare_at vs cs i ≡ bare_at ws bs i
  pub result : settled context (settle b l w now rest) ≡ final

-- Either the root is reached, and the slots behind it hold the tree that is left, with gaps; or there is a slot to settle.
pub data Way (ws bs vs cs : List ℕ) (kids final : Forest) (c : ℕ) : Type 0 where
  reached : c ≡ 0 → Sparse vs cs 0 (nodes_of ws) final 1 → Way ws bs vs cs kids final c
  rising : Site ws bs vs cs kids final c → Way ws bs vs cs kids final c

pub record Stage (ws bs : List ℕ) (t final : Tree) (vs cs : List ℕ) (c : ℕ) : Type 0 where
  pub kept : Kept ws bs vs cs
  pub root : bare_at vs cs 0 ≡ root_bare final.num
  pub way : Way ws bs vs cs t.kids final.kids c

-- A pool from which something has been taken at slot c or below, so that the way up leads to the tree `final`
pub record Climbing (vs cs : List ℕ) (c : ℕ) : Type 0 where
  pub words : List ℕ
  pub labels : List ℕ
  pub whole : Tree
  pub is : pool_tree words labels ≡ some whole
  pub bytes : Bytes labels
  pub final : Tree
  pub wf : WellFormed final
  pub stage : Stage words labels whole final vs cs c

-- The pool then holds that tree, in the same buffers.
pub record Tidied (vs cs us ds : List ℕ) (final : Tree) : Type 0 where
  pub len_w : length us ≡ length vs
  pub len_b : length ds ≡ length cs
  pub tree : pool_tree us ds ≡ some final
