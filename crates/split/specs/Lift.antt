-- Records carried over from one pool into another: ws and bs are the pool that they come from, vs and cs the one that they
-- go to before, us and ds after.
use Rattle.std.specs.Prelude.{◌≡◌, List, [], ℕ, ◌+◌, ◌-◌, ◌≤◌, ◌<◌, length, drop}
use Rattle.std.proofs.Math.Option.{none}
use Rattle.tree.specs.Map.{Num}
use Rattle.tree.specs.Tree.{keys_w}
use Rattle.slots.specs.Layout.{nodes_of, start_of, len_of, has_of, span_of, num_at}
use Rattle.slots.specs.Records.{Rec, rec_at, root_rec}
use Rattle.pool.specs.Rule.{Within}

-- A record with the number and the span of slot `from`, under a path of `start` bytes, with a label of its own
abbrev pub carried : (ws : List ℕ) (from start : ℕ) (l : List ℕ) → Rec
carried ws from start l = record { start = start; len = length l; has = has_of ws from; num = num_at ws from; span = span_of ws from; label = l }

-- A record under a path that is `base` bytes shorter
abbrev pub lowered : (base : ℕ) → Rec → Rec
lowered base x = record { start = x.start - base; len = x.len; has = x.has; num = x.num; span = x.span; label = x.label }

-- What is left of a record's label behind its first m bytes, at the top of a tree
abbrev pub topped : (m : ℕ) → Rec → Rec
topped m x = record { start = 0; len = x.len - m; has = x.has; num = x.num; span = x.span; label = drop m x.label }

-- The slots from .. from + count can be carried over: they lie within the buffers, and start at `base` or deeper.
pub record Liftable (ws bs : List ℕ) (from count base : ℕ) : Type 0 where
  pub within : Within ws bs (from + count)
  pub deep : (i : ℕ) → from ≤ i → i < from + count → base ≤ start_of ws i
  pub short : (i : ℕ) → from ≤ i → i < from + count → len_of ws i ≤ 255

-- They stand from slot `to` on, lowered.
pub record Lifted (ws bs vs cs us ds : List ℕ) (from to count base : ℕ) : Type 0 where
  pub len_w : length us ≡ length vs
  pub len_b : length ds ≡ length cs
  pub slots : (i : ℕ) → i < count → rec_at us ds (to + i) ≡ lowered base (rec_at ws bs (from + i))

-- The root is written, with `nodes` slots in use, and no other slot.
pub record Rooted (ws vs : List ℕ) (num : Num) (nodes : ℕ) : Type 0 where
  pub len : length vs ≡ length ws
  pub count : nodes_of vs ≡ nodes
  pub root : (bs : List ℕ) → rec_at vs bs 0 ≡ record { start = 0; len = 0; has = keys_w num; num = num; span = nodes; label = [] }
  pub others : (bs : List ℕ) (i : ℕ) → 1 ≤ i → rec_at vs bs i ≡ rec_at ws bs i

-- What becomes of the node at slot `at`, behind the first m bytes of its label: where nothing is left of the label, the root
pub record Detached (ws bs vs cs us ds : List ℕ) (at base : ℕ) : Type 0 where
  pub len_w : length us ≡ length vs
  pub len_b : length ds ≡ length cs
  pub nodes : nodes_of us ≡ span_of ws at
  pub root : rec_at us ds 0 ≡ root_rec (num_at ws at) (span_of ws at - 1)
  pub kids : (i : ℕ) → i < span_of ws at - 1 → rec_at us ds (1 + i) ≡ lowered base (rec_at ws bs (at + 1 + i))

-- else the root's only child
pub record DetachedBelow (ws bs vs cs us ds : List ℕ) (at m base : ℕ) : Type 0 where
  pub len_w : length us ≡ length vs
  pub len_b : length ds ≡ length cs
  pub nodes : nodes_of us ≡ span_of ws at + 1
  pub root : rec_at us ds 0 ≡ root_rec none (span_of ws at)
  pub top : rec_at us ds 1 ≡ topped m (rec_at ws bs at)
  pub kids : (i : ℕ) → i < span_of ws at - 1 → rec_at us ds (2 + i) ≡ lowered base (rec_at ws bs (at + 1 + i))
