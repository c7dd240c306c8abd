-- What the parts of insert leave in a pool, record by record: ws and bs before, vs and cs after.
use Rattle.std.specs.Prelude.{◌≡◌, List, [], ◌∷◌, ◌++◌, Bool, true, false, ℕ, ◌+◌, ◌-◌, ◌/◌, ◌≤◌, ◌<◌, ltb, length, get_or}
use Rattle.std.proofs.Math.Option.{none, some}
use Rattle.tree.specs.Key.{Key}
use Rattle.tree.specs.Tree.{nil}
use Rattle.tree.specs.Insert.{leaf}
use Rattle.search.specs.declared.Stop.{Stop}
use Rattle.slots.specs.Layout.{SameHead, slots_in, RoomIn, nodes_of, start_of, len_of, span_of, label_of}
use Rattle.pool.specs.Rule.{Within, PoolRule}
use Rattle.slots.specs.Bare.{Bare, bare_at, bares_from, bares_f, front_of, back_of}
use Rattle.splice.specs.Splice.{Settled}

-- The nodes of a new label of so many bytes: 255 are one node, 256 are two.
abbrev pub leaf_nodes : (len : ℕ) → ℕ
leaf_nodes len = (len - 1) / 255 + 1

-- What is left of a key of `len` bytes, of which `above` are above the place where its search has ended
abbrev pub KeyLeft : Stop → (above len : ℕ) → Type 0
KeyLeft Stop.Root above len = Unit {0}
KeyLeft Stop.Gap above len = above < len
KeyLeft Stop.Same above len = Unit {0}
KeyLeft (Stop.Inside m) above len = Unit {0}
KeyLeft (Stop.Fork m) above len = above + m < len

-- How many nodes the key adds there: none where it is stored, or its node is there
abbrev pub new_nodes : Stop → (above len : ℕ) → ℕ
new_nodes Stop.Root above len = 0
new_nodes Stop.Gap above len = leaf_nodes (len - above)
new_nodes Stop.Same above len = 0
new_nodes (Stop.Inside m) above len = 1
new_nodes (Stop.Fork m) above len = 1 + leaf_nodes (len - (above + m))

-- The records of a new leaf for the bytes q, under a path of s bytes
abbrev pub leaf_bares : (s : ℕ) (q : Key) (v : ℕ) → List Bare
leaf_bares s [] v = []
leaf_bares s (a ∷ k) v = bares_f s (leaf a k v nil)

-- The slots from `at` on say xs, each over those behind it, and every other slot says what it said, with its span.
pub record Built (ws bs vs cs : List ℕ) (at : ℕ) (xs : List Bare) : Type 0 where
  pub len_w : length vs ≡ length ws
  pub len_b : length cs ≡ length bs
  pub head : SameHead ws vs
  pub slots : bares_from vs cs at (length xs) ≡ xs
  pub low : (i : ℕ) → i < at → RoomIn bs i → bare_at vs cs i ≡ bare_at ws bs i
  pub high : (i : ℕ) → at + length xs ≤ i → RoomIn bs i → bare_at vs cs i ≡ bare_at ws bs i
  pub low-span : (i : ℕ) → i < at → span_of vs i ≡ span_of ws i
  pub new_span : (i : ℕ) → at ≤ i → i < at + length xs → i + span_of vs i ≡ at + length xs
  pub high-span : (i : ℕ) → at + length xs ≤ i → span_of vs i ≡ span_of ws i

-- Of a pool n slots are in use, and there is room for k more.
pub record Grows (ws bs : List ℕ) (n k : ℕ) : Type 0 where
  pub nodes : n ≡ nodes_of ws
  pub within : Within ws bs (n + k)
  pub most : n + k ≤ 16384
  pub room : n + k ≤ slots_in bs

-- A leaf for the bytes q can stand at slot `at`, under a path of `start` bytes: what stood there starts no deeper.
pub record Opens (ws bs : List ℕ) (at start : ℕ) (q : Key) : Type 0 where
  pub rule : PoolRule ws bs
  pub inside : at ≤ nodes_of ws
  pub beside : at < nodes_of ws → start_of ws at ≤ start
  pub left : 1 ≤ length q
  pub deep : start + length q ≤ 4096

-- Slot `at` is in use, and its label can be cut behind m bytes, of which there are some.
pub record Cuts (ws : List ℕ) (at m : ℕ) : Type 0 where
  pub used : at < nodes_of ws
  pub some : 1 ≤ m
  pub cut : m ≤ len_of ws at
  pub short : len_of ws at ≤ 255
  pub start : start_of ws at ≤ 4096

-- From slot `at` on the records xs stand where `was` slots stood; what is before them stays, and so does what is behind.
pub record Replaced (ws bs vs cs : List ℕ) (at was : ℕ) (xs : List Bare) : Type 0 where
  pub len_w : length vs ≡ length ws
  pub len_b : length cs ≡ length bs
  pub front : (i : ℕ) → i < at → bare_at vs cs i ≡ bare_at ws bs i
  pub slots : bares_from vs cs at (length xs) ≡ xs
  pub back : (i : ℕ) → i < nodes_of ws - (at + was) → bare_at vs cs (at + length xs + i) ≡ bare_at ws bs (at + was + i)

-- Slot `at` with another number
abbrev pub set_bares : (ws bs : List ℕ) (at v : ℕ) → List Bare
set_bares ws bs at v = front_of (len_of ws at) (some v) (bare_at ws bs at) ∷ []

-- Slot `at` cut behind m bytes where a key forks off, with the leaf of what is left of the key: before the lower part, or
-- behind its subtree
abbrev pub fork_bares : (ws bs : List ℕ) (at m : ℕ) (q : Key) (v : ℕ) (below : Bool) → List Bare
fork_bares ws bs at m q v true = front_of m none (bare_at ws bs at) ∷ leaf_bares (start_of ws at + m) q v ++ (back_of m (bare_at ws bs at) ∷ [])
fork_bares ws bs at m q v false =
    front_of m none (bare_at ws bs at) ∷ (back_of m (bare_at ws bs at) ∷ bares_from ws bs (at + 1) (span_of ws at - 1)) ++ leaf_bares (start_of ws at + m) q v

-- On which side: whether the key's next byte is below the label's
abbrev pub fork_side : (ws bs : List ℕ) (at m : ℕ) (q : Key) → Bool
fork_side ws bs at m q = ltb (get_or q 0 0) (get_or (label_of ws bs at) m 0)

-- What is asked of slot `at` where q, behind m bytes of its label, forks off
pub record Forks (ws : List ℕ) (at m : ℕ) (q : Key) : Type 0 where
  pub cuts : Cuts ws at m
  pub less : m < len_of ws at
  pub left : 1 ≤ length q
  pub deep : start_of ws at + m + length q ≤ 4096
  pub span : 1 ≤ span_of ws at
  pub inside : at + span_of ws at ≤ nodes_of ws

-- The slots that it stands for
abbrev pub fork_was : (ws : List ℕ) (at : ℕ) (below : Bool) → ℕ
fork_was ws at true = 1
fork_was ws at false = span_of ws at

-- How many nodes there are then
abbrev pub total : (ws : List ℕ) (was : ℕ) (xs : List Bare) → ℕ
total ws was xs = nodes_of ws + length xs - was

-- There is room for xs: they stand in their place, and the pool is settled. The words between are `spliced`.
pub record Placed (ws bs vs cs : List ℕ) (at was : ℕ) (xs : List Bare) : Type 0 where
  pub spliced : List ℕ
  pub fits : total ws was xs ≤ slots_in bs
  pub replaced : Replaced ws bs spliced cs at was xs
  pub settled : Settled spliced vs (total ws was xs)
