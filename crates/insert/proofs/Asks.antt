-- What the calls of a splice ask, from the room that there is and what stands in the slots. Assumes nothing.
use mathlib.Core.Path.{◌≡◌, refl, ap, ◌∙◌}
use mathlib.Core.List.{List}
use Prim.Native.Nat.{ℕ, ◌+◌, ◌≤◌, ◌<◌}
use native.Mathlib.Omega.{arith}
use mir.Syntax.{w64}
use mir.Val.{Fits}
use lib.ListN.{length}
use Rattle.tree.specs.Key.{Key, key_max}
use Rattle.slots.specs.Layout.{words_for, WordsIn, RoomIn, nodes_of, start_of, len_of, span_of}
use Rattle.pool.specs.Rule.{Within, PoolRule}
use Rattle.slots.specs.Bare.{Bare, bare_at, Filled}
use Rattle.splice.specs.Splice.{Room, Moved}
use Rattle.splice.specs.Spans.{Loose}
use Rattle.insert.specs.Splices.{leaf_nodes, Built, Grows, Opens, Cuts, Forks}

-- The buffers are as long as they were.
pub record Kept (ws bs us ds : List ℕ) : Type 0 where
  pub words : length us ≡ length ws
  pub labels : length ds ≡ length bs

pub unchanged : (ws bs : List ℕ) → Kept ws bs ws bs
unchanged ws bs = record { words = refl; labels = refl }

pub then : {ws bs us ds vs cs : List ℕ} → Kept us ds vs cs → Kept ws bs us ds → Kept ws bs vs cs
then a b = record { words = a.words ∙ b.words; labels = a.labels ∙ b.labels }

pub when_moved : {ws bs us ds : List ℕ} {from to by : ℕ} → Moved ws bs us ds from to by → Kept ws bs us ds
when_moved m = record { words = m.len_w; labels = m.len_b }

pub when_filled : {ws bs us ds : List ℕ} {i : ℕ} {x : Bare} → Filled ws bs us ds i x → Kept ws bs us ds
when_filled f = record { words = f.len_w; labels = f.len_b }

pub when_built : {ws bs us ds : List ℕ} {i : ℕ} {xs : List Bare} → Built ws bs us ds i xs → Kept ws bs us ds
when_built b = record { words = b.len_w; labels = b.len_b }

-- A pool has words, and the nodes of a tree with those of a key are a word of the machine.
pub pool-words : {ws bs : List ℕ} → PoolRule ws bs → 1 ≤ length ws
pool-words r = omega (arith, r.lengths.words)

pub count_fits : (n k bytes : ℕ) → n < 4294967296 → k ≤ bytes + 1 → bytes ≤ key_max → Fits w64 (n + k)
unfolding key_max
count_fits n k bytes h l s = omega arith

-- A number of slots is one too.
module _ {ws bs : List ℕ} {n k : ℕ} (g : Grows ws bs n k) where
  pub slot-fits : (i : ℕ) → i ≤ n + k → Fits w64 i
  slot-fits i h = omega (arith, g.most)

  pub counted : Fits w64 (n + k)
  counted = slot-fits (n + k) (omega arith)

  -- what is asked where only spans are left to grow
  pub settles : {us : List ℕ} {at : ℕ} → Loose us (n + k) at k 0 → length us ≡ length ws → (words_for (n + k) ≤ length us) × (n + k ≤ 16384) × Loose us (n + k) at k 0
  settles o e = (omega (arith, g.within.words), g.most, o)

-- In buffers of that length
module _ {ws bs us ds : List ℕ} {n k : ℕ} (g : Grows ws bs n k) (e : Kept ws bs us ds) where
  -- a slot has its words,
  pub has_words : (i : ℕ) → i < n + k → WordsIn us i
  has_words i h = omega (arith, g.within.words, e.words)

  -- slots move up,
  pub moves : {from to by : ℕ} → from ≤ to → to + by ≤ n + k → Room us ds from to by
  moves h l =
      let a = g.within.words in
      let b = g.within.labels in
      record { order = h; words = omega (arith, e.words); labels = omega (arith, e.labels) }

  -- a label that stays where it is has its room,
  pub here : {vs : List ℕ} {i : ℕ} {x : List ℕ → Bare} → i < n + k → ((ls : List ℕ) → RoomIn ls i → Filled us ls vs ls i (x ls)) → Filled us ds vs ds i (x ds)
  here h f = f ds (omega (arith, g.within.labels, e.labels))

  -- and a leaf is built.
  pub builds : (at start : ℕ) (q : Key) → at + leaf_nodes (length q) ≤ n + k → 1 ≤ length q → start + length q ≤ 4096
      → Within us ds (at + leaf_nodes (length q)) × (1 ≤ length q) × (start + length q ≤ 4096)
  builds at start q h l d = (record { words = omega (arith, g.within.words, e.words); labels = omega (arith, g.within.labels, e.labels) }, l, d)

-- A slot that says what slot `at` said can be cut like it.
module _ {ws bs us ds : List ℕ} {n k at m : ℕ} (g : Grows ws bs n k) (c : Cuts ws at m) (e : Kept ws bs us ds) {i : ℕ} (same : bare_at us ds i ≡ bare_at ws bs at) (h : i < n + k) where
  len-same : len_of us i ≡ len_of ws at
  unfolding bare_at
  len-same = ap (λ (x : Bare). x.len) same

  start-same : start_of us i ≡ start_of ws at
  unfolding bare_at
  start-same = ap (λ (x : Bare). x.start) same

  pub keeps_front : WordsIn us i × (m ≤ len_of us i) × (len_of us i ≤ 255)
  keeps_front = (has_words g e i h, omega (arith, len-same, c.cut), omega (arith, len-same, c.short))

  pub keeps_back : WordsIn us i × RoomIn ds i × (m ≤ len_of us i) × (len_of us i ≤ 255) × (start_of us i ≤ 4096)
  keeps_back = (keeps_front.0, omega (arith, g.within.labels, e.labels), keeps_front.1, keeps_front.2, omega (arith, start-same, c.start))

-- The slots from one in use on move up, as far as there is room.
module _ {ws bs : List ℕ} {n k : ℕ} (g : Grows ws bs n k) where
  pub moves_all : {at : ℕ} → at ≤ nodes_of ws → Room ws bs at n k
  moves_all h = moves g (unchanged ws bs) (omega (arith, g.nodes)) (omega arith)

-- A slot that can be cut is in use, and the path to the cut is a word of the machine.
module _ {ws bs : List ℕ} {n k at m : ℕ} (g : Grows ws bs n k) (c : Cuts ws at m) where
  pub cut_in : at < n
  cut_in = omega (arith, c.used, g.nodes)

  pub cut-within : at < n + k
  cut-within = omega (arith, cut_in)

  pub cut_below : at < at + 1
  cut_below = omega arith

  pub next_in : at + 1 ≤ n + k
  next_in = omega (arith, cut_in)

  pub cut_moves : Room ws bs at n k
  cut_moves = moves_all g (omega (arith, c.used))

  pub start_fits : (start : ℕ) → start < 4294967296 → Fits w64 (start + m)
  start_fits start h = omega (arith, c.cut, c.short)

-- Where a fork's slots stand: the leaf before the lower part, or behind its subtree, which ends at `end`
module _ {ws bs : List ℕ} {n k at m : ℕ} {q : Key} (g : Grows ws bs n k) (fork : Forks ws at m q) (kn : k ≡ 1 + leaf_nodes (length q)) where
  pub upper_below : at < at + k
  upper_below = omega (arith, kn)

  pub leaf-next : at + 1 + leaf_nodes (length q) ≤ n + k
  leaf-next = omega (arith, kn, cut_in g fork.cuts)

  pub next-within : at + 1 ≤ n + k
  next-within = omega (arith, leaf-next)

  pub lower-within : at + k < n + k
  lower-within = omega (arith, cut_in g fork.cuts)

  pub lower-most : at + k ≤ n + k
  lower-most = omega (arith, lower-within)

  pub next-below : at + 1 < n + k
  next-below = omega (arith, kn, cut_in g fork.cuts)

  pub reads_side : Within ws bs (at + 1) × (m < len_of ws at) × (len_of ws at ≤ 255) × (1 ≤ length q)
  reads_side = (
    record { words = omega (arith, g.within.words, next-within); labels = omega (arith, g.within.labels, next-within) },
    fork.less,
    fork.cuts.short,
    fork.left,
  )

  pub leaf-deep : (start : ℕ) → start ≡ start_of ws at → start + m + length q ≤ 4096
  leaf-deep start e = omega (arith, fork.deep)

  module _ (span : ℕ) (sp : span ≡ span_of ws at) where
    pub end_in : at + span ≤ nodes_of ws
    end_in = omega (arith, fork.inside)

    pub at_most : at ≤ at + span
    at_most = omega arith

    pub end-next : at + span + 1 ≤ n + k
    end-next = omega (arith, end_in, g.nodes, kn)

    pub end-within : at + span ≤ n + k
    end-within = omega (arith, end-next)

    pub leaf_last : at + span + 1 + leaf_nodes (length q) ≤ n + k
    leaf_last = omega (arith, end_in, g.nodes, kn)

-- The leaf in a gap
module _ {ws bs : List ℕ} {n k at start : ℕ} {q : Key} (g : Grows ws bs n k) (o : Opens ws bs at start q) (kn : k ≡ leaf_nodes (length q)) where
  pub gap-leaf : at + leaf_nodes (length q) ≤ n + k
  gap-leaf = omega (arith, o.inside, g.nodes)

-- The lower part of a cut alone
module _ {ws bs : List ℕ} {n at m : ℕ} (g : Grows ws bs n 1) (c : Cuts ws at m) where
  pub next_last : at + 1 < n + 1
  next_last = omega (arith, cut_in g c)
