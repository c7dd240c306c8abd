-- The way up, a turn at a time, and the pool that is left at its end. Assumes nothing.
use mathlib.Core.Path.{◌≡◌, refl, sym, ap, ◌∙◌, subst}
use mathlib.Core.List.{List}
use mathlib.Core.Option.{some}
use Prim.Native.Nat.{ℕ, suc, ◌+◌, ◌-◌, ◌≤◌, ◌<◌}
use native.Mathlib.Omega.{arith}
use lib.ListN.{length}
use Rattle.tree.specs.Key.{Key}
use Rattle.tree.specs.Map.{Num}
use Rattle.tree.specs.Tree.{Forest, node, Tree, nodes_f, nodes_t, WellFormed}
use Rattle.tree.specs.Remove.{settle}
use Rattle.tree.specs.Context.{plug, depth, before, parent}
use Rattle.label.proofs.Moves.{by_eq}
use Rattle.slots.specs.Layout.{words_for, bytes_for, nodes_of, start_of, span_of}
use Rattle.slots.specs.Records.{node_rec}
use Rattle.pool.specs.Pool.{pool_tree}
use Rattle.slots.specs.Bare.{Bare, bare_at, bares_from, bares_f, bares_t}
use Rattle.splice.specs.Splice.{solid, Linked, Settled, Closed}
use Rattle.splice.specs.Altered.{Altered}
use Rattle.pool.proofs.Decode.{lengths_stay}
use Rattle.slots.proofs.Runs.{run_cons, run_length, run_ext}
use Rattle.pool.proofs.Stands.{Stands, Holds, nodes_are}
use Rattle.pool.proofs.Held.{slot-is_rec, tree-holds}
use Rattle.splice.proofs.Bares.{start_is, bares_f-length, whole-tree}
use Rattle.search.proofs.Places.{plug_stands, plug-nodes, nodes-node}
use Rattle.tidy.specs.Sparse.{Sparse, Ripe, Ready, Inside, NodeSettled, Parent}
use Rattle.tidy.specs.Climb.{Kept, Site, Way, reached, rising, Stage, Climbing, Tidied}
use Rattle.tidy.proofs.Sparse.{sparse_solid, stands_sparse}
use Rattle.tidy.proofs.Rise.{parent-below, parent_is, Changed, rise}

-- What a node on the way settled
abbrev pub Settles : (vs cs us ds : List ℕ) (c : ℕ) → Type 0
Settles vs cs us ds c = (s b : ℕ) (l : Key) (w : Num) (kids : Forest) → Ripe vs cs c s b l w kids → NodeSettled vs cs us ds c s b l w kids

-- One slot altered keeps them, if it keeps its start.
pub kept_one : {ws bs vs cs : List ℕ} {at : ℕ} {x : Bare} → x.start ≡ start_of ws at → Altered ws bs vs cs at x → Kept ws bs vs cs
kept_one {ws} {bs} {vs} {cs} {at} {x} s a =
    let f = a.filled in
    record {
      len_w = f.len_w;
      len_b = f.len_b;
      nodes = f.head 0 (omega arith);
      starts = λ i r.
          by_eq i at (λ e. rw e (start_is vs cs at x f.slot ∙ s)) (λ ne. start_is vs cs i (bare_at ws bs i) (f.others i ne r) ∙ sym (start_is ws bs i (bare_at ws bs i) refl));
      spans = a.spans;
    }

kept_then : {ws bs vs cs us ds : List ℕ} {c : ℕ} → Kept ws bs vs cs → Inside vs cs us ds c → Kept ws bs us ds
kept_then k i =
    let lb = k.len_b in
    record {
      len_w = i.len_w ∙ k.len_w;
      len_b = i.len_b ∙ k.len_b;
      nodes = i.head 0 (omega arith) ∙ k.nodes;
      starts = λ x r. i.starts x (omega arith) ∙ k.starts x r;
      spans = λ x. i.spans x ∙ k.spans x;
    }

module _ {ws bs : List ℕ} {t : Tree} (h : Holds ws bs t) where
  room : bytes_for (nodes_of ws) ≤ length bs
  room = omega (arith, h.nodes, h.room, h.lengths.labels)

  count : nodes_of ws ≡ suc (nodes_f t.kids)
  count = h.nodes ∙ nodes_are t

  module _ {vs cs : List ℕ} {final : Forest} {c : ℕ} (k : Kept ws bs vs cs) (s : Site ws bs vs cs t.kids final c) where
    abbrev here : Forest
    here = node s.b s.l s.was-num s.was s.rest

    site_stands : Stands ws bs (depth s.context) here (before s.context)
    site_stands =
        let st : Stands ws bs 0 (plug s.context here) 1 = rw s.tree at h.kids in
        plug_stands ws bs s.context here st

    site_span : span_of ws (before s.context) ≡ suc (nodes_f s.was)
    site_span = (slot-is_rec ws bs (before s.context) (node_rec (depth s.context) s.b s.l s.was-num (nodes_f s.was)) site_stands.0).span

    site_nodes : nodes_f here ≡ suc (nodes_f s.was + nodes_f s.rest)
    site_nodes = nodes-node s.b s.l s.was-num s.was s.rest

    site_within : before s.context + nodes_f here ≤ nodes_of ws
    site_within = omega (arith, plug-nodes s.context here, ap nodes_f s.tree, count)

    -- the span at slot c by now
    site_now : span_of vs c ≡ suc (nodes_f s.was)
    site_now = k.spans c ∙ ap (span_of ws) s.at-is ∙ site_span

    pub site_ready : Ready vs cs c
    site_ready =
        let p = s.at-is in
        let w = site_within in
        let n = site_nodes in
        let q = site_now in
        let r = room in
        record {
          words = omega (arith, k.len_w, h.nodes, h.room, h.lengths.words);
          labels = omega (arith, k.len_b);
          s = depth s.context;
          b = s.b;
          l = s.l;
          w = s.w;
          kids = s.now;
          ripe = s.ripe;
        }

    module _ {us ds : List ℕ} {r : ℕ} (f : Settles vs cs us ds c) (p : Parent us c r) where
      done : NodeSettled vs cs us ds c (depth s.context) s.b s.l s.w s.now
      done = f (depth s.context) s.b s.l s.w s.now s.ripe

      lower : Kept ws bs us ds
      lower = kept_then k done.inside

      -- the younger siblings stand as they stood
      siblings : Sparse us ds (depth s.context) (before s.context + nodes_f here) s.rest (c + span_of vs c)
      siblings =
          let C = s.context in
          let w = site_within in
          let n = site_nodes in
          let q = site_now in
          let a = s.at-is in
          let lb = k.len_b in
          let m = room in
          let from : c + span_of vs c ≡ before C + suc (nodes_f s.was) = omega arith in
          let to : before C + nodes_f here ≡ before C + suc (nodes_f s.was) + nodes_f s.rest = omega arith in
          rw (from, to)
          (stands_sparse ws bs us ds (depth C) s.rest (before C + suc (nodes_f s.was)) site_stands.2
          (record {
            bares = λ i x y. done.inside.behind i (omega arith) (omega arith) ∙ s.behind i (omega (arith, site_span, ap (span_of ws) a)) (omega arith);
            spans = lower.spans;
          }))

      changed : Changed ws bs us ds s.context here (settle s.b s.l s.w s.now s.rest)
      changed =
          let a = s.at-is in
          let n = site_nodes in
          let q = site_now in
          let lb = k.len_b in
          record {
            now = rw a at (done.siblings (before s.context + nodes_f here) s.rest siblings);
            ahead = λ i x y. done.inside.before i (omega arith) (omega arith) ∙ s.ahead i (omega arith) y;
            behind = λ i x y. done.inside.behind i (omega arith) (omega arith) ∙ s.behind i (omega (arith, site_span, ap (span_of ws) a)) y;
          }

      -- the parent by the starts of before
      parent_then : Parent ws (before s.context) r
      parent_then =
          let a = s.at-is in
          let w = site_within in
          let n = site_nodes in
          let m = room in
          let st : start_of us c ≡ start_of ws (before s.context) = lower.starts c (omega arith) ∙ ap (start_of ws) a in
          record {
            below = omega (arith, p.below);
            near = λ i x y. omega (arith, st, lower.starts i (omega arith), p.near i x (omega arith));
            lower = λ ne. omega (arith, st, lower.starts r (omega (arith, p.below)), p.lower ne);
          }

      next-is : r ≡ parent s.context
      next-is =
          let st : Stands ws bs 0 (plug s.context here) 1 = rw s.tree at h.kids in
          parent_is ws bs s.context here st r
          (slot-is_rec ws bs (before s.context) (node_rec (depth s.context) s.b s.l s.was-num (nodes_f s.was)) site_stands.0).start
          parent_then

      pub site_on : Way ws bs us ds t.kids final r
      site_on =
          rw next-is
          (rise ws bs us ds lower.spans t.kids final count room h.kids s.context here (settle s.b s.l s.w s.now s.rest) s.tree s.result changed)

  -- A turn of the loop
  module _ {final : Tree} {vs cs : List ℕ} {c : ℕ} (g : Stage ws bs t final vs cs c) (pos : 0 < c) where
    site : Site ws bs vs cs t.kids final.kids c
    site = of g.way
      where
        of : Way ws bs vs cs t.kids final.kids c → Site ws bs vs cs t.kids final.kids c
        of (reached z k) = absurd (omega arith)
        of (rising s) = s

    pub stage_ready : Ready vs cs c
    stage_ready = site_ready g.kept site

    pub stage-on : {us ds : List ℕ} {r : ℕ} → Settles vs cs us ds c → Parent us c r → Stage ws bs t final us ds r
    stage-on f p =
        let s = site in
        let i = (f (depth s.context) s.b s.l s.w s.now s.ripe).inside in
        record {
          kept = kept_then g.kept i;
          root = i.before 0 pos (omega (arith, g.kept.len_b, h.lengths.labels, h.lengths.least)) ∙ g.root;
          way = site_on g.kept s f p;
        }

pub stage-end : {ws bs : List ℕ} {t final : Tree} {vs cs : List ℕ} {c : ℕ} → c ≡ 0 → Stage ws bs t final vs cs c → Stage ws bs t final vs cs 0
stage-end e g = rw e at g

-- The tree that was there, as it stood
pub origin : {vs cs : List ℕ} {c : ℕ} (x : Climbing vs cs c) → Holds x.words x.labels x.whole
origin x = tree-holds x.words x.labels x.bytes x.whole x.is

-- At the root the slots behind it hold the tree that is left, with gaps.
stage_sparse : {ws bs : List ℕ} {t final : Tree} {vs cs : List ℕ} → Stage ws bs t final vs cs 0 → Sparse vs cs 0 (nodes_of ws) final.kids 1
stage_sparse {ws} {bs} {t} {final} {vs} {cs} g = of g.way
  where
    of : Way ws bs vs cs t.kids final.kids 0 → Sparse vs cs 0 (nodes_of ws) final.kids 1
    of (reached z k) = k
    of (rising s) = absurd (omega (arith, s.at-is, parent-below s.context))

-- With the gaps closed and the spans put right, the pool holds it.
module _ {ws bs : List ℕ} {t final : Tree} {vs cs us ds es : List ℕ} {n r : ℕ} (h : Holds ws bs t) (wf : WellFormed final) (g : Stage ws bs t final vs cs 0)
    (n_is : n ≡ nodes_of vs) (c : Closed vs cs us ds n r) (s : Settled us es r) where
  left : bares_from us ds 1 (r - 1) ≡ bares_f 0 final.kids
  left =
      let m : n - 1 ≡ nodes_of ws - 1 = omega (arith, g.kept.nodes) in
      c.slots ∙ ap (λ (x : ℕ). solid (bares_from vs cs 1 x)) m ∙ sparse_solid (stage_sparse g)

  r-is : r ≡ nodes_t final
  r-is = omega (arith, c.least, nodes_are final, run_length (bare_at us ds) 1 (r - 1), ap length left, bares_f-length 0 final.kids)

  all : bares_from es ds 0 (nodes_t final) ≡ bares_t final
  unfolding bares_t nodes_t
  all =
      let m : r - 1 ≡ nodes_f final.kids = omega (arith, r-is, nodes_are final) in
      run_cons (bare_at es ds) 0 (nodes_f final.kids)
      ∙ cc (
        s.bares ds 0,
        c.root,
        g.root,
        run_ext (bare_at es ds) (bare_at us ds) 1 1 (nodes_f final.kids) (λ i l. s.bares ds (1 + i)),
        ap (λ (x : ℕ). bares_from us ds 1 x) (sym m),
        left,
      )

  pub stage_tidied : pool_tree es ds ≡ some final
  stage_tidied =
      let e = r-is in
      let hi = c.most in
      let k = g.kept in
      whole-tree es ds final h.slots
      (record {
        lengths = lengths_stay ws bs es ds h.slots (s.len ∙ c.len_w ∙ k.len_w) (c.len_b ∙ k.len_b) h.lengths;
        nodes = s.nodes ∙ e;
        room = omega (arith, h.nodes, h.room, k.nodes);
        bares = all;
        links = subst (λ (x : ℕ). Linked es 0 x) e s.spans;
        wf = wf;
      })

-- what the code asks of the buffers then
pub record Bounds (vs cs : List ℕ) : Type 0 where
  pub least : 1 ≤ nodes_of vs
  pub most : nodes_of vs ≤ 16384
  pub words : words_for (nodes_of vs) ≤ length vs
  pub labels : bytes_for (nodes_of vs) ≤ length cs

pub climbed_bounds : {ws bs : List ℕ} {t final : Tree} {vs cs : List ℕ} → Holds ws bs t → Stage ws bs t final vs cs 0 → Bounds vs cs
climbed_bounds {ws} {bs} {t} h g =
    let k = g.kept in
    let l = h.lengths in
    omega (arith, k.len_w, k.len_b, k.nodes, h.nodes, h.room, l.words, l.labels, l.most, nodes_are t)

-- The whole of `tidy`
pub tidied : {v₀ c₀ vs cs us ds es : List ℕ} {at n r : ℕ} (x : Climbing v₀ c₀ at) → Stage x.words x.labels x.whole x.final vs cs 0 → n ≡ nodes_of vs
    → Closed vs cs us ds n r → Settled us es r → Tidied v₀ c₀ es ds x.final
tidied x g e c s =
    let k = g.kept in
    let k₀ = x.stage.kept in
    record {
      len_w = s.len ∙ c.len_w ∙ k.len_w ∙ sym k₀.len_w;
      len_b = c.len_b ∙ k.len_b ∙ sym k₀.len_b;
      tree = stage_tidied (origin x) x.wf g e c s;
    }
