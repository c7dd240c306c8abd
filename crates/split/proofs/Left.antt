-- A subtree cut out: its slots are gaps, and the pool is to be tidied from its parent up. Assumes nothing.
use mathlib.Core.Path.{◌≡◌, refl, sym, ap, ◌∙◌}
use mathlib.Core.List.{List, []}
use Prim.Native.Nat.{ℕ, zero, suc, ◌+◌, ◌-◌, ◌≤◌, ◌<◌}
use native.Mathlib.Omega.{arith}
use lib.ListN.{length}
use Rattle.tree.specs.Tree.{Forest, node, nodes_f}
use Rattle.tree.specs.Context.{plug, depth, before}
use Rattle.label.proofs.Moves.{by_lt}
use Rattle.slots.specs.Layout.{words_for, bytes_for, WordsIn, nodes_of, start_of, len_of, span_of}
use Rattle.slots.specs.Records.{node_rec, root_rec}
use Rattle.slots.specs.Bare.{bare_at, bares_from, root_bare}
use Rattle.splice.specs.Splice.{solid}
use Rattle.splice.specs.Altered.{gap_of, Emptied}
use Rattle.pool.proofs.Stands.{Stands, Holds, nodes_are}
use Rattle.pool.proofs.Held.{slot-is_rec, tree-holds}
use Rattle.splice.proofs.Bares.{start_is, len_is}
use Rattle.slots.proofs.Slots.{bare_of_lem}
use Rattle.splice.proofs.Gaps.{solid-gap}
use Rattle.search.proofs.Places.{plug_stands, plug-nodes, nodes-node}
use Rattle.tidy.specs.Sparse.{Hollow, Sparse, gap}
use Rattle.tidy.specs.Climb.{Kept, Climbing, Tidied}
use Rattle.tidy.proofs.Sparse.{solid-first, solid-none, stands_sparse}
use Rattle.tidy.proofs.Rise.{parent-below, Changed, rise}
use Rattle.split.specs.Halved.{Leaving}

-- Gaps one after another leave nothing.
solid-gaps : (ws bs : List ℕ) (m c : ℕ) → ((i : ℕ) → c ≤ i → i < c + m → len_of ws i ≡ 0) → solid (bares_from ws bs c m) ≡ []
solid-gaps ws bs zero c h = solid-none ws bs c 0 refl
solid-gaps ws bs (suc m) c h =
    let x = bare_at ws bs c in
    let e : suc m - 1 ≡ m = omega arith in
    solid-first ws bs c (suc m) (omega arith)
    ∙ cc (
      solid-gap x (sym (len_is ws bs c x refl) ∙ h c (omega arith) (omega arith)),
      ap (λ (k : ℕ). solid (bares_from ws bs (c + 1) k)) e,
      solid-gaps ws bs m (c + 1) (λ i a b. h i (omega arith) (omega arith)),
    )

-- Gaps keep their starts.
emptied-kept : (ws bs vs : List ℕ) (from to : ℕ) → Emptied ws bs vs from to → Kept ws bs vs bs
emptied-kept ws bs vs from to e =
    record {
      len_w = e.len;
      len_b = refl;
      nodes = e.head 0 (omega arith);
      starts = λ i r.
          let same = start_is ws bs i (bare_at ws bs i) refl in
          let out : (from ≤ i → i < to → ⊥) → start_of vs i ≡ start_of ws i = λ ne. start_is vs bs i (bare_at ws bs i) (e.others i ne r) ∙ sym same in
          by_lt i from
          (λ l. out (λ a b. omega arith))
          (λ l. by_lt i to (λ k. start_is vs bs i (gap_of (bare_at ws bs i)) (e.gaps i l k) ∙ sym same) (λ k. out (λ a b. omega arith)));
      spans = e.spans;
    }

module _ {ws bs : List ℕ} {at over : ℕ} (x : Leaving ws bs at over) where
  leave_holds : Holds ws bs x.tree
  leave_holds = tree-holds ws bs x.bytes x.tree x.is

  abbrev cut : Forest
  cut = node x.b x.l x.w x.kids x.rest

  cut-nodes : nodes_f cut ≡ suc (nodes_f x.kids + nodes_f x.rest)
  cut-nodes = nodes-node x.b x.l x.w x.kids x.rest

  cut_stands : Stands ws bs (depth x.context) cut (before x.context)
  cut_stands =
      let st : Stands ws bs 0 (plug x.context cut) 1 = rw x.place at leave_holds.kids in
      plug_stands ws bs x.context cut st

  cut-span : span_of ws (before x.context) ≡ suc (nodes_f x.kids)
  cut-span = (slot-is_rec ws bs (before x.context) (node_rec (depth x.context) x.b x.l x.w (nodes_f x.kids)) cut_stands.0).span

  all_nodes : nodes_of ws ≡ suc (nodes_f x.tree.kids)
  all_nodes = leave_holds.nodes ∙ nodes_are x.tree

  cut-within : before x.context + nodes_f cut ≤ nodes_of ws
  cut-within = omega (arith, plug-nodes x.context cut, ap nodes_f x.place, all_nodes)

  room : bytes_for (nodes_of ws) ≤ length bs
  room = omega (arith, leave_holds.nodes, leave_holds.room, leave_holds.lengths.labels)

  -- what the code asks of the slot
  pub leave_bounds : WordsIn ws at × (words_for (at + span_of ws at) ≤ length ws) × (bytes_for (at + span_of ws at) ≤ length bs)
  leave_bounds =
      let h = leave_holds in
      omega (arith, x.at-is, cut-within, cut-nodes, cut-span, ap (span_of ws) x.at-is, room, h.nodes, h.room, h.lengths.words)

  module _ (vs : List ℕ) (end : ℕ) (end_is : end ≡ at + span_of ws at) (e : Emptied ws bs vs at end) where
    -- the gaps where the subtree was, and its younger siblings behind them
    left_sparse : Sparse vs bs (depth x.context) (before x.context + nodes_f cut) x.rest (before x.context)
    left_sparse =
        let C = x.context in
        let a = x.at-is in
        let n = cut-nodes in
        let s = cut-span in
        let w = cut-within in
        let m = room in
        let q = ap (span_of ws) a in
        let sp : span_of vs (before C) ≡ suc (nodes_f x.kids) = e.spans (before C) ∙ s in
        let gone : (i : ℕ) → before C ≤ i → i < before C + span_of vs (before C) → len_of vs i ≡ 0 =
        λ i p r. len_is vs bs i (gap_of (bare_at ws bs i)) (e.gaps i (omega arith) (omega arith)) in
        let hollow : Hollow vs bs (before C) =
        record { len = gone (before C) (omega arith) (omega arith); span = omega arith; bares = solid-gaps vs bs (span_of vs (before C)) (before C) gone } in
        let to : before C + nodes_f cut ≡ before C + suc (nodes_f x.kids) + nodes_f x.rest = omega arith in
        gap {f = x.rest} hollow
        (rw (sp, to)
        (stands_sparse ws bs vs bs (depth C) x.rest (before C + suc (nodes_f x.kids)) cut_stands.2
        (record { bares = λ i p r. e.others i (λ c d. omega arith) (omega arith); spans = e.spans })))

    left_changed : Changed ws bs vs bs x.context cut x.rest
    left_changed =
        let a = x.at-is in
        let n = cut-nodes in
        let s = cut-span in
        let q = ap (span_of ws) a in
        record {
          now = left_sparse;
          ahead = λ i p r. e.others i (λ c d. omega arith) r;
          behind = λ i p r. e.others i (λ c d. omega arith) r;
        }

    pub leave_climbing : Climbing vs bs over
    leave_climbing =
        let h = leave_holds in
        let a = x.at-is in
        record {
          words = ws;
          labels = bs;
          whole = x.tree;
          is = x.is;
          bytes = x.bytes;
          final = x.left;
          wf = x.wf;
          stage = record {
            kept = emptied-kept ws bs vs at end e;
            root =
                e.others 0 (λ c d. omega (arith, parent-below x.context)) (omega (arith, h.lengths.labels, h.lengths.least))
                ∙ bare_of_lem ws bs 0 (root_rec x.tree.num (nodes_f x.tree.kids)) h.root
                ∙ ap root_bare (sym x.num);
            way = rw x.over-is (rise ws bs vs bs e.spans x.tree.kids x.left.kids all_nodes room h.kids x.context cut x.rest x.place x.result left_changed);
          };
        }

    pub left_tidied : (us ds : List ℕ) → Tidied vs bs us ds leave_climbing.final → Tidied ws bs us ds x.left
    unfolding leave_climbing
    left_tidied us ds d = record { len_w = d.len_w ∙ e.len; len_b = d.len_b; tree = d.tree }
