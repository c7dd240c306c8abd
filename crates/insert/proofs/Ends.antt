-- Where the search has ended: what its slot says, what may be done there, and which splice of records inserts the key.
-- Assumes nothing.
use mathlib.Core.Path.{◌≡◌, refl, sym, ap, ◌∙◌}
use mathlib.Core.Bool.{true, false}
use mathlib.Core.List.{List, [], ◌∷◌, ◌++◌, append_assoc}
use mathlib.Core.Option.{none, some}
use mathlib.Core.Logic.{◌⊎◌, inl, inr}
use Prim.Native.Nat.{ℕ, suc, ◌+◌, ◌-◌, ◌/◌, ◌≤◌, ◌<◌}
use native.Mathlib.Omega.{arith}
use mir.Syntax.{w64}
use mir.Val.{Fits}
use lib.Dec.{ltb}
use lib.ListN.{length, get_or, take, drop, length-drop, length-append}
use lib.Seq.{take_all, drop-drop, drop_at, get_or-append_seam}
use borrow.Author.Tests.{lt-ltb, le-ltb}
use Rattle.tree.specs.Key.{Key, Bytes, key_max}
use Rattle.tree.specs.Map.{Num}
use Rattle.tree.specs.Tree.{Forest, nil, node, Tree, Wf, room, nodes_f}
use Rattle.tree.specs.Image.{numbers_w}
use Rattle.tree.specs.Insert.{leaf, insert_f, insert_t}
use Rattle.tree.specs.Told.{Told, done, refusal}
use Rattle.tree.specs.Calls.{insert_call}
use Rattle.tree.specs.Context.{Context, top, down, over, plug, depth, before}
use Rattle.tree.proofs.Order.{less, even, more, cmp}
use Rattle.tree.proofs.Context.{insert-plug}
use Rattle.slots.specs.Layout.{slots_in, words_for, nodes_of, start_of, len_of, span_of, label_of, num_at}
use Rattle.slots.specs.Records.{node_rec, root_rec}
use Rattle.pool.specs.Pool.{pool_tree}
use Rattle.pool.specs.Rule.{PoolRule}
use Rattle.pool.specs.Post.{Meets}
use Rattle.slots.specs.Bare.{Bare, bare_at, bares_from, node_bare, bares_f, root_bare, bares_t, front_of, back_of}
use Rattle.pool.proofs.Stands.{Stands, Holds, nodes_are, stands_at}
use Rattle.pool.proofs.Held.{slot-is_rec}
use Rattle.splice.proofs.Bares.{Stops, stops_beside, stops_deeper, bares_f-length, node-bares, stands_bares, ahead, behind, ahead-length, tree_around}
use Rattle.search.specs.declared.Stop.{Stop}
use Rattle.search.specs.declared.Descent.{Descent}
use Rattle.search.specs.Landing.{Place, PlaceOf}
use Rattle.search.proofs.Places.{plug_stands, plug-wf, plug-nodes, nodes-node, leads-drop, leads-length}
use Rattle.search.proofs.Answers.{Known, tree, tree_is, holds, looked-is, place, got_at, get_place, place-within}
use Rattle.insert.specs.Splices.{leaf_bares, Grows, Opens, Cuts, Forks, set_bares, fork_bares, fork_side, fork_was, total, Placed, leaf_nodes, KeyLeft, new_nodes}
use Rattle.insert.proofs.Steps.{Step, front-whole, front_cut, back_cut, gap_step, same_step, inside_step, before_step, behind_step}
use Rattle.insert.proofs.Leaves.{leaf-length}
use Rattle.insert.proofs.Room.{new_at, fork-count}
use Rattle.insert.proofs.Grown.{Splits, placed_meets, full_meets}

-- Behind the forest in its place comes nothing, or a slot that starts no deeper.
plug_stops : (ws bs : List ℕ) (n : ℕ) (C : Context) (f : Forest) → Stands ws bs 0 (plug C f) 1 → n ≡ 1 + nodes_f (plug C f) → Stops ws n (depth C) (before C + nodes_f f)
unfolding plug depth before
plug_stops ws bs n top f h e = inl (omega arith)
plug_stops ws bs n (down b l w rest C) f h e =
    let s = depth C in
    let c = before C in
    let i = plug_stops ws bs n C (node b l w f rest) h e in
    let z : c + nodes_f (node b l w f rest) ≡ c + suc (nodes_f f) + nodes_f rest = omega (arith, nodes-node b l w f rest) in
    let r = stands_bares ws bs s rest (c + suc (nodes_f f)) (plug_stands ws bs C (node b l w f rest) h).2 in
    let o = stops_beside ws bs n s (c + suc (nodes_f f)) rest r (rw z at i) in
    let y : c + suc (nodes_f f) ≡ c + 1 + nodes_f f = omega arith in
    stops_deeper ws n s (s + suc (length l)) (c + 1 + nodes_f f) (omega arith) (rw y at o)
plug_stops ws bs n (over b l w kids C) f h e =
    let i = plug_stops ws bs n C (node b l w kids f) h e in
    let z : before C + nodes_f (node b l w kids f) ≡ before C + suc (nodes_f kids) + nodes_f f = omega (arith, nodes-node b l w kids f) in
    rw z at i

-- What is left of a key behind n bytes, as the code takes it
abbrev pub left : Key → ℕ → Key
left key n = take (length key - n) (drop n key)

left_is : (key : Key) (n : ℕ) → left key n ≡ drop n key
left_is key n = take_all (length key - n) (drop n key) (omega (arith, length-drop n key))

pub left-length : (key : Key) (n : ℕ) → length (left key n) ≡ length key - n
left-length key n = ap length (left_is key n) ∙ length-drop n key

-- The slot of the first node of the forest that the search has come to
record NodeHere (ws bs : List ℕ) (at s b : ℕ) (l : Key) (num : Num) (kids : Forest) : Type 0 where
  start : start_of ws at ≡ s
  len : len_of ws at ≡ suc (length l)
  label : label_of ws bs at ≡ b ∷ l
  span : span_of ws at ≡ suc (nodes_f kids)
  bare : bare_at ws bs at ≡ node_bare s b l num
  below : bares_from ws bs (at + 1) (nodes_f kids) ≡ bares_f (s + suc (length l)) kids
  short : length l ≤ 254
  deep : s + suc (length l) ≤ 4096
  inside : at + suc (nodes_f kids) ≤ nodes_of ws

module _ {ws bs : List ℕ} {t : Tree} (h : Holds ws bs t) where
  node-here : {a : ℕ} {k : Key} {s : Stop} {at up above : ℕ} (p : Place t a k s at up above) (b : ℕ) (l : Key) (num : Num) (kids rest : Forest)
      → p.forest ≡ node b l num kids rest → NodeHere ws bs at (depth p.context) b l num kids
  unfolding room key_max
  node-here {a} {k} {s} {at} {up} {above} p b l num kids rest e =
      let C = p.context in
      let f = node b l num kids rest in
      let st : Stands ws bs 0 (plug C f) 1 = rw (p.tree, e) at h.kids in
      let x = stands_at ws bs (depth C) f (sym p.at-is) (plug_stands ws bs C f st) in
      let r = slot-is_rec ws bs at (node_rec (depth C) b l num (nodes_f kids)) x.0 in
      let n = node-bares ws bs (depth C) b l num kids rest at (stands_bares ws bs (depth C) f at x) in
      let w : Wf 0 (plug C f) = rw (p.tree, e) at h.wf in
      let u = plug-wf C f w in
      let m : nodes_f t.kids ≡ nodes_f (plug C f) = ap nodes_f (p.tree ∙ ap (plug C) e) in
      record {
        start = r.start;
        len = r.len;
        label = r.label;
        span = r.span;
        bare = n.slot;
        below = n.below;
        short = u.short;
        deep = u.deep;
        inside = omega (arith, p.at-is, m, plug-nodes C f, nodes-node b l num kids rest, h.nodes, nodes_are t);
      }

  -- What the code asks of each place
  pub gap_ready : (key : Key) (at up above : ℕ) → PlaceOf t key Stop.Gap at up above → (at ≤ nodes_of ws) × (above < length key)
  gap_ready [] at up above p = absurd p
  gap_ready (a ∷ k) at up above p =
      let m : nodes_f t.kids ≡ nodes_f (plug p.context p.forest) = ap nodes_f p.tree in (
        omega (arith, p.at-is, m, plug-nodes p.context p.forest, h.nodes, nodes_are t),
        omega (arith, p.above-is, leads-length p.context a k p.y p.r p.leads),
      )

  -- what stands in the place starts no deeper
  gap-beside : (key : Key) (at up above : ℕ) → PlaceOf t key Stop.Gap at up above → at < nodes_of ws → start_of ws at ≤ above
  gap-beside [] at up above p l = absurd p
  gap-beside (a ∷ k) at up above p l =
      let C = p.context in
      let f = p.forest in
      let n = nodes_of ws in
      let st : Stands ws bs 0 (plug C f) 1 = rw p.tree at h.kids in
      let m : nodes_f t.kids ≡ nodes_f (plug C f) = ap nodes_f p.tree in
      let o = plug_stops ws bs n C f st (omega (arith, h.nodes, nodes_are t)) in
      let b = stops_beside ws bs n (depth C) (before C) f (stands_bares ws bs (depth C) f (before C) (plug_stands ws bs C f st)) o in
      let z : start_of ws at ≡ start_of ws (before C) = ap (start_of ws) p.at-is in
      elim b [ inl q ↦ absurd (omega (arith, p.at-is)) | inr q ↦ omega (arith, p.above-is) ]

  pub same-short : (key : Key) (at up above : ℕ) → PlaceOf t key Stop.Same at up above → len_of ws at ≤ 255
  same-short [] at up above p = absurd p
  same-short (a ∷ k) at up above p =
      let e = p.ends in
      omega (arith, node-here p p.y p.r e.num e.kids e.rest e.is)

  pub inside_ready : (key : Key) (m at up above : ℕ) → PlaceOf t key (Stop.Inside m) at up above → Cuts ws at m
  inside_ready [] m at up above p = absurd p
  inside_ready (a ∷ k) m at up above p =
      let e = p.ends in
      let n = node-here p p.y (p.r ++ e.x ∷ e.tail) e.num e.kids e.rest e.is in
      let l = length-append p.r (e.x ∷ e.tail) in
      let b = e.bytes in
      record { used = omega arith; some = omega arith; cut = omega arith; short = omega arith; start = omega arith }

  pub fork_ready : (key : Key) (m at up above : ℕ) → length key ≤ 4096 → PlaceOf t key (Stop.Fork m) at up above
      → (above + m < length key) × Forks ws at m (left key (above + m))
  fork_ready [] m at up above short p = absurd p
  fork_ready (a ∷ k) m at up above short p =
      let e = p.ends in
      let n = node-here p p.y (e.shared ++ e.x ∷ e.tail) e.num e.kids e.rest e.is in
      let l = length-append e.shared (e.x ∷ e.tail) in
      let b = e.bytes in
      let c = p.above-is in
      let i : length p.r ≡ length e.shared + suc (length e.left) = ap length e.key ∙ length-append e.shared (e.z ∷ e.left) in
      let g = leads-length p.context a k p.y p.r p.leads in
      let q = left-length (a ∷ k) (above + m) in (
        omega arith,
        record {
          cuts = record { used = omega arith; some = omega arith; cut = omega arith; short = omega arith; start = omega arith };
          less = omega arith;
          left = omega arith;
          deep = omega arith;
          span = omega arith;
          inside = omega arith;
        },
      )

-- The splice that inserts the key, by how the search ends
abbrev pub was_at : (ws bs : List ℕ) (key : Key) (at above : ℕ) → Stop → ℕ
was_at ws bs key at above Stop.Root = 1
was_at ws bs key at above Stop.Gap = 0
was_at ws bs key at above Stop.Same = 1
was_at ws bs key at above (Stop.Inside m) = 1
was_at ws bs key at above (Stop.Fork m) = fork_was ws at (fork_side ws bs at m (left key (above + m)))

abbrev pub now_at : (ws bs : List ℕ) (key : Key) (v at above : ℕ) → Stop → List Bare
now_at ws bs key v at above Stop.Root = set_bares ws bs at v
now_at ws bs key v at above Stop.Gap = leaf_bares above (left key above) v
now_at ws bs key v at above Stop.Same = set_bares ws bs at v
now_at ws bs key v at above (Stop.Inside m) = front_of m (some v) (bare_at ws bs at) ∷ back_of m (bare_at ws bs at) ∷ []
now_at ws bs key v at above (Stop.Fork m) = fork_bares ws bs at m (left key (above + m)) v (fork_side ws bs at m (left key (above + m)))

-- A step of the forest that the search has come to is one of the tree.
place_splits : (t : Tree) (a : ℕ) (k : Key) (v : ℕ) {s : Stop} {at up above : ℕ} (p : Place t a k s at up above) (was : ℕ) (ps xs : List Bare) → length ps ≡ was
    → Step (depth p.context) p.forest (insert_f p.forest p.y p.r v) ps xs → Splits t (insert_t t (a ∷ k) v) at was xs
unfolding insert_t
place_splits t a k v {s} {at} {up} {above} p was ps xs l st =
    let C = p.context in
    let g = insert_f p.forest p.y p.r v in
    let u : Tree = record { num = t.num; kids = insert_f t.kids a k v } in
    let e : u.kids ≡ plug C g = ap (λ (f : Forest). insert_f f a k v) p.tree ∙ insert-plug v C p.forest a k p.y p.r p.leads in
    let o = append_assoc ps st.rest (behind C) in
    let n = append_assoc xs st.rest (behind C) in
    record {
      front = root_bare t.num ∷ ahead C;
      gone = ps;
      back = st.rest ++ behind C;
      at-is = ahead-length C ∙ sym p.at-is;
      was-is = l;
      old = tree_around t C p.forest p.tree ∙ ap (λ (z : List Bare). root_bare t.num ∷ ahead C ++ z) (ap (λ (z : List Bare). z ++ behind C) st.old ∙ o);
      new = tree_around u C g e ∙ ap (λ (z : List Bare). root_bare t.num ∷ ahead C ++ z) (ap (λ (z : List Bare). z ++ behind C) st.new ∙ n);
    }

splits_as : {t u : Tree} {at was : ℕ} (xs ys : List Bare) → xs ≡ ys → Splits t u at was ys → Splits t u at was xs
splits_as xs ys e s = rw e s

module _ {ws bs : List ℕ} {t : Tree} (h : Holds ws bs t) (v : ℕ) where
  -- the root's record with the number
  root-now : front_of (len_of ws 0) (some v) (bare_at ws bs 0) ≡ root_bare (some v)
  unfolding bare_at
  root-now =
      let r = slot-is_rec ws bs 0 (root_rec t.num (nodes_f t.kids)) h.root in
      rw (r.start, r.len)

  root_splits : (at : ℕ) → at ≡ 0 → Splits t (insert_t t [] v) at 1 (front_of (len_of ws at) (some v) (bare_at ws bs at) ∷ [])
  unfolding insert_t bares_t
  root_splits at e =
      rw e
      (record {
        front = [];
        gone = root_bare t.num ∷ [];
        back = bares_f 0 t.kids;
        at-is = refl;
        was-is = refl;
        old = refl;
        new = ap (λ (x : Bare). x ∷ bares_f 0 t.kids) (sym root-now);
      })

  module _ (a : ℕ) (k : Key) (at up above : ℕ) where
    gap_splits : Place t a k Stop.Gap at up above → Splits t (insert_t t (a ∷ k) v) at 0 (leaf_bares above (left (a ∷ k) above) v)
    gap_splits p =
        let C = p.context in
        let e : left (a ∷ k) above ≡ p.y ∷ p.r = left_is (a ∷ k) above ∙ ap (λ (n : ℕ). drop n (a ∷ k)) p.above-is ∙ leads-drop C a k p.y p.r p.leads in
        splits_as (leaf_bares above (left (a ∷ k) above) v) (bares_f (depth C) (leaf p.y p.r v nil)) (rw (e, p.above-is) refl) (place_splits t a k v p 0 [] _ refl (gap_step (depth C) p.forest p.y p.r v p.ends))

    same_splits : Place t a k Stop.Same at up above → Splits t (insert_t t (a ∷ k) v) at 1 (front_of (len_of ws at) (some v) (bare_at ws bs at) ∷ [])
    same_splits p =
        let e = p.ends in
        let d = depth p.context in
        let n = node-here h p p.y p.r e.num e.kids e.rest e.is in
        splits_as (front_of (len_of ws at) (some v) (bare_at ws bs at) ∷ []) (node_bare d p.y p.r (some v) ∷ [])
        (rw (n.len, n.bare) (ap (λ (x : Bare). x ∷ []) (front-whole d p.y p.r (some v) e.num)))
        (place_splits t a k v p 1 (node_bare d p.y p.r e.num ∷ []) _ refl (rw e.is (same_step d p.y e.num e.kids e.rest v p.r)))

    inside_splits : (m : ℕ) → Place t a k (Stop.Inside m) at up above
        → Splits t (insert_t t (a ∷ k) v) at 1 (front_of m (some v) (bare_at ws bs at) ∷ back_of m (bare_at ws bs at) ∷ [])
    inside_splits m p =
        let e = p.ends in
        let d = depth p.context in
        let n = node-here h p p.y (p.r ++ e.x ∷ e.tail) e.num e.kids e.rest e.is in
        splits_as (front_of m (some v) (bare_at ws bs at) ∷ back_of m (bare_at ws bs at) ∷ [])
        (node_bare d p.y p.r (some v) ∷ node_bare (d + suc (length p.r)) e.x e.tail e.num ∷ [])
        (rw (n.bare, e.bytes)
        (cc (front_cut d p.y p.r e.x e.tail (some v) e.num, back_cut d p.y p.r e.x e.tail e.num)))
        (place_splits t a k v p 1 (node_bare d p.y (p.r ++ e.x ∷ e.tail) e.num ∷ []) _ refl (rw e.is (inside_step d p.y e.num e.kids e.rest v p.r e.x e.tail)))

    fork_splits : (m : ℕ) → Place t a k (Stop.Fork m) at up above
        → let q = left (a ∷ k) (above + m) in
        let b = fork_side ws bs at m q in
        Splits t (insert_t t (a ∷ k) v) at (fork_was ws at b) (fork_bares ws bs at m q v b)
    fork_splits m p =
        let e = p.ends in
        let C = p.context in
        let d = depth C in
        let l = e.shared ++ e.x ∷ e.tail in
        let q = left (a ∷ k) (above + m) in
        let n = node-here h p p.y l e.num e.kids e.rest e.is in
        let front = front_cut d p.y e.shared e.x e.tail none e.num in
        let back = back_cut d p.y e.shared e.x e.tail e.num in
        let down : drop above (a ∷ k) ≡ p.y ∷ e.shared ++ e.z ∷ e.left =
        ap (λ (i : ℕ). drop i (a ∷ k)) p.above-is ∙ leads-drop C a k p.y p.r p.leads ∙ ap (λ (i : Key). p.y ∷ i) e.key in
        let q_is : q ≡ e.z ∷ e.left =
        left_is (a ∷ k) (above + m) ∙ sym (drop-drop m above (a ∷ k)) ∙ ap (drop m) down ∙ drop_at (p.y ∷ e.shared) (e.z ∷ e.left) m (sym e.bytes) in
        let s-is : start_of ws at + m ≡ d + suc (length e.shared) = omega (arith, n.start, e.bytes) in
        let here : get_or (label_of ws bs at) m 0 ≡ e.x = rw (n.label, e.bytes) (get_or-append_seam (p.y ∷ e.shared) e.x e.tail 0) in
        let side : fork_side ws bs at m q ≡ ltb e.z e.x = rw (q_is, here) refl in
        let kids : bares_from ws bs (at + 1) (span_of ws at - 1) ≡ bares_f (d + suc (length l)) e.kids =
        let z : span_of ws at - 1 ≡ nodes_f e.kids = omega (arith, n.span) in
        rw z n.below in
        elim (cmp e.z e.x) [
          | less i c ↦
              let y = side ∙ lt-ltb e.z e.x i in
              rw y
              (splits_as (fork_bares ws bs at m q v true)
              (node_bare d p.y e.shared none ∷ bares_f (d + suc (length e.shared)) (leaf e.z e.left v nil) ++ (node_bare (d + suc (length e.shared)) e.x e.tail e.num ∷ []))
              (rw (n.bare, q_is, s-is, e.bytes, front, back) refl)
              (place_splits t a k v p 1 (node_bare d p.y l e.num ∷ []) _ refl (rw (e.is, e.key) (before_step d p.y e.num e.kids e.rest v e.shared e.x e.tail e.z e.left e.differ i))))
          | even i c ↦ absurd (e.differ i)
          | more i c ↦
              let y = side ∙ le-ltb e.z e.x (omega arith) in
              rw y
              (splits_as (fork_bares ws bs at m q v false)
              (node_bare d p.y e.shared none ∷ (node_bare (d + suc (length e.shared)) e.x e.tail e.num ∷ bares_f (d + suc (length l)) e.kids) ++ bares_f (d + suc (length e.shared)) (leaf e.z e.left v nil))
              (rw (n.bare, q_is, s-is, kids, e.bytes, front, back) refl)
              (place_splits t a k v p (span_of ws at) (node_bare d p.y l e.num ∷ bares_f (d + suc (length l)) e.kids) _ (omega (arith, n.span, bares_f-length (d + suc (length l)) e.kids))
              (rw (e.is, e.key) (behind_step d p.y e.num e.kids e.rest v e.shared e.x e.tail e.z e.left e.differ i))))
        ]

  splits : (key : Key) (s : Stop) (at up above : ℕ) → PlaceOf t key s at up above → Splits t (insert_t t key v) at (was_at ws bs key at above s) (now_at ws bs key v at above s)
  splits [] Stop.Root at up above p = root_splits at p.at-is
  splits [] Stop.Gap at up above p = absurd p
  splits [] Stop.Same at up above p = absurd p
  splits [] (Stop.Inside m) at up above p = absurd p
  splits [] (Stop.Fork m) at up above p = absurd p
  splits (a ∷ k) Stop.Root at up above p = absurd p.ends
  splits (a ∷ k) Stop.Gap at up above p = gap_splits a k at up above p
  splits (a ∷ k) Stop.Same at up above p = same_splits a k at up above p
  splits (a ∷ k) (Stop.Inside m) at up above p = inside_splits a k at up above m p
  splits (a ∷ k) (Stop.Fork m) at up above p = fork_splits a k at up above m p

root-place : (t : Tree) (key : Key) (at up above : ℕ) → PlaceOf t key Stop.Root at up above → at ≡ 0
root-place t [] at up above p = p.at-is
root-place t (a ∷ k) at up above p = absurd p.ends

-- The ways of ending at which a number is set, as the code tells them apart: the first and the third
abbrev AtNumber : Stop → Type 0
AtNumber Stop.Root = Unit {0}
AtNumber Stop.Gap = ⊥
AtNumber Stop.Same = Unit {0}
AtNumber (Stop.Inside m) = ⊥
AtNumber (Stop.Fork m) = ⊥

at-number : (s : Stop) → (s ≡ Stop.Root) ⊎ (s ≡ Stop.Same) → AtNumber s
at-number Stop.Root h = tt
at-number Stop.Gap (inl e) = cc
at-number Stop.Gap (inr e) = cc
at-number Stop.Same h = tt
at-number (Stop.Inside m) (inl e) = cc
at-number (Stop.Inside m) (inr e) = cc
at-number (Stop.Fork m) (inl e) = cc
at-number (Stop.Fork m) (inr e) = cc

-- The room that the code has tested for
pub grows_by : {ws bs : List ℕ} → PoolRule ws bs → (n k : ℕ) → n ≡ nodes_of ws → n + k ≤ length bs / 255 → Grows ws bs n k
grows_by r n k e h =
    let l = r.lengths in
    record { nodes = e; within = record { words = omega arith; labels = omega arith }; most = omega arith; room = h }

-- What the code places where its search has ended meets the call's contract.
module _ {ws bs key : List ℕ} {d : Descent} (w : Known ws bs key d) where
  slots_are : words_for (nodes_of ws) ≤ length ws
  slots_are = let r = w.rule in omega (arith, r.lengths, r.room)

  -- what is asked at each end
  abbrev SetAsks : Type 0
  SetAsks = (words_for (nodes_of ws) ≤ length ws) × (d.at.0 < nodes_of ws) × (len_of ws d.at.0 ≤ 255)

  root_asks : d.stop ≡ Stop.Root → SetAsks
  root_asks e =
      let p = place w Stop.Root e in
      let z = root-place (tree w) key d.at.0 d.parent.0 d.above p in
      let r = w.rule in
      (slots_are, omega (arith, z, r.nodes), rw z (omega (arith, r.root-len)))

  same_asks : d.stop ≡ Stop.Same → SetAsks
  same_asks e =
      let p = place w Stop.Same e in
      let h = holds w in
      (slots_are, place-within h key Stop.Same d.at.0 d.parent.0 d.above tt p, same-short h key d.at.0 d.parent.0 d.above p)

  set_at : (s : Stop) → d.stop ≡ s → AtNumber s → SetAsks
  set_at Stop.Root e h = root_asks e
  set_at Stop.Gap e h = absurd h
  set_at Stop.Same e h = same_asks e
  set_at (Stop.Inside m) e h = absurd h
  set_at (Stop.Fork m) e h = absurd h

  pub set_asks : (d.stop ≡ Stop.Root) ⊎ (d.stop ≡ Stop.Same) → SetAsks
  set_asks h = set_at d.stop refl (at-number d.stop h)

  gap-place : d.stop ≡ Stop.Gap → (d.at.0 ≤ nodes_of ws) × (d.above < length key)
  gap-place e = gap_ready (holds w) key d.at.0 d.parent.0 d.above (place w Stop.Gap e)

  gap_within : d.stop ≡ Stop.Gap → d.above < length key
  gap_within e = (gap-place e).1

  pub gap-most : d.stop ≡ Stop.Gap → d.above ≤ length key
  gap-most e = omega (arith, gap_within e)

  pub gap_asks : d.stop ≡ Stop.Gap → Opens ws bs d.at.0 d.above (left key d.above)
  unfolding key_max
  gap_asks e =
      let p = gap-place e in
      let l = left-length key d.above in
      let k = w.short in
      record {
        rule = w.rule;
        inside = p.0;
        beside = λ h. gap-beside (holds w) key d.at.0 d.parent.0 d.above (place w Stop.Gap e) h;
        left = omega arith;
        deep = omega arith;
      }

  pub inside_asks : (m : ℕ) → d.stop ≡ Stop.Inside m → PoolRule ws bs × Cuts ws d.at.0 m
  inside_asks m e = (w.rule, inside_ready (holds w) key m d.at.0 d.parent.0 d.above (place w (Stop.Inside m) e))

  pub fork_asks : (m : ℕ) → d.stop ≡ Stop.Fork m → (d.above + m < length key) × Forks ws d.at.0 m (left key (d.above + m))
  unfolding key_max
  fork_asks m e = fork_ready (holds w) key m d.at.0 d.parent.0 d.above w.short (place w (Stop.Fork m) e)

  -- the fork is within the key
  module _ (m : ℕ) (e : d.stop ≡ Stop.Fork m) where
    pub from_most : d.above + m ≤ length key
    from_most = omega (arith, (fork_asks m e).0)

    pub from_fits : Fits w64 (d.above + m)
    unfolding key_max
    from_fits = omega (arith, from_most, w.short)

  -- what is left of the key, and the slots that it takes
  pub left_asks : (s : Stop) → d.stop ≡ s → KeyLeft s d.above (length key)
  left_asks Stop.Root e = tt
  left_asks Stop.Gap e = gap_within e
  left_asks Stop.Same e = tt
  left_asks (Stop.Inside m) e = tt
  left_asks (Stop.Fork m) e = (fork_asks m e).0

  total-at : (v : ℕ) (s : Stop) → d.stop ≡ s
      → total ws (was_at ws bs key d.at.0 d.above s) (now_at ws bs key v d.at.0 d.above s) ≡ nodes_of ws + new_nodes s d.above (length key)
  total-at v Stop.Root e = omega arith
  total-at v Stop.Gap e =
      let q = left key d.above in
      let l = left-length key d.above in
      omega (arith, gap_within e, leaf-length d.above q v (omega (arith, gap_within e)))
  total-at v Stop.Same e = omega arith
  total-at v (Stop.Inside m) e = omega arith
  total-at v (Stop.Fork m) e =
      let q = left key (d.above + m) in
      let l = left-length key (d.above + m) in
      let f = (fork_asks m e).1 in
      omega (arith, fork-count ws bs d.at.0 m q v (fork_side ws bs d.at.0 m q) f.left f.span)

  -- how many slots the code has counted
  module _ (k : ℕ) (count : k ≡ new_nodes d.stop d.above (length key)) where
    pub gap-slots : d.stop ≡ Stop.Gap → k ≡ leaf_nodes (length (left key d.above))
    gap-slots e = rw (left-length key d.above) (count ∙ new_at d.above (length key) e)

    pub inside_grows : (n : ℕ) → Grows ws bs n k → (m : ℕ) → d.stop ≡ Stop.Inside m → Grows ws bs n 1
    inside_grows n g m e =
        let one : k ≡ 1 = count ∙ new_at d.above (length key) e in
        rw one at g

    pub fork-slots : (m : ℕ) → d.stop ≡ Stop.Fork m → k ≡ 1 + leaf_nodes (length (left key (d.above + m)))
    fork-slots m e = rw (left-length key (d.above + m)) (count ∙ new_at d.above (length key) e)

  -- what the call tells where w is the number of its slot
  abbrev OldTold : Told → Num → Type 0
  OldTold told w = told ≡ done (numbers_w w (d.looked.0 ∷ []))

  pub meets : Bytes key → (v : ℕ) (s : Stop) → d.stop ≡ s → (vs cs : List ℕ) (told : Told)
      → OldTold told (got_at s (num_at ws d.at.0))
      → let at = d.at.0 in
      Placed ws bs vs cs at (was_at ws bs key at d.above s) (now_at ws bs key v at d.above s)
      → Meets (insert_call (pool_tree ws bs) (slots_in bs) key v) told ws bs vs cs
  meets by v s e vs cs told y x =
      let h = holds w in
      let p = place w s e in
      let g = get_place h key s d.at.0 d.parent.0 d.above p in
      let s' = splits h v key s d.at.0 d.parent.0 d.above p in
      placed_meets (tree_is w) h key v by w.short s' vs cs told (rw (g, ← looked-is w) y) x

  -- a number is set
  abbrev SetThere : (v : ℕ) (vs cs : List ℕ) → Type 0
  SetThere v vs cs = Placed ws bs vs cs d.at.0 1 (set_bares ws bs d.at.0 v)

  set_there : Bytes key → (v : ℕ) (s : Stop) → d.stop ≡ s → AtNumber s → (vs cs : List ℕ) (told : Told)
      → OldTold told (num_at ws d.at.0)
      → SetThere v vs cs → Meets (insert_call (pool_tree ws bs) (slots_in bs) key v) told ws bs vs cs
  unfolding got_at
  set_there by v Stop.Root e h vs cs told y x = meets by v Stop.Root e vs cs told y x
  set_there by v Stop.Gap e h vs cs told y x = absurd h
  set_there by v Stop.Same e h vs cs told y x = meets by v Stop.Same e vs cs told y x
  set_there by v (Stop.Inside m) e h vs cs told y x = absurd h
  set_there by v (Stop.Fork m) e h vs cs told y x = absurd h

  pub set_meets : (d.stop ≡ Stop.Root) ⊎ (d.stop ≡ Stop.Same) → Bytes key → (v : ℕ) {vs cs : List ℕ} {told : Told}
      → OldTold told (num_at ws d.at.0) → SetThere v vs cs
      → Meets (insert_call (pool_tree ws bs) (slots_in bs) key v) told ws bs vs cs
  set_meets h by v {vs} {cs} {told} y x = set_there by v d.stop refl (at-number d.stop h) vs cs told y x

  -- there is no room
  pub no_room : Bytes key → (v n k : ℕ) → n ≡ nodes_of ws → k ≡ new_nodes d.stop d.above (length key) → length bs / 255 < n + k
      → Meets (insert_call (pool_tree ws bs) (slots_in bs) key v) (refusal 4) ws bs ws bs
  no_room by v n k e f h =
      let s = splits (holds w) v key d.stop d.at.0 d.parent.0 d.above (place w d.stop refl) in
      full_meets (tree_is w) (holds w) key v by w.short s (omega (arith, total-at v d.stop refl))
