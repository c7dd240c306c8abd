-- A subtree carried over is a tree of its own. Assumes nothing.
use mathlib.Core.Path.{◌≡◌, refl, sym, ap, ◌∙◌}
use mathlib.Core.List.{List, ◌∷◌, ◌++◌}
use mathlib.Core.Option.{none, some}
use Prim.Native.Nat.{ℕ, suc, ◌+◌, ◌-◌, ◌≤◌, ◌<◌}
use native.Mathlib.Omega.{arith}
use lib.ListN.{length, drop, length-append}
use lib.Seq.{drop_at}
use Rattle.tree.specs.Key.{Key, key_max}
use Rattle.tree.specs.Map.{Num}
use Rattle.tree.specs.Tree.{Forest, nil, node, Tree, Wf, room, nodes_f, keys_w, WellFormed}
use Rattle.label.proofs.Moves.{by_lt, by_eq}
use Rattle.slots.specs.Layout.{nodes_of, start_of, len_of, has_of, span_of, num_at}
use Rattle.slots.specs.Records.{rec_at, node_rec, root_rec}
use Rattle.pool.specs.Pool.{pool_tree}
use Rattle.pool.specs.Rule.{Lengths}
use Rattle.pool.proofs.Decode.{lengths_stay}
use Rattle.pool.proofs.Stands.{Stands, Holds, nodes_are}
use Rattle.pool.proofs.Held.{slot-is_rec, holds-tree}
use Rattle.search.proofs.Places.{nodes-node}
use Rattle.tidy.proofs.Rise.{stands_deep}
use Rattle.split.specs.Lift.{lowered, topped, Detached, DetachedBelow}
use Rattle.split.specs.Halved.{Detachable}

-- A forest carried over stands there, under a path that is shorter by `base` bytes.
stands_lowered : (ws bs us ds : List ℕ) (base : ℕ) (f : Forest) (s d c j : ℕ) → s ≡ base + d → Stands ws bs s f c
    → ((i : ℕ) → i < nodes_f f → rec_at us ds (j + i) ≡ lowered base (rec_at ws bs (c + i))) → Stands us ds d f j
stands_lowered ws bs us ds base nil s d c j e h k = tt
stands_lowered ws bs us ds base (node b l w kids rest) s d c j e h k =
    let z = nodes-node b l w kids rest in
    let z₀ : j + 0 ≡ j = omega arith in
    let z₁ : c + 0 ≡ c = omega arith in
    let q : s - base ≡ d = omega arith in
    let first : rec_at us ds j ≡ node_rec d b l w (nodes_f kids) =
    ap (rec_at us ds) (sym z₀) ∙ k 0 (omega arith) ∙ ap (λ (x : ℕ). lowered base (rec_at ws bs x)) z₁ ∙ ap (lowered base) h.0 ∙ ap (λ (x : ℕ). node_rec x b l w (nodes_f kids)) q in (
      first,
      stands_lowered ws bs us ds base kids (s + suc (length l)) (d + suc (length l)) (c + 1) (j + 1) (omega arith) h.1
          (λ i p. ap (rec_at us ds) (omega arith) ∙ k (1 + i) (omega arith) ∙ ap (λ (x : ℕ). lowered base (rec_at ws bs x)) (omega arith)),
      stands_lowered ws bs us ds base rest s d (c + suc (nodes_f kids)) (j + suc (nodes_f kids)) e h.2
          (λ i p. ap (rec_at us ds) (omega arith) ∙ k (suc (nodes_f kids) + i) (omega arith) ∙ ap (λ (x : ℕ). lowered base (rec_at ws bs x)) (omega arith)),
    )

-- No label of a forest is too long for its slot.
stands_short : (ws bs : List ℕ) (s : ℕ) (f : Forest) (c : ℕ) → Wf s f → Stands ws bs s f c → (i : ℕ) → c ≤ i → i < c + nodes_f f → len_of ws i ≤ 255
unfolding room
stands_short ws bs s nil c w h i a b =
    let z : nodes_f nil ≡ 0 = unfold nodes_f in refl in
    absurd (omega arith)
stands_short ws bs s (node x l v kids rest) c w h i a b =
    let z = nodes-node x l v kids rest in
    by_eq i c
    (λ e. omega (arith, (slot-is_rec ws bs c (node_rec s x l v (nodes_f kids)) h.0).len, ap (len_of ws) e, w.short))
    (λ ne.
    let a' : c + 1 ≤ i = by_lt c i (λ k. omega arith) (λ k. absurd (ne (omega arith))) in
    by_lt i (c + suc (nodes_f kids))
    (λ k. stands_short ws bs (s + suc (length l)) kids (c + 1) w.wkids h.1 i a' (omega arith))
    (λ k. stands_short ws bs s rest (c + suc (nodes_f kids)) w.wrest h.2 i k (omega arith)))

-- A slot with its number and its children, whose keys start behind s bytes
pub record Spot (ws bs : List ℕ) (at s : ℕ) (w : Num) (kids : Forest) : Type 0 where
  pub base : start_of ws at + len_of ws at ≡ s
  pub num : num_at ws at ≡ w
  pub has : has_of ws at ≤ 1
  pub span : span_of ws at ≡ suc (nodes_f kids)
  pub short : len_of ws at ≤ 255
  pub deep : s ≤ 4096
  pub below : Stands ws bs s kids (at + 1)
  pub wf : Wf s kids
  pub within : at + suc (nodes_f kids) ≤ nodes_of ws

keys_one : (w : Num) → keys_w w ≤ 1
unfolding keys_w
keys_one none = omega arith
keys_one (some v) = omega arith

module _ {ws bs : List ℕ} {t : Tree} (h : Holds ws bs t) where
  pub root_spot : Spot ws bs 0 0 t.num t.kids
  root_spot =
      let r = slot-is_rec ws bs 0 (root_rec t.num (nodes_f t.kids)) h.root in
      record {
        base = omega (arith, r.start, r.len);
        num = r.num;
        has = omega (arith, r.has, keys_one t.num);
        span = r.span;
        short = omega (arith, r.len);
        deep = omega arith;
        below = h.kids;
        wf = h.wf;
        within = omega (arith, h.nodes, nodes_are t);
      }

  pub node_spot : (at s b : ℕ) (l : Key) (w : Num) (kids rest : Forest) → Stands ws bs s (node b l w kids rest) at → Wf s (node b l w kids rest)
      → at + nodes_f (node b l w kids rest) ≤ nodes_of ws → Spot ws bs at (s + suc (length l)) w kids
  unfolding room key_max
  node_spot at s b l w kids rest st wf n =
      let r = slot-is_rec ws bs at (node_rec s b l w (nodes_f kids)) st.0 in
      record {
        base = omega (arith, r.start, r.len);
        num = r.num;
        has = omega (arith, r.has, keys_one w);
        span = r.span;
        short = omega (arith, r.len, wf.short);
        deep = wf.deep;
        below = st.1;
        wf = wf.wkids;
        within = omega (arith, nodes-node b l w kids rest);
      }

  pub spot_detachable : {at s : ℕ} {w : Num} {kids : Forest} → Spot ws bs at s w kids → Detachable ws bs at
  spot_detachable {at} {s} {w} {kids} p =
      let sp = p.span in
      let m : span_of ws at - 1 ≡ nodes_f kids = omega arith in
      let l = h.lengths in
      let n = p.within in
      record {
        span = omega arith;
        small = omega (arith, h.nodes, h.room, l.most);
        has = p.has;
        short = p.short;
        deep = omega (arith, p.base, p.deep);
        kids = record {
          within = record { words = omega (arith, h.nodes, h.room, l.words); labels = omega (arith, h.nodes, h.room, l.labels) };
          deep = λ i a b. omega (arith, p.base, stands_deep ws bs s kids (at + 1) p.below i a (omega arith));
          short = λ i a b. stands_short ws bs s kids (at + 1) p.wf p.below i a (omega arith);
        };
      }

  -- The slot has become the root of a tree.
  pub spot_tree : {at s : ℕ} {w : Num} {kids : Forest} (vs cs us ds : List ℕ) (slots : ℕ) → Spot ws bs at s w kids → Lengths vs cs slots → suc (nodes_f kids) ≤ slots
      → WellFormed (record { num = w; kids = kids }) → Detached ws bs vs cs us ds at (start_of ws at + len_of ws at) → pool_tree us ds ≡ some (record { num = w; kids = kids })
  spot_tree {at} {s} {w} {kids} vs cs us ds slots p l r wf d =
      let t₂ : Tree = record { num = w; kids = kids } in
      let sp = p.span in
      let m : span_of ws at - 1 ≡ nodes_f kids = omega arith in
      holds-tree us ds t₂
      (record {
        slots = slots;
        lengths = lengths_stay vs cs us ds slots d.len_w d.len_b l;
        nodes = omega (arith, d.nodes, nodes_are t₂);
        room = omega (arith, nodes_are t₂);
        root = d.root ∙ cc (ap (λ (x : Num). root_rec x (span_of ws at - 1)) p.num, ap (root_rec w) m);
        kids = stands_lowered ws bs us ds (start_of ws at + len_of ws at) kids s 0 (at + 1) 1 (omega (arith, p.base)) p.below (λ i k. d.kids i (omega arith));
        wf = wf;
      })

  -- What is left of its label stands below an empty root.
  pub label-tree : (vs cs us ds : List ℕ) (slots at s b : ℕ) (q : Key) (x : ℕ) (l : Key) (w : Num) (kids rest : Forest) (m : ℕ) → m ≡ suc (length q)
      → Stands ws bs s (node b (q ++ x ∷ l) w kids rest) at → Lengths vs cs slots → suc (suc (nodes_f kids)) ≤ slots → WellFormed (record { num = none; kids = node x l w kids nil })
      → DetachedBelow ws bs vs cs us ds at m (start_of ws at + m) → pool_tree us ds ≡ some (record { num = none; kids = node x l w kids nil })
  label-tree vs cs us ds slots at s b q x l w kids rest m e st len r wf d =
      let t₂ : Tree = record { num = none; kids = node x l w kids nil } in
      let k = q ++ x ∷ l in
      let i = slot-is_rec ws bs at (node_rec s b k w (nodes_f kids)) st.0 in
      let sp = i.span in
      let z : nodes_f (node x l w kids nil) ≡ suc (nodes_f kids) = nodes-node x l w kids nil ∙ (let n : nodes_f nil ≡ 0 = unfold nodes_f in refl in omega arith) in
      let n : span_of ws at - 1 ≡ nodes_f kids = omega arith in
      let a = length-append q (x ∷ l) in
      let top : rec_at us ds 1 ≡ node_rec 0 x l w (nodes_f kids) = d.top ∙ ap (topped m) st.0 ∙ top-is a in
      let deeper : s + suc (length k) ≡ start_of ws at + m + (0 + suc (length l)) = omega (arith, i.start) in
      holds-tree us ds t₂
      (record {
        slots = slots;
        lengths = lengths_stay vs cs us ds slots d.len_w d.len_b len;
        nodes = omega (arith, d.nodes, nodes_are t₂);
        room = omega (arith, nodes_are t₂);
        root = d.root ∙ ap (root_rec none) (sp ∙ sym z);
        kids = (
          top,
          stands_lowered ws bs us ds (start_of ws at + m) kids (s + suc (length k)) (0 + suc (length l)) (at + 1) 2 deeper st.1 (λ j p. d.kids j (omega arith)),
          tt,
        );
        wf = wf;
      })
    where
      top-is : length (q ++ x ∷ l) ≡ length q + suc (length l) → topped m (node_rec s b (q ++ x ∷ l) w (nodes_f kids)) ≡ node_rec 0 x l w (nodes_f kids)
      top-is a =
          let n : suc (length (q ++ x ∷ l)) - m ≡ suc (length l) = omega arith in
          let p : drop m (b ∷ q ++ x ∷ l) ≡ x ∷ l = drop_at (b ∷ q) (x ∷ l) m (sym e) in
          λ i. record { start = 0; len = n i; has = keys_w w; num = w; span = suc (nodes_f kids); label = p i }
