-- From a slot up to the root: which slot is the parent, and what the slots hold once a node on the way is settled. Assumes
-- nothing.
use mathlib.Core.Path.{◌≡◌, refl, ap, ◌∙◌}
use mathlib.Core.Logic.{◌⊎◌, inl, inr}
use mathlib.Core.List.{List}
use Prim.Native.Nat.{ℕ, suc, ◌+◌, ◌-◌, ◌≤◌, ◌<◌}
use native.Mathlib.Omega.{arith}
use lib.ListN.{length}
use Rattle.tree.specs.Tree.{Forest, nil, node, nodes_f}
use Rattle.tree.specs.Context.{Context, top, down, over, plug, depth, before, parent, settled}
use Rattle.label.proofs.Moves.{by_lt, by_eq}
use Rattle.slots.specs.Layout.{bytes_for, RoomIn, nodes_of, start_of, span_of}
use Rattle.slots.specs.Records.{node_rec}
use Rattle.slots.specs.Bare.{bare_at}
use Rattle.pool.proofs.Stands.{Stands}
use Rattle.pool.proofs.Held.{slot-is_rec}
use Rattle.search.proofs.Places.{plug_stands, plug-nodes, nodes-node}
use Rattle.tidy.specs.Sparse.{Sparse, full, Parent}
use Rattle.tidy.specs.Climb.{Way, reached, rising}
use Rattle.tidy.proofs.Sparse.{stands_solid}

-- The slots above r, up to m, start at `start` or deeper.
pub record Scanned (ws : List ℕ) (start m r : ℕ) : Type 0 where
  pub high : r ≤ m
  pub deep : (i : ℕ) → r < i → i ≤ m → start ≤ start_of ws i

pub scan_none : (ws : List ℕ) (start m : ℕ) → Scanned ws start m m
scan_none ws start m = record { high = omega arith; deep = λ i l h. absurd (omega arith) }

pub scan_on : {ws : List ℕ} {start m r : ℕ} → 0 < r → start ≤ start_of ws r → Scanned ws start m r → Scanned ws start m (r - 1)
scan_on {ws} {start} {m} {r} p h s =
    record {
      high = omega (arith, s.high);
      deep = λ i l g. by_eq i r (λ e. rw e h) (λ ne. s.deep i (by_lt r i (λ k. k) (λ k. absurd (ne (omega arith)))) g);
    }

pub scan_found : {ws : List ℕ} {start c m r : ℕ} → start ≡ start_of ws c → m + 1 ≡ c → start_of ws r < start → Scanned ws start m r → Parent ws c r
scan_found e f l s =
    record {
      below = omega (arith, s.high);
      near = λ i a b. omega (arith, s.deep i a (omega arith));
      lower = λ ne. omega arith;
    }

pub scan_root : {ws : List ℕ} {start c m r : ℕ} → start ≡ start_of ws c → m + 1 ≡ c → r ≡ 0 → Scanned ws start m r → Parent ws c 0
scan_root e f z s =
    record {
      below = omega arith;
      near = λ i a b. omega (arith, s.deep i (omega arith) (omega arith));
      lower = λ ne. absurd (ne refl);
    }

-- Every slot of a forest starts at its path or deeper.
pub stands_deep : (ws bs : List ℕ) (s : ℕ) (f : Forest) (c : ℕ) → Stands ws bs s f c → (i : ℕ) → c ≤ i → i < c + nodes_f f → s ≤ start_of ws i
stands_deep ws bs s nil c h i a b =
    let z : nodes_f nil ≡ 0 = unfold nodes_f in refl in
    absurd (omega arith)
stands_deep ws bs s (node x l w kids rest) c h i a b =
    let z = nodes-node x l w kids rest in
    by_eq i c
    (λ e. omega (arith, (slot-is_rec ws bs c (node_rec s x l w (nodes_f kids)) h.0).start, ap (start_of ws) e))
    (λ ne.
    let a' : c + 1 ≤ i = by_lt c i (λ k. omega arith) (λ k. absurd (ne (omega arith))) in
    by_lt i (c + suc (nodes_f kids))
    (λ k. omega (arith, stands_deep ws bs (s + suc (length l)) kids (c + 1) h.1 i a' (omega arith)))
    (λ k. stands_deep ws bs s rest (c + suc (nodes_f kids)) h.2 i k (omega arith)))

-- A parent stands before its children.
pub parent-below : (C : Context) → parent C < before C
unfolding parent before
parent-below top = omega arith
parent-below (down b l w rest C) = omega arith
parent-below (over b l w kids C) = omega (arith, parent-below C)

-- Nothing between them starts above the children.
module _ (ws bs : List ℕ) where
  parent-near : (C : Context) (f : Forest) → Stands ws bs 0 (plug C f) 1 → (i : ℕ) → parent C < i → i < before C → depth C ≤ start_of ws i
  unfolding plug parent before depth
  parent-near top f h i a b = absurd (omega arith)
  parent-near (down b l w rest C) f h i a k = absurd (omega arith)
  parent-near (over b l w kids C) f h i a k =
      let st = plug_stands ws bs C (node b l w kids f) h in
      by_lt i (before C)
      (λ m. parent-near C (node b l w kids f) h i a m)
      (λ m. stands_deep ws bs (depth C) (node b l w kids f) (before C) st i m (omega (arith, nodes-node b l w kids f)))

  parent-lower : (C : Context) (f : Forest) → Stands ws bs 0 (plug C f) 1 → (parent C ≡ 0) ⊎ (start_of ws (parent C) < depth C)
  unfolding plug parent before depth
  parent-lower top f h = inl refl
  parent-lower (down b l w rest C) f h =
      let st = plug_stands ws bs C (node b l w f rest) h in
      inr (omega (arith, (slot-is_rec ws bs (before C) (node_rec (depth C) b l w (nodes_f f)) st.0).start))
  parent-lower (over b l w kids C) f h = parent-lower C (node b l w kids f) h

  -- so the slot that the code finds is the parent
  pub parent_is : (C : Context) (f : Forest) → Stands ws bs 0 (plug C f) 1 → (r : ℕ) → start_of ws (before C) ≡ depth C → Parent ws (before C) r → r ≡ parent C
  parent_is C f h r s p =
      by_eq r (parent C) (λ e. e)
      (λ ne.
      by_lt r (parent C)
      (λ l. absurd (above (parent-lower C f h) l))
      (λ l.
      let g : parent C < r = by_lt (parent C) r (λ k. k) (λ k. absurd (ne (omega arith))) in
      absurd (below g)))
    where
      above : (parent C ≡ 0) ⊎ (start_of ws (parent C) < depth C) → r < parent C → ⊥
      above (inl z) l = omega arith
      above (inr z) l = omega (arith, p.near (parent C) l (parent-below C))

      below : parent C < r → ⊥
      below g = omega (arith, p.lower (λ z. omega arith), parent-near C f h r g p.below)

-- The forest f₀ of the tree has become g in its slots; outside of them nothing has changed.
pub record Changed (ws bs us ds : List ℕ) (C : Context) (f₀ g : Forest) : Type 0 where
  pub now : Sparse us ds (depth C) (before C + nodes_f f₀) g (before C)
  pub ahead : (i : ℕ) → i < before C → RoomIn bs i → bare_at us ds i ≡ bare_at ws bs i
  pub behind : (i : ℕ) → before C + nodes_f f₀ ≤ i → RoomIn bs i → bare_at us ds i ≡ bare_at ws bs i

-- Then its parent is next.
module _ (ws bs us ds : List ℕ) (spans : (i : ℕ) → span_of us i ≡ span_of ws i) (kids final : Forest) (count : nodes_of ws ≡ suc (nodes_f kids)) (room : bytes_for (nodes_of ws) ≤ length bs)
    (st : Stands ws bs 0 kids 1) where
  -- there is room for the slots of a forest of the tree
  in_room : (C : Context) (f : Forest) → kids ≡ plug C f → bytes_for (before C + nodes_f f) ≤ length bs
  in_room C f e = omega (arith, plug-nodes C f, ap nodes_f e)

  pub rise : (C : Context) (f₀ g : Forest) → kids ≡ plug C f₀ → settled C g ≡ final → Changed ws bs us ds C f₀ g → Way ws bs us ds kids final (parent C)
  unfolding plug settled parent before depth
  rise top f₀ g e r c =
      let n : 1 + nodes_f f₀ ≡ nodes_of ws = omega (arith, ap nodes_f e) in
      reached refl (rw (← r, ← n) c.now)
  rise (over b l w ks C) f₀ g e r c =
      let z = nodes-node b l w ks f₀ in
      let h = plug_stands ws bs C (node b l w ks f₀) (rw e at st) in
      let m = in_room C (node b l w ks f₀) e in
      let s = stands_solid ws bs us ds (depth C) b l w ks f₀ (before C) h (record { bares = λ i a k. c.ahead i (omega arith) (omega arith); spans = spans }) in
      let q : before C + suc (nodes_f ks) + nodes_f f₀ ≡ before C + nodes_f (node b l w ks f₀) = omega arith in
      let tail : Sparse us ds (depth C) (before C + nodes_f (node b l w ks f₀)) g (before C + span_of us (before C)) = rw (← q, s.0) c.now in
      rise C (node b l w ks f₀) (node b l w ks g) e r
      (record { now = full {rest = g} s.1 tail; ahead = λ i a k. c.ahead i (omega arith) k; behind = λ i a k. c.behind i (omega arith) k })
  rise (down b l w rest C) f₀ g e r c =
      let z = nodes-node b l w f₀ rest in
      let h = plug_stands ws bs C (node b l w f₀ rest) (rw e at st) in
      let m = in_room C (node b l w f₀ rest) e in
      let sp : span_of ws (before C) ≡ suc (nodes_f f₀) = (slot-is_rec ws bs (before C) (node_rec (depth C) b l w (nodes_f f₀)) h.0).span in
      let s = stands_solid ws bs ws bs (depth C) b l w f₀ rest (before C) h (record { bares = λ i a k. refl; spans = λ i. refl }) in
      let q : before C + 1 + nodes_f f₀ ≡ before C + span_of us (before C) = omega (arith, spans (before C)) in
      rising
      (record {
        context = C;
        b = b;
        l = l;
        was-num = w;
        was = f₀;
        rest = rest;
        tree = e;
        at-is = refl;
        w = w;
        now = g;
        ripe = record { slot = c.ahead (before C) (omega arith) (omega arith) ∙ s.1.slot; span = omega (arith, spans (before C)); kids_are = rw (← q) c.now };
        ahead = λ i a k. c.ahead i (omega arith) k;
        behind = λ i a k. c.behind i (omega arith) k;
        result = r;
      })
