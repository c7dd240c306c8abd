-- The number taken at the key's slot: what is tidied from there, and what the call then tells and leaves. Assumes nothing.
use mathlib.Core.Path.{◌≡◌, refl, sym, ap, ◌∙◌, subst}
use mathlib.Core.List.{List, [], ◌∷◌, append-nil}
use mathlib.Core.Logic.{inl, inr}
use mathlib.Core.Option.{none, some}
use Prim.Native.Nat.{ℕ, suc, ◌+◌, ◌≤◌, ◌<◌}
use native.Mathlib.Omega.{arith}
use lib.ListN.{length}
use Rattle.tree.specs.Key.{Key, strip, key_max}
use Rattle.tree.specs.Map.{Num}
use Rattle.tree.specs.Tree.{Forest, node, Tree, nodes_f, keys_w}
use Rattle.tree.specs.Search.{get_t}
use Rattle.tree.specs.Remove.{settle, erase_f, erase_t, if_stored, remove_t}
use Rattle.tree.specs.Told.{done, refusal, refusal_at}
use Rattle.tree.specs.Image.{numbers_w}
use Rattle.tree.specs.Calls.{remove_told, remove_call}
use Rattle.tree.specs.Context.{plug, depth, settled}
use Rattle.tree.proofs.Parts.{strip-append}
use Rattle.tree.proofs.RemoveFind.{erase_f-here}
use Rattle.tree.proofs.RemoveWf.{erase-wf}
use Rattle.tree.proofs.Context.{erase-plug}
use Rattle.slots.specs.Layout.{WordsIn, RoomIn, nodes_of, span_of, num_at}
use Rattle.slots.specs.Records.{node_rec, root_rec}
use Rattle.pool.specs.Pool.{pool_tree}
use Rattle.pool.specs.Rule.{PoolRule}
use Rattle.pool.specs.Post.{Meets}
use Rattle.slots.specs.Bare.{bare_at, node_bare, root_bare}
use Rattle.splice.specs.Altered.{numberless, Altered}
use Rattle.pool.proofs.Decode.{slots_stay}
use Rattle.pool.proofs.Answers.{no-rule}
use Rattle.pool.proofs.Ruled.{rule-tree}
use Rattle.pool.proofs.Stands.{Stands, Holds, nodes_are, stands_at}
use Rattle.pool.proofs.Held.{slot-is_rec, tree-holds}
use Rattle.splice.proofs.Bares.{start_is}
use Rattle.slots.proofs.Slots.{bare_of_lem}
use Rattle.search.specs.declared.Stop.{Stop}
use Rattle.search.specs.declared.Descent.{Descent}
use Rattle.search.specs.Landing.{Place, PlaceOf}
use Rattle.search.proofs.Places.{plug_stands, plug-nodes, nodes-node}
use Rattle.search.proofs.Answers.{got_at, AtSlot, place-within, get_place, fits_not, fits_well, Known, tree, tree_is, holds, looked-is, place, Arrived, Missed}
use Rattle.tidy.specs.Climb.{Kept, reached, rising, Stage, Climbing, Tidied}
use Rattle.tidy.proofs.Sparse.{Same, stands_sparse}
use Rattle.tidy.proofs.Rise.{parent-below}
use Rattle.tidy.proofs.Stage.{kept_one}
use Rattle.remove.specs.Found.{Exact, Found}

-- The slot is in use, and its number is what the key finds.
exact-slot : (s : Stop) → Exact s → AtSlot s
exact-slot Stop.Root e = tt
exact-slot Stop.Gap e = absurd e
exact-slot Stop.Same e = tt
exact-slot (Stop.Inside m) e = absurd e
exact-slot (Stop.Fork m) e = absurd e

exact-number : (s : Stop) (w : Num) → Exact s → got_at s w ≡ w
unfolding got_at
exact-number Stop.Root w e = refl
exact-number Stop.Gap w e = absurd e
exact-number Stop.Same w e = refl
exact-number (Stop.Inside m) w e = absurd e
exact-number (Stop.Fork m) w e = absurd e

-- A node's record without its number
numberless-node : (s b : ℕ) (l : Key) (w : Num) → numberless (node_bare s b l w) ≡ node_bare s b l none
unfolding keys_w
numberless-node s b l w = refl

numberless-root : (w : Num) → numberless (root_bare w) ≡ root_bare none
unfolding keys_w
numberless-root w = refl

module _ {ws bs : List ℕ} {t : Tree} (h : Holds ws bs t) {vs : List ℕ} {at : ℕ} (a : Altered ws bs vs bs at (numberless (bare_at ws bs at))) where
  kept : Kept ws bs vs bs
  kept = kept_one (sym (start_is ws bs at (bare_at ws bs at) refl)) a

  -- slots behind the key's say what they said
  behind : (c m : ℕ) → at < c → c + m ≤ nodes_of ws → Same ws bs vs bs c m
  behind c m l r =
      let n = h.nodes in
      record { bares = λ i p q. a.filled.others i (λ e. omega arith) (omega (arith, h.room, h.lengths.labels)); spans = a.spans }

  root_bare_lem : bare_at ws bs 0 ≡ root_bare t.num
  root_bare_lem = bare_of_lem ws bs 0 (root_rec t.num (nodes_f t.kids)) h.root

  -- The empty key: the root loses its number, and nothing is to be settled.
  root-stage : at ≡ 0 → Stage ws bs t (erase_t t []) vs bs at
  unfolding erase_t
  root-stage e =
      let n : 1 + nodes_f t.kids ≡ nodes_of ws = omega (arith, h.nodes, nodes_are t) in
      record {
        kept = kept;
        root = ap (bare_at vs bs) (sym e) ∙ a.filled.slot ∙ ap numberless (ap (bare_at ws bs) e ∙ root_bare_lem) ∙ numberless-root t.num;
        way = reached e (rw (← n) (stands_sparse ws bs vs bs 0 t.kids 1 h.kids (behind 1 (nodes_f t.kids) (omega arith) (omega arith))));
      }

  -- Any other: its node is to be settled, without its number.
  node-stage : (x : ℕ) (k : Key) {over above : ℕ} → Place t x k Stop.Same at over above → Stage ws bs t (erase_t t (x ∷ k)) vs bs at
  unfolding erase_t
  node-stage x k p =
      let C = p.context in
      let e = p.ends in
      let f = node p.y p.r e.num e.kids e.rest in
      let is : t.kids ≡ plug C f = p.tree ∙ ap (plug C) e.is in
      let z = nodes-node p.y p.r e.num e.kids e.rest in
      let inside = plug-nodes C f in
      let all : nodes_of ws ≡ suc (nodes_f (plug C f)) = h.nodes ∙ nodes_are t ∙ ap (λ (g : Forest). suc (nodes_f g)) is in
      let ac = p.at-is in
      let st : Stands ws bs 0 (plug C f) 1 = rw is at h.kids in
      let here = stands_at ws bs (depth C) f (sym ac) (plug_stands ws bs C f st) in
      let bare = bare_of_lem ws bs at (node_rec (depth C) p.y p.r e.num (nodes_f e.kids)) here.0 in
      let span : span_of vs at ≡ suc (nodes_f e.kids) = a.spans at ∙ (slot-is_rec ws bs at (node_rec (depth C) p.y p.r e.num (nodes_f e.kids)) here.0).span in
      let q : at + 1 + nodes_f e.kids ≡ at + span_of vs at = omega arith in
      let strips : strip p.r p.r ≡ some [] = ap (strip p.r) (sym (append-nil p.r)) ∙ strip-append p.r [] in
      let gone : erase_f t.kids x k ≡ settled C (settle p.y p.r none e.kids e.rest) =
      ap (λ (g : Forest). erase_f g x k) is ∙ erase-plug C f x k p.y p.r p.leads ∙ ap (settled C) (erase_f-here p.y p.r e.num e.kids e.rest p.y p.r refl strips) in
      record {
        kept = kept;
        root = a.filled.others 0 (λ y. omega (arith, parent-below C)) (omega (arith, h.lengths.labels, h.lengths.least)) ∙ root_bare_lem;
        way =
            rising
            (record {
              context = C;
              b = p.y;
              l = p.r;
              was-num = e.num;
              was = e.kids;
              rest = e.rest;
              tree = is;
              at-is = ac;
              w = none;
              now = e.kids;
              ripe = record {
                slot = a.filled.slot ∙ ap numberless bare ∙ numberless-node (depth C) p.y p.r e.num;
                span = omega arith;
                kids_are = rw (← q) (stands_sparse ws bs vs bs (depth C + suc (length p.r)) e.kids (at + 1) here.1 (behind (at + 1) (nodes_f e.kids) (omega arith) (omega arith)));
              };
              ahead = λ i l r. a.filled.others i (λ y. omega arith) r;
              behind = λ i l r. a.filled.others i (λ y. omega (arith, a.spans at)) r;
              result = sym gone;
            });
      }

  key-stage : (key : Key) (s : Stop) (over above : ℕ) → Exact s → PlaceOf t key s at over above → Stage ws bs t (erase_t t key) vs bs at
  key-stage [] Stop.Root over above e p = root-stage p.at-is
  key-stage [] Stop.Gap over above e p = absurd e
  key-stage [] Stop.Same over above e p = absurd p
  key-stage [] (Stop.Inside m) over above e p = absurd e
  key-stage [] (Stop.Fork m) over above e p = absurd e
  key-stage (x ∷ k) Stop.Root over above e p = absurd p.ends
  key-stage (x ∷ k) Stop.Gap over above e p = absurd e
  key-stage (x ∷ k) Stop.Same over above e p = node-stage x k p
  key-stage (x ∷ k) (Stop.Inside m) over above e p = absurd e
  key-stage (x ∷ k) (Stop.Fork m) over above e p = absurd e

module _ {ws bs : List ℕ} {at looked : ℕ} (x : Found ws bs at looked) where
  found-holds : Holds ws bs x.tree
  found-holds = tree-holds ws bs x.bytes x.tree x.is

  pub found-slot : WordsIn ws at × RoomIn bs at
  found-slot =
      let h = found-holds in
      let l = place-within h x.key x.stop at x.over x.above (exact-slot x.stop x.exact) x.place in
      omega (arith, h.nodes, h.room, h.lengths.words, h.lengths.labels)

  found_number : get_t x.tree x.key ≡ num_at ws at
  found_number = get_place found-holds x.key x.stop at x.over x.above x.place ∙ exact-number x.stop (num_at ws at) x.exact

  -- without its number the pool is to be tidied
  pub found_climbing : (vs : List ℕ) → Altered ws bs vs bs at (numberless (bare_at ws bs at)) → Climbing vs bs at
  found_climbing vs a =
      record {
        words = ws;
        labels = bs;
        whole = x.tree;
        is = x.is;
        bytes = x.bytes;
        final = erase_t x.tree x.key;
        wf = erase-wf x.tree x.key found-holds.wf;
        stage = key-stage found-holds a x.key x.stop x.over x.above x.exact x.place;
      }

  -- what the call tells and leaves
  pub not_stored : none ≡ num_at ws at → Meets (remove_call (pool_tree ws bs) x.key) (refusal_at 3 looked) ws bs ws bs
  unfolding remove_call remove_t if_stored remove_told
  not_stored e =
      rw (x.is, fits_well x.key x.short, remove_call, found_number, ← e, if_stored, remove_told, ← x.looked-is)
      (record { said = refl; words = refl; labels = refl })

  pub stored : (v : ℕ) (vs us ds : List ℕ) → some v ≡ num_at ws at → (a : Altered ws bs vs bs at (numberless (bare_at ws bs at))) → Tidied vs bs us ds (found_climbing vs a).final
      → Meets (remove_call (pool_tree ws bs) x.key) (done (v ∷ looked ∷ [])) ws bs us ds
  unfolding remove_call remove_t if_stored remove_told numbers_w found_climbing
  stored v vs us ds e a d =
      let h = found-holds in
      rw (x.is, fits_well x.key x.short, remove_call, found_number, ← e, if_stored, remove_told, ← x.looked-is)
      (record { said = rw (found_number, ← e) refl; tree = d.tree; slots = slots_stay ws bs us ds h.slots (d.len_w ∙ a.filled.len_w) d.len_b h.lengths })

-- The search has ended at the key's slot, or elsewhere: then no key is there.
pub arrived_exact : {s : Stop} → Arrived s → Exact s
arrived_exact (inl e) = subst Exact (sym e) tt
arrived_exact (inr e) = subst Exact (sym e) tt

missed-nothing : {s : Stop} (w : Num) → Missed s → got_at s w ≡ none
unfolding got_at
missed-nothing w (inl e) = rw e
missed-nothing w (inr (inl e)) = rw e.1
missed-nothing w (inr (inr e)) = rw e.1

module _ {ws bs key : List ℕ} {d : Descent} (w : Known ws bs key d) where
  unfoldable pub found : Arrived d.stop → Found ws bs d.at.0 d.looked.0
  found h =
      record {
        tree = tree w;
        is = tree_is w;
        bytes = w.bytes;
        key = key;
        short = w.short;
        stop = d.stop;
        exact = arrived_exact h;
        over = d.parent.0;
        above = d.above;
        place = place w d.stop refl;
        looked-is = looked-is w;
      }

  pub elsewhere : Missed d.stop → Meets (remove_call (pool_tree ws bs) key) (refusal_at 3 d.looked.0) ws bs ws bs
  unfolding remove_call remove_t if_stored remove_told
  elsewhere h =
      let n = get_place (holds w) key d.stop d.at.0 d.parent.0 d.above (place w d.stop refl) ∙ missed-nothing (num_at ws d.at.0) h in
      rw (tree_is w, fits_well key w.short, remove_call, n, if_stored, remove_told, ← looked-is w)
      (record { said = refl; words = refl; labels = refl })

-- Refusals 1 and 2
module _ (ws bs key : List ℕ) where
  pub remove-refused : (PoolRule ws bs → ⊥) → Meets (remove_call (pool_tree ws bs) key) (refusal 1) ws bs ws bs
  unfolding remove_call
  remove-refused h = rw (no-rule ws bs h) (record { said = refl; words = refl; labels = refl })

  pub remove_long : PoolRule ws bs → ¬ (length key ≤ key_max) → Meets (remove_call (pool_tree ws bs) key) (refusal 2) ws bs ws bs
  unfolding remove_call
  remove_long r h = rw ((rule-tree ws bs r).1, fits_not key h, remove_call) (record { said = refl; words = refl; labels = refl })
