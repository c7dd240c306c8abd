-- What split tells and leaves, from where the search has ended. Assumes nothing.
use mathlib.Core.Path.{◌≡◌, refl, sym, ap, ◌∙◌}
use mathlib.Core.List.{List, [], ◌∷◌, ◌++◌}
use mathlib.Core.Logic.{◌⊎◌, inl, inr}
use mathlib.Core.Option.{none, some}
use Prim.Native.Nat.{ℕ, suc, ◌+◌, ◌≤◌, ◌<◌}
use native.Mathlib.Omega.{arith}
use lib.ListN.{length, length-append}
use borrow.Author.Tests.{le-leb, lt-leb}
use Rattle.tree.specs.Key.{Key, Bytes, key_max, part, fork}
use Rattle.tree.specs.Map.{Num}
use Rattle.tree.specs.Tree.{Forest, nil, node, Tree, empty, Above, Wf, nodes_f, nodes_t, WellFormed}
use Rattle.tree.specs.Split.{detach_f, leave_f, absent, halves, with, split_t}
use Rattle.tree.specs.Told.{Told, done, refusal}
use Rattle.tree.specs.Calls.{split_told, split_call}
use Rattle.tree.specs.Context.{Context, plug, depth, before, parent, settled}
use Rattle.tree.proofs.Parts.{part_same, part-key_ends, part-fork}
use Rattle.tree.proofs.SplitFind.{detach_f_lt, detach_f-same, detach_f-key_ends, detach_f-fork, leave_f-same, leave_f-key_ends}
use Rattle.tree.proofs.SplitWf.{split_wf}
use Rattle.tree.proofs.Context.{detach_plug, leave_plug}
use Rattle.slots.specs.Layout.{WordsIn, nodes_of, start_of, len_of, span_of}
use Rattle.pool.specs.Pool.{pool_tree, slots_of}
use Rattle.pool.specs.Rule.{Lengths, PoolRule}
use Rattle.pool.specs.Fields.{emptied}
use Rattle.pool.proofs.Decode.{slots_of_lem, slots_stay}
use Rattle.pool.proofs.Sums.{emptied-tree, emptied-slots}
use Rattle.pool.proofs.Answers.{no-rule}
use Rattle.pool.proofs.Ruled.{rule-tree}
use Rattle.pool.proofs.Stands.{Stands, Holds, nodes_are, stands_at}
use Rattle.slots.specs.Records.{node_rec}
use Rattle.pool.proofs.Held.{slot-is_rec, tree-holds}
use Rattle.search.specs.declared.Stop.{Stop}
use Rattle.search.specs.declared.Descent.{Descent}
use Rattle.search.specs.Landing.{PlaceOf}
use Rattle.search.proofs.Places.{plug_stands, plug-wf, plug-nodes, nodes-node}
use Rattle.search.proofs.Answers.{fits_not, fits_well, Known, tree, tree_is, place}
use Rattle.tidy.specs.Climb.{Tidied}
use Rattle.split.specs.Lift.{Detached, DetachedBelow}
use Rattle.split.specs.Post.{StayBoth, MeetBoth}
use Rattle.split.specs.Halved.{Landed, Detachable, Leaving}
use Rattle.split.proofs.Trees.{Spot, root_spot, node_spot, spot_detachable, spot_tree, label-tree}

-- Both halves known: whether there is room, and what is then left
module _ (ws bs ws₂ bs₂ : List ℕ) (t : Tree) (p : Key) (d u : Tree) (slots : ℕ) (is : pool_tree ws bs ≡ some t) (short : length p ≤ key_max) (l₂ : Lengths ws₂ bs₂ slots)
    (both : split_t t p ≡ halves d u) where
  pub no_room : slots < nodes_t d → MeetBoth (split_call (pool_tree ws bs) (slots_of ws₂ bs₂) p) (refusal 4) ws bs ws₂ bs₂ ws bs ws₂ bs₂
  unfolding split_call split_told
  no_room h =
      rw (is, slots_of_lem ws₂ bs₂ slots l₂, split_call, fits_well p short, both, split_told, lt-leb (nodes_t d) slots h)
      (record { said = refl; words = refl; labels = refl; words₂ = refl; labels₂ = refl })

  pub divided : (vs cs vs₂ cs₂ : List ℕ) → nodes_t d ≤ slots → pool_tree vs cs ≡ some u → pool_tree vs₂ cs₂ ≡ some d → slots_of vs cs ≡ slots_of ws bs → length vs₂ ≡ length ws₂
      → length cs₂ ≡ length bs₂ → MeetBoth (split_call (pool_tree ws bs) (slots_of ws₂ bs₂) p) (done []) ws bs ws₂ bs₂ vs cs vs₂ cs₂
  unfolding split_call split_told
  divided vs cs vs₂ cs₂ h left right s e f =
      let q = slots_stay ws₂ bs₂ vs₂ cs₂ slots e f l₂ in
      let z = slots_of_lem ws₂ bs₂ slots l₂ in
      rw (is, z, split_call, fits_well p short, both, split_told, le-leb (nodes_t d) slots h) (record { said = refl; tree = left; tree₂ = right; slots = s; slots₂ = q })

split_some : (t : Tree) (a : ℕ) (k : Key) (d : Tree) → detach_f t.kids a k ≡ some d → split_t t (a ∷ k) ≡ halves d (record { num = t.num; kids = leave_f t.kids a k })
unfolding split_t with
split_some t a k d e = rw (e, with)

-- The empty prefix takes the whole tree.
module _ {ws bs ws₂ bs₂ : List ℕ} {slots : ℕ} (x : Landed ws bs Stop.Root 0 0) (l₂ : Lengths ws₂ bs₂ slots) where
  root-holds : Holds ws bs x.tree
  root-holds = tree-holds ws bs x.bytes x.tree x.is

  root-halves : split_t x.tree x.prefix ≡ halves x.tree empty
  root-halves = go x.prefix x.place
    where
      go : (p : Key) → PlaceOf x.tree p Stop.Root 0 0 x.above → split_t x.tree p ≡ halves x.tree empty
      go [] h = unfold split_t in refl
      go (a ∷ k) h = absurd h.ends

  pub root_ready : Detachable ws bs 0
  root_ready = spot_detachable root-holds (root_spot root-holds)

  pub root-nodes : (1 ≤ length ws) × WordsIn ws 0 × (span_of ws 0 ≡ nodes_of ws)
  root-nodes =
      let h = root-holds in
      omega (arith, h.lengths.least, h.lengths.words, (root_spot h).span, h.nodes, nodes_are x.tree)

  pub root-full : slots < nodes_of ws → MeetBoth (split_call (pool_tree ws bs) (slots_of ws₂ bs₂) x.prefix) (refusal 4) ws bs ws₂ bs₂ ws bs ws₂ bs₂
  root-full h = no_room ws bs ws₂ bs₂ x.tree x.prefix x.tree empty slots x.is x.short l₂ root-halves (omega (arith, root-holds.nodes))

  pub root-done : (vs us₂ ds₂ : List ℕ) → nodes_of ws ≤ slots → Detached ws bs ws₂ bs₂ us₂ ds₂ 0 (start_of ws 0 + len_of ws 0) → vs ≡ emptied ws
      → MeetBoth (split_call (pool_tree ws bs) (slots_of ws₂ bs₂) x.prefix) (done []) ws bs ws₂ bs₂ vs bs us₂ ds₂
  root-done vs us₂ ds₂ r d e =
      let h = root-holds in
      let n : nodes_t x.tree ≤ slots = omega (arith, h.nodes) in
      let right = spot_tree h ws₂ bs₂ us₂ ds₂ slots (root_spot h) l₂ (omega (arith, nodes_are x.tree)) h.wf d in
      divided ws bs ws₂ bs₂ x.tree x.prefix x.tree empty slots x.is x.short l₂ root-halves vs bs us₂ ds₂ n
      (ap (λ (v : List ℕ). pool_tree v bs) e ∙ emptied-tree ws bs h.slots h.lengths)
      right
      (ap (λ (v : List ℕ). slots_of v bs) e ∙ emptied-slots ws bs h.slots h.lengths)
      d.len_w
      d.len_b

-- The node where the search has ended, in the tree around it
record Here (ws bs : List ℕ) (t : Tree) (at : ℕ) (C : Context) (b : ℕ) (l : Key) (w : Num) (kids rest : Forest) : Type 0 where
  tree_is : t.kids ≡ plug C (node b l w kids rest)
  at-is : at ≡ before C
  stands : Stands ws bs (depth C) (node b l w kids rest) at
  wf : Wf (depth C) (node b l w kids rest)
  within : at + nodes_f (node b l w kids rest) ≤ nodes_of ws

here : {ws bs : List ℕ} {t : Tree} → Holds ws bs t → (C : Context) (b : ℕ) (l : Key) (w : Num) (kids rest : Forest) {at : ℕ} → t.kids ≡ plug C (node b l w kids rest) → at ≡ before C
    → Here ws bs t at C b l w kids rest
here {ws} {bs} {t} h C b l w kids rest {at} e a =
    let f = node b l w kids rest in
    let st : Stands ws bs 0 (plug C f) 1 = rw e at h.kids in
    let wf : Wf 0 (plug C f) = rw e at h.wf in
    record {
      tree_is = e;
      at-is = a;
      stands = stands_at ws bs (depth C) f (sym a) (plug_stands ws bs C f st);
      wf = plug-wf C f wf;
      within = omega (arith, plug-nodes C f, ap nodes_f e, h.nodes, nodes_are t);
    }

-- what is left when it is cut off
abbrev leaving : {ws bs : List ℕ} {t : Tree} {at over : ℕ} {C : Context} {b : ℕ} {l : Key} {w : Num} {kids rest : Forest} → pool_tree ws bs ≡ some t → Bytes bs
    → Here ws bs t at C b l w kids rest → over ≡ parent C → (u : Tree) → u.num ≡ t.num → settled C rest ≡ u.kids → WellFormed u → Leaving ws bs at over
leaving {ws} {bs} {t} {at} {over} {C} {b} {l} {w} {kids} {rest} is bytes h o u n r wf =
    record {
      tree = t;
      is = is;
      bytes = bytes;
      context = C;
      b = b;
      l = l;
      w = w;
      kids = kids;
      rest = rest;
      place = h.tree_is;
      at-is = h.at-is;
      over-is = o;
      left = u;
      num = n;
      result = r;
      wf = wf;
    }

-- The prefix ends with the label of the node: the node becomes the root.
module _ {ws bs : List ℕ} {at over : ℕ} (x : Landed ws bs Stop.Same at over) where
  same-holds : Holds ws bs x.tree
  same-holds = tree-holds ws bs x.bytes x.tree x.is

  -- what the landing says, for a prefix that is not empty
  record SameLanding : Type 0 where
    num : Num
    kids : Forest
    left : Tree
    spot_depth : ℕ
    spot : Spot ws bs at spot_depth num kids
    both : split_t x.tree x.prefix ≡ halves (record { num = num; kids = kids }) left
    wf : WellFormed (record { num = num; kids = kids })
    leaves : Leaving ws bs at over
    leaves-left : leaves.left ≡ left

  same_landing : SameLanding
  same_landing = go x.prefix refl x.place
    where
      go : (p : Key) → x.prefix ≡ p → PlaceOf x.tree p Stop.Same at over x.above → SameLanding
      go [] e h = absurd h
      go (a ∷ k) e p =
          let C = p.context in
          let n = p.ends in
          let f = node p.y p.r n.num n.kids n.rest in
          let is : x.tree.kids ≡ plug C f = p.tree ∙ ap (plug C) n.is in
          let h = here same-holds C p.y p.r n.num n.kids n.rest is p.at-is in
          let d : Tree = record { num = n.num; kids = n.kids } in
          let u : Tree = record { num = x.tree.num; kids = leave_f x.tree.kids a k } in
          let off : detach_f x.tree.kids a k ≡ some d =
          ap (λ (g : Forest). detach_f g a k) is ∙ detach_plug C f a k p.y p.r p.leads ∙ detach_f-same p.y p.r n.num n.kids n.rest p.y p.r refl (part_same p.r) in
          let rest : leave_f x.tree.kids a k ≡ settled C n.rest =
          ap (λ (g : Forest). leave_f g a k) is ∙ leave_plug C f a k p.y p.r p.leads ∙ ap (settled C) (leave_f-same p.y p.r n.num n.kids n.rest p.y p.r refl (part_same p.r)) in
          let b : split_t x.tree x.prefix ≡ halves d u = ap (split_t x.tree) e ∙ split_some x.tree a k d off in
          let w = split_wf x.tree x.prefix d u same-holds.wf b in
          record {
            num = n.num;
            kids = n.kids;
            left = u;
            spot_depth = depth C + suc (length p.r);
            spot = node_spot same-holds at (depth C) p.y p.r n.num n.kids n.rest h.stands h.wf h.within;
            both = b;
            wf = w.0;
            leaves = leaving x.is x.bytes h p.parent_is u refl (sym rest) w.1;
            leaves-left = refl;
          }

  pub same_ready : Detachable ws bs at
  same_ready = spot_detachable same-holds same_landing.spot

  pub same-slot : WordsIn ws at
  same-slot = omega (arith, same_landing.spot.within, same-holds.nodes, same-holds.room, same-holds.lengths.words)

  pub same-leaves : Leaving ws bs at over
  same-leaves = same_landing.leaves

  module _ {ws₂ bs₂ : List ℕ} {slots : ℕ} (l₂ : Lengths ws₂ bs₂ slots) where
    same_nodes : nodes_t (record { num = same_landing.num; kids = same_landing.kids }) ≡ span_of ws at
    same_nodes = nodes_are (record { num = same_landing.num; kids = same_landing.kids }) ∙ sym same_landing.spot.span

    pub same_full : slots < span_of ws at → MeetBoth (split_call (pool_tree ws bs) (slots_of ws₂ bs₂) x.prefix) (refusal 4) ws bs ws₂ bs₂ ws bs ws₂ bs₂
    same_full h =
        let s = same_landing in
        no_room ws bs ws₂ bs₂ x.tree x.prefix (record { num = s.num; kids = s.kids }) s.left slots x.is x.short l₂ s.both (omega (arith, same_nodes))

    pub same-done : (vs cs us₂ ds₂ : List ℕ) → span_of ws at ≤ slots → Detached ws bs ws₂ bs₂ us₂ ds₂ at (start_of ws at + len_of ws at) → Tidied ws bs vs cs same-leaves.left
        → MeetBoth (split_call (pool_tree ws bs) (slots_of ws₂ bs₂) x.prefix) (done []) ws bs ws₂ bs₂ vs cs us₂ ds₂
    unfolding same-leaves
    same-done vs cs us₂ ds₂ r d l =
        let s = same_landing in
        let h = same-holds in
        divided ws bs ws₂ bs₂ x.tree x.prefix (record { num = s.num; kids = s.kids }) s.left slots x.is x.short l₂ s.both vs cs us₂ ds₂ (omega (arith, same_nodes))
        (l.tree ∙ ap (λ (u : Tree). some u) s.leaves-left)
        (spot_tree h ws₂ bs₂ us₂ ds₂ slots s.spot l₂ (omega (arith, s.spot.span)) s.wf d)
        (slots_stay ws bs vs cs h.slots l.len_w l.len_b h.lengths)
        d.len_w
        d.len_b

-- The prefix ends inside the label: the rest of it stands below an empty root.
module _ {ws bs : List ℕ} {m at over : ℕ} (x : Landed ws bs (Stop.Inside m) at over) where
  inside-holds : Holds ws bs x.tree
  inside-holds = tree-holds ws bs x.bytes x.tree x.is

  record InsideLanding : Type 0 where
    s : ℕ
    b : ℕ
    q : Key
    y : ℕ
    l : Key
    num : Num
    kids : Forest
    rest : Forest
    left : Tree
    stands : Stands ws bs s (node b (q ++ y ∷ l) num kids rest) at
    bytes : m ≡ suc (length q)
    spot : Spot ws bs at (s + suc (length (q ++ y ∷ l))) num kids
    both : split_t x.tree x.prefix ≡ halves (record { num = none; kids = node y l num kids nil }) left
    wf : WellFormed (record { num = none; kids = node y l num kids nil })
    leaves : Leaving ws bs at over
    leaves-left : leaves.left ≡ left

  inside_landing : InsideLanding
  inside_landing = go x.prefix refl x.place
    where
      go : (p : Key) → x.prefix ≡ p → PlaceOf x.tree p (Stop.Inside m) at over x.above → InsideLanding
      go [] e h = absurd h
      go (a ∷ k) e p =
          let C = p.context in
          let n = p.ends in
          let label = p.r ++ n.x ∷ n.tail in
          let f = node p.y label n.num n.kids n.rest in
          let is : x.tree.kids ≡ plug C f = p.tree ∙ ap (plug C) n.is in
          let h = here inside-holds C p.y label n.num n.kids n.rest is p.at-is in
          let d : Tree = record { num = none; kids = node n.x n.tail n.num n.kids nil } in
          let u : Tree = record { num = x.tree.num; kids = leave_f x.tree.kids a k } in
          let ends = part-key_ends p.r n.x n.tail in
          let off : detach_f x.tree.kids a k ≡ some d =
          ap (λ (g : Forest). detach_f g a k) is ∙ detach_plug C f a k p.y p.r p.leads ∙ detach_f-key_ends p.y label n.num n.kids n.rest p.y p.r n.x n.tail refl ends in
          let rest : leave_f x.tree.kids a k ≡ settled C n.rest =
          ap (λ (g : Forest). leave_f g a k) is ∙ leave_plug C f a k p.y p.r p.leads ∙ ap (settled C) (leave_f-key_ends p.y label n.num n.kids n.rest p.y p.r n.x n.tail refl ends) in
          let b : split_t x.tree x.prefix ≡ halves d u = ap (split_t x.tree) e ∙ split_some x.tree a k d off in
          let w = split_wf x.tree x.prefix d u inside-holds.wf b in
          record {
            s = depth C;
            b = p.y;
            q = p.r;
            y = n.x;
            l = n.tail;
            num = n.num;
            kids = n.kids;
            rest = n.rest;
            left = u;
            stands = h.stands;
            bytes = n.bytes;
            spot = node_spot inside-holds at (depth C) p.y label n.num n.kids n.rest h.stands h.wf h.within;
            both = b;
            wf = w.0;
            leaves = leaving x.is x.bytes h p.parent_is u refl (sym rest) w.1;
            leaves-left = refl {a = u};
          }

  pub inside_ready : Detachable ws bs at × (m ≤ len_of ws at)
  inside_ready =
      let s = inside_landing in (
        spot_detachable inside-holds s.spot,
        omega (arith, s.bytes, (slot-is_rec ws bs at (node_rec s.s s.b (s.q ++ s.y ∷ s.l) s.num (nodes_f s.kids)) s.stands.0).len, length-append s.q (s.y ∷ s.l)),
      )

  pub inside-slot : WordsIn ws at
  inside-slot = omega (arith, inside_landing.spot.within, inside-holds.nodes, inside-holds.room, inside-holds.lengths.words)

  pub inside-leaves : Leaving ws bs at over
  inside-leaves = inside_landing.leaves

  module _ {ws₂ bs₂ : List ℕ} {slots : ℕ} (l₂ : Lengths ws₂ bs₂ slots) where
    abbrev below : Tree
    below = record { num = none; kids = node inside_landing.y inside_landing.l inside_landing.num inside_landing.kids nil }

    inside-nodes : nodes_t below ≡ span_of ws at + 1
    inside-nodes =
        let s = inside_landing in
        let n : nodes_f nil ≡ 0 = unfold nodes_f in refl in
        omega (arith, nodes_are below, nodes-node s.y s.l s.num s.kids nil, s.spot.span)

    pub inside-full : slots < span_of ws at + 1 → MeetBoth (split_call (pool_tree ws bs) (slots_of ws₂ bs₂) x.prefix) (refusal 4) ws bs ws₂ bs₂ ws bs ws₂ bs₂
    inside-full h =
        no_room ws bs ws₂ bs₂ x.tree x.prefix below inside_landing.left slots x.is x.short l₂ inside_landing.both (omega (arith, inside-nodes))

    pub inside-done : (vs cs us₂ ds₂ : List ℕ) → span_of ws at + 1 ≤ slots → DetachedBelow ws bs ws₂ bs₂ us₂ ds₂ at m (start_of ws at + m) → Tidied ws bs vs cs inside-leaves.left
        → MeetBoth (split_call (pool_tree ws bs) (slots_of ws₂ bs₂) x.prefix) (done []) ws bs ws₂ bs₂ vs cs us₂ ds₂
    unfolding inside-leaves
    inside-done vs cs us₂ ds₂ r d l =
        let s = inside_landing in
        let h = inside-holds in
        divided ws bs ws₂ bs₂ x.tree x.prefix below s.left slots x.is x.short l₂ s.both vs cs us₂ ds₂ (omega (arith, inside-nodes))
        (l.tree ∙ ap (λ (u : Tree). some u) s.leaves-left)
        (label-tree h ws₂ bs₂ us₂ ds₂ slots at s.s s.b s.q s.y s.l s.num s.kids s.rest m s.bytes s.stands l₂ (omega (arith, s.spot.span)) s.wf d)
        (slots_stay ws bs vs cs h.slots l.len_w l.len_b h.lengths)
        d.len_w
        d.len_b

-- The search has ended elsewhere: no stored key starts with the prefix.
split_none : (t : Tree) (a : ℕ) (k : Key) → detach_f t.kids a k ≡ none → split_t t (a ∷ k) ≡ absent
unfolding split_t with
split_none t a k e = rw (e, with)

detach_above : (f : Forest) (y : ℕ) (r : Key) → Above y f → detach_f f y r ≡ none
detach_above nil y r h = unfold detach_f in refl
detach_above (node b l w kids rest) y r h = detach_f_lt b l w kids rest y r h

not_found : (ws bs ws₂ bs₂ : List ℕ) (t : Tree) (p : Key) (slots : ℕ) → pool_tree ws bs ≡ some t → length p ≤ key_max → Lengths ws₂ bs₂ slots → split_t t p ≡ absent
    → MeetBoth (split_call (pool_tree ws bs) (slots_of ws₂ bs₂) p) (refusal 3) ws bs ws₂ bs₂ ws bs ws₂ bs₂
unfolding split_call split_told
not_found ws bs ws₂ bs₂ t p slots is short l₂ e =
    rw (is, slots_of_lem ws₂ bs₂ slots l₂, split_call, fits_well p short, e, split_told) (record { said = refl; words = refl; labels = refl; words₂ = refl; labels₂ = refl })

module _ {ws bs key : List ℕ} {d : Descent} (w : Known ws bs key d) {ws₂ bs₂ : List ℕ} {slots : ℕ} (l₂ : Lengths ws₂ bs₂ slots) where
  gap-absent : d.stop ≡ Stop.Gap → MeetBoth (split_call (pool_tree ws bs) (slots_of ws₂ bs₂) key) (refusal 3) ws bs ws₂ bs₂ ws bs ws₂ bs₂
  gap-absent e = not_found ws bs ws₂ bs₂ (tree w) key slots (tree_is w) w.short l₂ (go key (place w Stop.Gap e))
    where
      go : (q : Key) → PlaceOf (tree w) q Stop.Gap d.at.0 d.parent.0 d.above → split_t (tree w) q ≡ absent
      go [] p = absurd p
      go (a ∷ k) p =
          split_none (tree w) a k
          (ap (λ (g : Forest). detach_f g a k) p.tree ∙ detach_plug p.context p.forest a k p.y p.r p.leads ∙ detach_above p.forest p.y p.r p.ends)

  fork-absent : (m : ℕ) → d.stop ≡ Stop.Fork m → MeetBoth (split_call (pool_tree ws bs) (slots_of ws₂ bs₂) key) (refusal 3) ws bs ws₂ bs₂ ws bs ws₂ bs₂
  fork-absent m e = not_found ws bs ws₂ bs₂ (tree w) key slots (tree_is w) w.short l₂ (go key (place w (Stop.Fork m) e))
    where
      go : (q : Key) → PlaceOf (tree w) q (Stop.Fork m) d.at.0 d.parent.0 d.above → split_t (tree w) q ≡ absent
      go [] p = absurd p
      go (a ∷ k) p =
          let n = p.ends in
          let f = node p.y (n.shared ++ n.x ∷ n.tail) n.num n.kids n.rest in
          let parts : part p.r (n.shared ++ n.x ∷ n.tail) ≡ fork n.shared n.z n.left n.x n.tail =
          ap (λ (r : Key). part r (n.shared ++ n.x ∷ n.tail)) n.key ∙ part-fork n.shared n.z n.left n.x n.tail n.differ in
          split_none (tree w) a k
          (ap (λ (g : Forest). detach_f g a k) (p.tree ∙ ap (plug p.context) n.is)
          ∙ detach_plug p.context f a k p.y p.r p.leads
          ∙ detach_f-fork p.y (n.shared ++ n.x ∷ n.tail) n.num n.kids n.rest p.y p.r n.shared n.z n.left n.x n.tail refl parts)

  pub absent_told : (d.stop ≡ Stop.Gap) ⊎ ((m : ℕ) × (d.stop ≡ Stop.Fork m)) → MeetBoth (split_call (pool_tree ws bs) (slots_of ws₂ bs₂) key) (refusal 3) ws bs ws₂ bs₂ ws bs ws₂ bs₂
  absent_told (inl e) = gap-absent e
  absent_told (inr e) = fork-absent e.0 e.1

-- Where the search has ended
module _ {ws bs key : List ℕ} {d : Descent} (w : Known ws bs key d) where
  -- a place that the search has come to, as the code is handed it
  abbrev landing : (s : Stop) (at over : ℕ) → PlaceOf (tree w) key s at over d.above → Landed ws bs s at over
  landing s at over p =
      record { tree = tree w; is = tree_is w; bytes = w.bytes; prefix = key; short = w.short; above = d.above; place = p }

  unfoldable pub landed : (s : Stop) → d.stop ≡ s → Landed ws bs s d.at.0 d.parent.0
  landed s e = landing s d.at.0 d.parent.0 (place w s e)

  pub root-place : (q : Key) → PlaceOf (tree w) q Stop.Root d.at.0 d.parent.0 d.above → PlaceOf (tree w) q Stop.Root 0 0 d.above
  root-place [] p = record { at-is = refl; parent_is = refl; above-is = p.above-is }
  root-place (a ∷ k) p = absurd p.ends

  unfoldable pub landed_root : d.stop ≡ Stop.Root → Landed ws bs Stop.Root 0 0
  landed_root e = landing Stop.Root 0 0 (root-place key (place w Stop.Root e))

-- Refusals 1 and 2: the first pool, the second pool's lengths, the prefix
module _ (ws bs ws₂ bs₂ key : List ℕ) where
  unchanged : (x : Told) → StayBoth x x ws bs ws₂ bs₂ ws bs ws₂ bs₂
  unchanged x = record { said = refl; words = refl; labels = refl; words₂ = refl; labels₂ = refl }

  pub first-refused : (PoolRule ws bs → ⊥) → MeetBoth (split_call (pool_tree ws bs) (slots_of ws₂ bs₂) key) (refusal 1) ws bs ws₂ bs₂ ws bs ws₂ bs₂
  unfolding split_call
  first-refused h = rw (no-rule ws bs h) (unchanged (refusal 1))

  pub second-refused : PoolRule ws bs → none ≡ slots_of ws₂ bs₂ → MeetBoth (split_call (pool_tree ws bs) (slots_of ws₂ bs₂) key) (refusal 1) ws bs ws₂ bs₂ ws bs ws₂ bs₂
  unfolding split_call
  second-refused r e = rw ((rule-tree ws bs r).1, ← e, split_call) (unchanged (refusal 1))

  pub prefix_long : (slots : ℕ) → PoolRule ws bs → some slots ≡ slots_of ws₂ bs₂ → ¬ (length key ≤ key_max)
      → MeetBoth (split_call (pool_tree ws bs) (slots_of ws₂ bs₂) key) (refusal 2) ws bs ws₂ bs₂ ws bs ws₂ bs₂
  unfolding split_call
  prefix_long slots r e h = rw ((rule-tree ws bs r).1, ← e, split_call, fits_not key h) (unchanged (refusal 2))
