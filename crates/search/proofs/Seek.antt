-- The descent: what its loop keeps, how it goes on, and what each way of ending gives. Assumes nothing.
use mathlib.Core.Path.{◌≡◌, refl, sym, ap, ◌∙◌, subst}
use mathlib.Core.List.{List, [], ◌∷◌, ◌++◌}
use mathlib.Core.Option.{Option, none, some}
use Prim.Native.Nat.{ℕ, suc, ◌+◌, ◌≤◌, ◌<◌}
use native.Mathlib.Omega.{arith}
use lib.ListN.{length, drop, length-append}
use Rattle.tree.specs.Key.{Key, Bytes, part, same}
use Rattle.tree.specs.Map.{Num}
use Rattle.tree.specs.Tree.{Forest, nil, node, Tree, Wf, room, nodes_f}
use Rattle.tree.specs.Search.{Look, in_part, whole, looks_f, looks_t, met, longest_in, longest_t, looked_t}
use Rattle.tree.specs.Context.{Context, top, down, over, plug, depth, Leads, before, parent, passed}
use Rattle.tree.proofs.Parts.{part_same}
use Rattle.tree.proofs.Looks.{looks_lt, looks_same, looks_key_ends, looks_fork}
use Rattle.slots.specs.Layout.{nodes_of, len_of, span_of, label_of, num_at}
use Rattle.pool.specs.Pool.{pool_tree}
use Rattle.slots.specs.Records.{node_rec, root_rec}
use Rattle.pool.specs.Rule.{PoolRule}
use Rattle.pool.proofs.Ruled.{rule-tree}
use Rattle.pool.proofs.Stands.{Stands, Holds, nodes_are, stands_at}
use Rattle.pool.proofs.Held.{SlotIs, slot-is_rec, tree-holds, holds-tree}
use Rattle.search.specs.declared.Meeting.{Meeting}
use Rattle.search.specs.declared.Stop.{Stop}
use Rattle.search.specs.declared.Descent.{Descent}
use Rattle.search.specs.Landing.{InPool, meeting_of, best_of, SameAt, InsideAt, ForkAt, Ends, AtRoot, PlaceOf, Lands}
use Rattle.search.proofs.Meets.{Means, means}
use Rattle.search.proofs.Places.{plug_stands, plug-wf, nodes-node, plug-nodes, leads-drop, leads-length}
use Rattle.search.proofs.Places.{longest-append, passed-before, longest-plug, looked-plug}

-- The search has come to the forest f of the pool's tree, from slot c up to slot e, with p bytes of the key matched above.
pub record Come (ws bs key : List ℕ) (best : Option (ℕ × ℕ)) (looked up c e p : ℕ) (f : Forest) : Type 0 where
  pub tree : Tree
  pub holds : Holds ws bs tree
  pub context : Context
  pub a : ℕ
  pub k : Key
  pub y : ℕ
  pub r : Key
  pub key-is : key ≡ a ∷ k
  pub plugged : tree.kids ≡ plug context f
  pub leads : Leads context a k y r
  pub at-is : c ≡ before context
  pub end_is : e ≡ c + nodes_f f
  pub parent_is : up ≡ parent context
  pub above-is : p ≡ depth context
  pub best-is : best ≡ longest_in (met 0 tree.num none) (passed context)
  pub looked-is : looked ≡ suc (length (passed context))

-- What the loop keeps
pub record Seek (ws bs key : List ℕ) (best : Option (ℕ × ℕ)) (looked up c e p : ℕ) : Type 0 where
  pub forest : Forest
  pub come : Come ws bs key best looked up c e p forest

nodes-nil : nodes_f nil ≡ 0
unfolding nodes_f
nodes-nil = refl

-- One tree
the_tree : {A : Type 0} (x y : A) → some x ≡ some y → x ≡ y
the_tree x y e = cc

-- A key by its first byte
first_of : (key : List ℕ) → (length key ≡ 0 → ⊥) → (a : ℕ) × ((k : Key) × (key ≡ a ∷ k))
first_of [] h = absurd (h refl)
first_of (a ∷ k) h = (a, (k, refl))

module _ (ws bs key : List ℕ) (rule : PoolRule ws bs) (by : Bytes bs) where
  -- the root's number
  root-num : (t : Tree) → Holds ws bs t → num_at ws 0 ≡ t.num
  root-num t h = (slot-is_rec ws bs 0 (root_rec t.num (nodes_f t.kids)) h.root).num

  pub seek_start : (best : Option (ℕ × ℕ)) (n : ℕ) → n ≡ nodes_of ws → best ≡ met 0 (num_at ws 0) none
      → (length key ≡ 0 → ⊥) → Seek ws bs key best 1 0 1 n 0
  unfolding plug before parent depth passed longest_in
  seek_start best n en eb some_left =
      let t = rule-tree ws bs rule in
      let h = tree-holds ws bs by t.0 t.1 in
      let f = first_of key some_left in
      record {
        forest = t.0.kids;
        come =
            record {
              tree = t.0;
              holds = h;
              context = top;
              a = f.0;
              k = f.1.0;
              y = f.0;
              r = f.1.0;
              key-is = f.1.1;
              plugged = refl;
              leads = (refl, refl);
              at-is = refl;
              end_is = omega (arith, h.nodes, nodes_are t.0);
              parent_is = refl;
              above-is = refl;
              best-is = rw (root-num t.0 h) at eb;
              looked-is = refl;
            };
      }

  -- the empty key
  pub lands_root : (d : Descent) → length key ≡ 0 → d.stop ≡ Stop.Root → AtRoot d.at.0 d.parent.0 d.above → best_of d.best ≡ met 0 (num_at ws 0) none
      → d.looked.0 ≡ 1 → (t : Tree) → pool_tree ws bs ≡ some t → Lands t key d
  unfolding longest_t looks_t longest_in looked_t
  lands_root d none_left stop at eb one t e =
      let b : best_of d.best ≡ met 0 t.num none = rw (root-num t (tree-holds ws bs by t e)) at eb in
      go key none_left b
    where
      go : (q : Key) → length q ≡ 0 → best_of d.best ≡ met 0 t.num none → Lands t q d
      go [] h b =
          let there = subst (λ (s : Stop). PlaceOf t [] s d.at.0 d.parent.0 d.above) (sym stop) at in
          record { place = there; best = b; looked = one }
      go (x ∷ q) h b = absurd (omega arith)

-- What stands where the search has come to
module _ {ws bs key : List ℕ} {best : Option (ℕ × ℕ)} {looked up c e p : ℕ} {f : Forest} (w : Come ws bs key best looked up c e p f) where
  come_stands : Stands ws bs (depth w.context) f c
  come_stands = stands_at ws bs (depth w.context) f (sym w.at-is) (plug_stands ws bs w.context f (rw w.plugged at w.holds.kids))

  come_wf : Wf (depth w.context) f
  come_wf = plug-wf w.context f (rw w.plugged at w.holds.wf)

  come_most : e ≤ nodes_of ws
  come_most =
      let n : nodes_f w.tree.kids ≡ nodes_f (plug w.context f) = ap nodes_f w.plugged in
      omega (arith, plug-nodes w.context f, w.at-is, w.end_is, w.holds.nodes, nodes_are w.tree)

  come_left : drop p key ≡ w.y ∷ w.r
  come_left = rw (w.above-is, w.key-is) (leads-drop w.context w.a w.k w.y w.r w.leads)

  come_length : length key ≡ p + suc (length w.r)
  come_length = rw (w.above-is, w.key-is) (leads-length w.context w.a w.k w.y w.r w.leads)

-- The node at slot c, where slots are left
pub record AtNode (ws bs key : List ℕ) (best : Option (ℕ × ℕ)) (looked up c e p : ℕ) : Type 0 where
  pub b : ℕ
  pub l : Key
  pub num : Num
  pub kids : Forest
  pub rest : Forest
  pub come : Come ws bs key best looked up c e p (node b l num kids rest)
  pub slot : SlotIs ws bs c (node_rec (depth come.context) b l num (nodes_f kids))
  pub within : InPool ws bs c
  pub inside : c + suc (nodes_f kids) + nodes_f rest ≡ e
  pub most : e ≤ 16384
  pub left : length key ≡ p + suc (length come.r)
  pub few : looked ≤ c

slot_in : (ws bs : List ℕ) (c m : ℕ) → PoolRule ws bs → c < nodes_of ws → len_of ws c ≡ suc m → m ≤ 254 → InPool ws bs c
slot_in ws bs c m rule i e h =
    record {
      words = omega (arith, rule.lengths.words, rule.room);
      labels = omega (arith, rule.lengths.labels, rule.room);
      some = omega arith;
      short = omega arith;
    }

come_node : {ws bs key : List ℕ} {best : Option (ℕ × ℕ)} {looked up c e p : ℕ} {b : ℕ} {l : Key} {num : Num} {kids rest : Forest} → PoolRule ws bs
    → Come ws bs key best looked up c e p (node b l num kids rest) → AtNode ws bs key best looked up c e p
unfolding room
come_node {ws} {bs} {key} {best} {looked} {up} {c} {e} {p} {b} {l} {num} {kids} {rest} rule w =
    let i = slot-is_rec ws bs c (node_rec (depth w.context) b l num (nodes_f kids)) (come_stands w).0 in
    let n : c + suc (nodes_f kids) + nodes_f rest ≡ e = omega (arith, w.end_is, nodes-node b l num kids rest) in
    record {
      b = b;
      l = l;
      num = num;
      kids = kids;
      rest = rest;
      come = w;
      slot = i;
      within = slot_in ws bs c (length l) rule (omega (arith, come_most w)) i.len (come_wf w).short;
      inside = n;
      most = omega (arith, come_most w, rule.room, rule.lengths.most);
      left = come_length w;
      few = omega (arith, w.looked-is, w.at-is, passed-before w.context);
    }

pub seek_node : {ws bs key : List ℕ} {best : Option (ℕ × ℕ)} {looked up c e p : ℕ} → PoolRule ws bs → c < e
    → Seek ws bs key best looked up c e p → AtNode ws bs key best looked up c e p
seek_node {ws} {bs} {key} {best} {looked} {up} {c} {e} {p} rule h s = go s.forest s.come
  where
    go : (f : Forest) → Come ws bs key best looked up c e p f → AtNode ws bs key best looked up c e p
    go nil w = absurd (omega (arith, w.end_is, nodes-nil))
    go (node b l num kids rest) w = come_node rule w

-- A search that ends at the forest f
lands : {ws bs key : List ℕ} {best : Option (ℕ × ℕ)} {looked e : ℕ} {f : Forest} (d : Descent)
    (w : Come ws bs key best looked d.parent.0 d.at.0 e d.above f)
    → (stop : Stop) → d.stop ≡ stop → Ends stop f w.y w.r
    → best_of d.best ≡ longest_in best (looks_f (depth w.context) f w.y w.r)
    → d.looked.0 ≡ looked + length (looks_f (depth w.context) f w.y w.r)
    → (t : Tree) → pool_tree ws bs ≡ some t → Lands t key d
lands {ws} {bs} {key} {best} {looked} {e} {f} d w stop is ends eb el t q =
    let same-tree : w.tree ≡ t = the_tree w.tree t (sym (holds-tree ws bs w.tree w.holds) ∙ q) in
    let plugged : t.kids ≡ plug w.context f = rw same-tree at w.plugged in
    let best-is : best ≡ longest_in (met 0 t.num none) (passed w.context) = rw same-tree at w.best-is in
    let all = longest-plug t w.context f w.a w.k w.y w.r plugged w.leads in
    let b : best_of d.best ≡ longest_t t (w.a ∷ w.k) = eb ∙ rw best-is (sym all) in
    let n : d.looked.0 ≡ looked_t t (w.a ∷ w.k) =
    omega (arith, el, w.looked-is, looked-plug t w.context f w.a w.k w.y w.r plugged w.leads) in
    subst (λ (q : Key). Lands t q d) (sym w.key-is)
    (record {
      place =
          record {
            context = w.context;
            forest = f;
            y = w.y;
            r = w.r;
            tree = plugged;
            leads = w.leads;
            at-is = w.at-is;
            parent_is = w.parent_is;
            above-is = w.above-is;
            ends = subst (λ (x : Stop). Ends x f w.y w.r) (sym is) ends;
          };
      best = b;
      looked = n;
    })

-- Looks that leave the longest prefix as it is, and one that may not
longest-part : (best : Option (ℕ × ℕ)) (m : ℕ) (ls : List Look) → ls ≡ in_part m ∷ [] → best ≡ longest_in best ls
unfolding longest_in
longest-part best m ls e = rw e

longest-whole : (best : Option (ℕ × ℕ)) (m : ℕ) (w : Num) (ls : List Look) → ls ≡ whole m w ∷ [] → met m w best ≡ longest_in best ls
unfolding longest_in
longest-whole best m w ls e = rw e

-- and how many they are
one_look : (n m : ℕ) (x : Look) (ls : List Look) → ls ≡ x ∷ [] → n ≡ m + 1 → n ≡ m + length ls
one_look n m x ls e h = rw e h

no_look : (n s : ℕ) (y : ℕ) (r : Key) → n ≡ n + length (looks_f s nil y r)
unfolding looks_f
no_look n s y r = omega arith

longest-nil : (best : Option (ℕ × ℕ)) (s : ℕ) (y : ℕ) (r : Key) → best ≡ longest_in best (looks_f s nil y r)
unfolding longest_in looks_f
longest-nil best s y r = refl

-- no slot is left
pub lands_last : {ws bs key : List ℕ} {e : ℕ} (d : Descent)
    → Seek ws bs key (best_of d.best) d.looked.0 d.parent.0 d.at.0 e d.above
    → e ≤ d.at.0 → d.stop ≡ Stop.Gap → (t : Tree) → pool_tree ws bs ≡ some t → Lands t key d
lands_last {ws} {bs} {key} {e} d s h stop = go s.forest s.come
  where
    go : (f : Forest) → Come ws bs key (best_of d.best) d.looked.0 d.parent.0 d.at.0 e d.above f
        → (t : Tree) → pool_tree ws bs ≡ some t → Lands t key d
    go nil w =
        lands d w Stop.Gap stop tt (longest-nil (best_of d.best) (depth w.context) w.y w.r)
        (no_look d.looked.0 (depth w.context) w.y w.r)
    go (node b l num kids rest) w = absurd (omega (arith, w.end_is, nodes-node b l num kids rest))

-- at a node
module _ {ws bs key : List ℕ} {best : Option (ℕ × ℕ)} {looked e : ℕ} (d : Descent)
    (n : AtNode ws bs key best looked d.parent.0 d.at.0 e d.above) (one : d.looked.0 ≡ looked + 1) where
  -- the looks at the node
  seen : List Look
  seen = looks_f (depth n.come.context) (node n.b n.l n.num n.kids n.rest) n.come.y n.come.r

  pub lands_before : best_of d.best ≡ best → n.come.y < n.b → d.stop ≡ Stop.Gap → (t : Tree) → pool_tree ws bs ≡ some t → Lands t key d
  unfolding seen
  lands_before eb h stop =
      let s = depth n.come.context in
      let look = looks_lt s n.b n.l n.num n.kids n.rest n.come.y n.come.r h in
      lands d n.come Stop.Gap stop h (eb ∙ longest-part best _ seen look) (one_look _ _ _ seen look one)

  pub lands_same : best_of d.best ≡ met (length key) (num_at ws d.at.0) best → Means Meeting.Same n.come.y n.come.r n.b n.l → d.stop ≡ Stop.Same
      → (t : Tree) → pool_tree ws bs ≡ some t → Lands t key d
  unfolding seen
  lands_same eb h stop =
      let at : SameAt (node n.b n.l n.num n.kids n.rest) n.come.y n.come.r =
      record { num = n.num; kids = n.kids; rest = n.rest; is = cc (h.0, h.1) } in
      let s = depth n.come.context in
      let m : length key ≡ s + suc (length n.l) = omega (arith, n.left, n.come.above-is, ap length h.1) in
      let q : part n.come.r n.l ≡ same = rw h.1 (part_same n.l) in
      let b : best_of d.best ≡ met (s + suc (length n.l)) n.num best = rw (m, n.slot.num) at eb in
      let look = looks_same s n.b n.l n.num n.kids n.rest n.come.y n.come.r h.0 q in
      lands d n.come Stop.Same stop at (b ∙ longest-whole best _ n.num seen look) (one_look _ _ _ seen look one)

  module _ (m : ℕ) (eb : best_of d.best ≡ best) where
    pub lands_inside : Means (Meeting.Inside m) n.come.y n.come.r n.b n.l → d.stop ≡ Stop.Inside m → (t : Tree) → pool_tree ws bs ≡ some t → Lands t key d
    unfolding seen
    lands_inside h stop =
        let at : InsideAt (node n.b n.l n.num n.kids n.rest) n.come.y n.come.r m =
        record { x = h.x; tail = h.tail; num = n.num; kids = n.kids; rest = n.rest; is = cc (h.first, h.label); bytes = h.bytes } in
        let s = depth n.come.context in
        let look = looks_key_ends s n.b n.l n.num n.kids n.rest n.come.y n.come.r h.x h.tail h.first h.parts in
        lands d n.come (Stop.Inside m) stop at (eb ∙ longest-part best _ seen look) (one_look _ _ _ seen look one)

    pub lands_fork : Means (Meeting.Fork m) n.come.y n.come.r n.b n.l → d.stop ≡ Stop.Fork m → (t : Tree) → pool_tree ws bs ≡ some t → Lands t key d
    unfolding seen
    lands_fork h stop =
        let at : ForkAt (node n.b n.l n.num n.kids n.rest) n.come.y n.come.r m =
        record {
          shared = h.shared;
          z = h.z;
          left = h.left;
          x = h.x;
          tail = h.tail;
          num = n.num;
          kids = n.kids;
          rest = n.rest;
          key = h.key;
          is = cc (h.first, h.label);
          differ = h.differ;
          bytes = h.bytes;
        } in
        let s = depth n.come.context in
        let look = looks_fork s n.b n.l n.num n.kids n.rest n.come.y n.come.r h.shared h.z h.left h.x h.tail h.first h.parts in
        lands d n.come (Stop.Fork m) stop at (eb ∙ longest-part best _ seen look) (one_look _ _ _ seen look one)

-- One node more has been looked at.
counted : {looked : ℕ} (C : Context) (x : Look) → looked ≡ suc (length (passed C))
    → looked + 1 ≡ suc (length (passed C ++ x ∷ []))
counted C x e = omega (arith, length-append (passed C) (x ∷ []))

-- How the search goes on from a node
module _ {ws bs key : List ℕ} {best : Option (ℕ × ℕ)} {looked up c e p : ℕ} (n : AtNode ws bs key best looked up c e p) where
  -- where the code's meeting x is m
  pub node_means : (x m : Meeting) → x ≡ meeting_of (drop p key) (label_of ws bs c) → x ≡ m → Means m n.come.y n.come.r n.b n.l
  node_means x m h i =
      let q : m ≡ meeting_of (n.come.y ∷ n.come.r) (n.b ∷ n.l) = sym i ∙ h ∙ rw (come_left n.come, n.slot.label) in
      subst (λ (x : Meeting). Means x n.come.y n.come.r n.b n.l) (sym q) (means n.come.y n.come.r n.b n.l)

  -- behind a label that matched whole some of the key is left
  pub through_left : (m : ℕ) → Means (Meeting.Through m) n.come.y n.come.r n.b n.l → p + m < length key
  through_left m h = omega (arith, n.left, h.bytes, simp length-append at (ap length h.key))

  module _ (span : ℕ) (span-is : span ≡ span_of ws c) where
    node-span : span ≡ suc (nodes_f n.kids)
    node-span = span-is ∙ n.slot.span

    -- past the node, to its younger siblings
    pub seek_over : n.b < n.come.y → Seek ws bs key best (looked + 1) up (c + span) e p
    unfolding plug before parent depth passed longest_in
    seek_over h =
        let w = n.come in
        record {
          forest = n.rest;
          come =
              record {
                tree = w.tree;
                holds = w.holds;
                context = over n.b n.l n.num n.kids w.context;
                a = w.a;
                k = w.k;
                y = w.y;
                r = w.r;
                key-is = w.key-is;
                plugged = w.plugged;
                leads = (h, w.leads);
                at-is = omega (arith, w.at-is, node-span);
                end_is = omega (arith, n.inside, node-span);
                parent_is = w.parent_is;
                above-is = w.above-is;
                best-is = w.best-is ∙ sym (longest-append (met 0 w.tree.num none) (passed w.context) (in_part (depth w.context) ∷ []));
                looked-is = counted w.context (in_part (depth w.context)) w.looked-is;
              };
        }

    -- through its label, to its children
    pub seek_down : (m : ℕ) → Means (Meeting.Through m) n.come.y n.come.r n.b n.l → (best' : Option (ℕ × ℕ)) → best' ≡ met (p + m) (num_at ws c) best
        → Seek ws bs key best' (looked + 1) c (c + 1) (c + span) (p + m)
    unfolding plug before parent depth passed longest_in
    seek_down m h best' eb =
        let w = n.come in
        let deep : p + m ≡ depth w.context + suc (length n.l) = omega (arith, w.above-is, h.bytes) in
        let way : Leads w.context w.a w.k n.b (n.l ++ h.z ∷ h.left) = rw (h.first, h.key) at w.leads in
        let b : best' ≡ met (depth w.context + suc (length n.l)) n.num best = rw (deep, n.slot.num) at eb in
        record {
          forest = n.kids;
          come =
              record {
                tree = w.tree;
                holds = w.holds;
                context = down n.b n.l n.num n.rest w.context;
                a = w.a;
                k = w.k;
                y = h.z;
                r = h.left;
                key-is = w.key-is;
                plugged = w.plugged;
                leads = way;
                at-is = omega (arith, w.at-is);
                end_is = omega (arith, node-span);
                parent_is = w.at-is;
                above-is = deep;
                best-is =
                    b
                    ∙ ap (met (depth w.context + suc (length n.l)) n.num) w.best-is
                    ∙ sym (longest-append (met 0 w.tree.num none) (passed w.context) (whole (depth w.context + suc (length n.l)) n.num ∷ []));
                looked-is = counted w.context (whole _ n.num) w.looked-is;
              };
        }
