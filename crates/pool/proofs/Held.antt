-- A pool has the tree t exactly where t is well-formed and stands in its slots. Assumes nothing.
use mathlib.Core.Path.{◌≡◌, refl, sym, ap, ◌∙◌, subst}
use mathlib.Core.List.{List, [], ◌∷◌}
use mathlib.Core.Option.{none, some}
use Prim.Native.Nat.{ℕ, zero, suc, ◌+◌, ◌*◌, ◌≤◌}
use native.Mathlib.Nat.{add-zero}
use native.Mathlib.Omega.{arith}
use lib.ListN.{length, get_or, take, drop, length-take, length-drop}
use lib.Seq.{drop-cons, get_or-drop}
use Rattle.tree.specs.Key.{Key, Bytes}
use Rattle.tree.specs.Map.{Num}
use Rattle.tree.specs.Tree.{Forest, nil, node, Tree, Above, Used, Wf, room, nodes_f, keys_w}
use Rattle.slots.specs.Layout.{label_room, bytes_for, RoomIn, nodes_of, start_of, len_of, has_of, number_of, span_of, first_of, label_of, num_of, num_at}
use Rattle.slots.specs.Records.{Rec, rec_at, node_rec, root_rec}
use Rattle.pool.specs.Pool.{joined, forest_at, rooted, pool_tree}
use Rattle.pool.proofs.Decode.{Kid, at-end, at_kid, node_in, ended, begun, found, slots_of_lem, Root, tree_of, treed}
use Rattle.pool.proofs.Stands.{Stands, Holds, nodes_are}

-- Bytes of a part
pub bytes_drop : (n : ℕ) (s : Key) → Bytes s → Bytes (drop n s)
bytes_drop zero s h = h
bytes_drop (suc n) [] h = tt
bytes_drop (suc n) (x ∷ s) h = bytes_drop n s h.1

pub bytes_take : (n : ℕ) (s : Key) → Bytes s → Bytes (take n s)
bytes_take zero s h = tt
bytes_take (suc n) [] h = tt
bytes_take (suc n) (x ∷ s) h = (h.0, bytes_take n s h.1)

-- The label in a slot, where it is not empty and its slot lies within the buffer
pub record Labelled (ws bs : List ℕ) (c : ℕ) : Type 0 where
  pub whole : label_of ws bs c ≡ first_of bs c ∷ drop 1 (label_of ws bs c)
  pub len : len_of ws c ≡ suc (length (drop 1 (label_of ws bs c)))
  pub bytes : Bytes (label_of ws bs c)

label_parts : (m : ℕ) (x : ℕ) (r s : List ℕ) → s ≡ x ∷ r → 1 ≤ m → m ≤ 255 → 254 ≤ length r
    → (take m (take 255 s) ≡ x ∷ drop 1 (take m (take 255 s))) × (m ≡ suc (length (drop 1 (take m (take 255 s)))))
label_parts zero x r s e h i j = absurd (omega arith)
label_parts (suc m) x r s e h i j = rw e (refl, omega (arith, length-take m (take 254 r), length-take 254 r))

pub labelled : (ws bs : List ℕ) (c : ℕ) → Bytes bs → 1 ≤ len_of ws c → len_of ws c ≤ 255 → RoomIn bs c → Labelled ws bs c
labelled ws bs c by h i j =
    let d : drop (bytes_for c) bs ≡ first_of bs c ∷ drop (suc (bytes_for c)) bs = drop-cons bs (bytes_for c) 0 (omega arith) in
    let p = label_parts (len_of ws c) (first_of bs c) (drop (suc (bytes_for c)) bs) (drop (bytes_for c) bs) d h i (simp length-drop (omega arith)) in
    record { whole = p.0; len = p.1; bytes = bytes_take (len_of ws c) (take label_room (drop (bytes_for c) bs)) (bytes_take label_room (drop (bytes_for c) bs) (bytes_drop (bytes_for c) bs by)) }

-- has and number as a number that may be missing, and back
pub num-has : (h v : ℕ) → h ≤ 1 → h ≡ keys_w (num_of h v)
unfolding num_of keys_w
num-has zero v i = refl
num-has (suc h) v i = omega arith

pub used-num : (h v n : ℕ) (f : Forest) → 2 ≤ h + suc n → n ≡ nodes_f f → Used (num_of h v) f
unfolding num_of nodes_f
used-num zero v n nil i e = absurd (omega arith)
used-num zero v n (node b l w kids rest) i e = tt
used-num (suc h) v n f i e = tt

-- the first of a forest begins at x or above
abbrev pub Least : ℕ → Forest → Type 0
Least x nil = Unit {0}
Least x (node b l w kids rest) = x ≤ b

least_above : (b : ℕ) (f : Forest) → Least (b + 1) f → Above b f
least_above b nil h = tt
least_above b (node c l w kids rest) h = omega arith

above-least : (b : ℕ) (f : Forest) → Above b f → Least (b + 1) f
above-least b nil h = tt
above-least b (node c l w kids rest) h = omega arith

pub least_0 : (f : Forest) → Least 0 f
least_0 nil = tt
least_0 (node c l w kids rest) = omega arith

-- What was found stands there and is well-formed.
pub record Standing (ws bs : List ℕ) (s least c e : ℕ) (f : Forest) : Type 0 where
  pub stands : Stands ws bs s f c
  pub ends : c + nodes_f f ≡ e
  pub wf : Wf s f
  pub lowest : Least least f

standing_nil : (ws bs : List ℕ) (s least c e : ℕ) (f : Forest) → c ≡ e → f ≡ nil → Standing ws bs s least c e f
unfolding nodes_f
standing_nil ws bs s least c e f h i =
    subst (λ (g : Forest). Standing ws bs s least c e g) (sym i) (record { stands = tt; ends = omega arith; wf = tt; lowest = tt })

module _ (ws bs : List ℕ) (by : Bytes bs) (s least c e : ℕ) (k : Kid ws bs s least c e) (inside : bytes_for e ≤ length bs) (kids rest : Forest)
    (x : Standing ws bs (s + len_of ws c) 0 (c + 1) (c + span_of ws c) kids) (y : Standing ws bs s (first_of bs c + 1) (c + span_of ws c) e rest) where
  l : Labelled ws bs c
  l = labelled ws bs c by k.some k.short (omega (arith, k.span, k.inside))

  span-is : span_of ws c ≡ suc (nodes_f kids)
  span-is = omega (arith, x.ends)

  below-is : s + len_of ws c ≡ s + suc (length (drop 1 (label_of ws bs c)))
  below-is = omega (arith, l.len)

  beside-is : c + span_of ws c ≡ c + suc (nodes_f kids)
  beside-is = omega (arith, span-is)

  slot_is : rec_at ws bs c ≡ node_rec s (first_of bs c) (drop 1 (label_of ws bs c)) (num_at ws c) (nodes_f kids)
  unfolding rec_at
  slot_is = λ i.
      record {
        start = k.start i;
        len = l.len i;
        has = num-has (has_of ws c) (number_of ws c) k.has i;
        num = num_at ws c;
        span = span-is i;
        label = l.whole i;
      }

  rule-is : Wf s (node_in ws bs c kids rest)
  rule-is =
      let b : Bytes (first_of bs c ∷ drop 1 (label_of ws bs c)) = rw l.whole at l.bytes in
      record {
        byte = b.0;
        bytes = b.1;
        short = unfold room in omega (arith, l.len, k.short);
        deep = omega (arith, l.len, k.deep);
        above = least_above (first_of bs c) rest y.lowest;
        used = used-num (has_of ws c) (number_of ws c) (nodes_f kids) kids (omega (arith, k.used, span-is)) refl;
        wkids = rw below-is at x.wf;
        wrest = y.wf;
      }

  standing_node : Standing ws bs s least c e (node_in ws bs c kids rest)
  unfolding nodes_f
  standing_node =
      record {
        stands = (slot_is, rw below-is at x.stands, rw beside-is at y.stands);
        ends = omega (arith, x.ends, y.ends);
        wf = rule-is;
        lowest = k.order;
      }

pub found_stands : (n : ℕ) (ws bs : List ℕ) → Bytes bs → (s least c e : ℕ) (f : Forest) → bytes_for e ≤ length bs → forest_at n ws bs s least c e ≡ some f
    → Standing ws bs s least c e f
found_stands zero ws bs by s least c e f h q =
    elim (found zero ws bs s least c e f q) [ ended i j ↦ standing_nil ws bs s least c e f i j | begun m z i k ks r p u w ↦ absurd (omega arith) ]
found_stands (suc n) ws bs by s least c e f h q =
    elim (found (suc n) ws bs s least c e f q) [
      | ended i j ↦ standing_nil ws bs s least c e f i j
      | begun m z i k ks r p u w ↦
          let z' : m ≡ n = omega arith in
          let x = found_stands n ws bs by (s + len_of ws c) 0 (c + 1) (c + span_of ws c) ks (omega (arith, k.inside)) (rw z' at p) in
          let y = found_stands n ws bs by s (first_of bs c + 1) (c + span_of ws c) e r h (rw z' at u) in
          subst (λ (g : Forest). Standing ws bs s least c e g) (sym w) (standing_node ws bs by s least c e k h ks r x y)
    ]

-- What a record says of the slot's words and bytes
pub record SlotIs (ws bs : List ℕ) (c : ℕ) (r : Rec) : Type 0 where
  pub start : start_of ws c ≡ r.start
  pub len : len_of ws c ≡ r.len
  pub has : has_of ws c ≡ r.has
  pub num : num_at ws c ≡ r.num
  pub span : span_of ws c ≡ r.span
  pub label : label_of ws bs c ≡ r.label

pub slot-is_rec : (ws bs : List ℕ) (c : ℕ) (r : Rec) → rec_at ws bs c ≡ r → SlotIs ws bs c r
unfolding rec_at
slot-is_rec ws bs c r e =
    record {
      start = ap (λ (x : Rec). x.start) e;
      len = ap (λ (x : Rec). x.len) e;
      has = ap (λ (x : Rec). x.has) e;
      num = ap (λ (x : Rec). x.num) e;
      span = ap (λ (x : Rec). x.span) e;
      label = ap (λ (x : Rec). x.label) e;
    }

pub keys_most : (w : Num) → keys_w w ≤ 1
unfolding keys_w
keys_most none = omega arith
keys_most (some v) = omega arith

used-nodes : (w : Num) (f : Forest) → Used w f → 2 ≤ keys_w w + suc (nodes_f f)
unfolding keys_w nodes_f
used-nodes (some v) f h = omega arith
used-nodes none nil h = absurd h
used-nodes none (node b l w kids rest) h = omega arith

-- the first byte of a slot whose label is b ∷ l
pub first-is : (ws bs : List ℕ) (c b : ℕ) (l : Key) → label_of ws bs c ≡ b ∷ l → first_of bs c ≡ b
first-is ws bs c b l e = ap (λ (x : ℕ). get_or bs x 0) (sym (add-zero (bytes_for c))) ∙ sym (get_or-drop (bytes_for c) bs 0 0) ∙ go (len_of ws c) (drop (bytes_for c) bs) e
  where
    go : (m : ℕ) (r : List ℕ) → take m (take 255 r) ≡ b ∷ l → get_or r 0 0 ≡ b
    go zero r q = cc
    go (suc m) [] q = cc
    go (suc m) (x ∷ r) q = cc

module _ (ws bs : List ℕ) (s b : ℕ) (l : Key) (w : Num) (kids rest : Forest) (c : ℕ) (i : SlotIs ws bs c (node_rec s b l w (nodes_f kids))) where
  pub kid_is : (least e : ℕ) → Wf s (node b l w kids rest) → least ≤ b → c + suc (nodes_f kids) ≤ e → Kid ws bs s least c e
  unfolding room
  kid_is least e h lo q =
      record {
        start = i.start;
        some = omega (arith, i.len);
        short = omega (arith, i.len, h.short);
        deep = omega (arith, i.len, h.deep);
        has = omega (arith, i.has, keys_most w);
        span = omega (arith, i.span);
        inside = omega (arith, i.span);
        used = omega (arith, i.has, i.span, used-nodes w kids h.used);
        order = omega (arith, first-is ws bs c b l i.label);
      }

-- and what stands there is found.
pub stands_found : (f : Forest) (n : ℕ) (ws bs : List ℕ) (s least c : ℕ) → nodes_f f ≤ n → Stands ws bs s f c → Wf s f → Least least f
    → forest_at n ws bs s least c (c + nodes_f f) ≡ some f
stands_found nil n ws bs s least c h st wf lo = unfold nodes_f in at-end ws bs s least c (c + 0) n (omega arith)
stands_found (node b l w kids rest) zero ws bs s least c h st wf lo = absurd (unfold nodes_f in omega arith)
stands_found (node b l w kids rest) (suc n) ws bs s least c h st wf lo =
    let i = slot-is_rec ws bs c (node_rec s b l w (nodes_f kids)) st.0 in
    let x = stands_found kids n ws bs (s + suc (length l)) 0 (c + 1) (few h).0 st.1 wf.wkids (least_0 kids) in
    let y = stands_found rest n ws bs s (b + 1) (c + suc (nodes_f kids)) (few h).1 st.2 wf.wrest (above-least b rest wf.above) in
    found-node i x y
  where
    few : nodes_f (node b l w kids rest) ≤ suc n → (nodes_f kids ≤ n) × (nodes_f rest ≤ n)
    few q = unfold nodes_f in (omega arith, omega arith)

    found-node : SlotIs ws bs c (node_rec s b l w (nodes_f kids)) → forest_at n ws bs (s + suc (length l)) 0 (c + 1) (c + 1 + nodes_f kids) ≡ some kids
        → forest_at n ws bs s (b + 1) (c + suc (nodes_f kids)) (c + suc (nodes_f kids) + nodes_f rest) ≡ some rest
        → forest_at (suc n) ws bs s least c (c + nodes_f (node b l w kids rest)) ≡ some (node b l w kids rest)
    found-node i x y =
        let e = c + nodes_f (node b l w kids rest) in
        let q : c + suc (nodes_f kids) + nodes_f rest ≡ e = unfold nodes_f in omega arith in
        let k = kid_is ws bs s b l w kids rest c i least e wf lo (omega arith) in
        let ks : forest_at n ws bs (s + len_of ws c) 0 (c + 1) (c + span_of ws c) ≡ some kids =
        let a : c + span_of ws c ≡ c + 1 + nodes_f kids = omega (arith, i.span) in
        rw (i.len, a) x in
        let rs : forest_at n ws bs s (first_of bs c + 1) (c + span_of ws c) e ≡ some rest =
        rw (first-is ws bs c b l i.label, i.span, ← q) y in
        at_kid ws bs s least c e n (λ z. omega (arith, q)) k
        ∙ rw (ks, rs, i.label, i.num, first-is ws bs c b l i.label) (unfold joined in refl)

-- The whole pool
pub root_is : (ws bs : List ℕ) (slots n : ℕ) → Root ws slots → nodes_of ws ≡ suc n → rec_at ws bs 0 ≡ root_rec (num_at ws 0) n
unfolding rec_at
root_is ws bs slots n r e =
    let q : span_of ws 0 ≡ suc n = r.span ∙ e in
    let l : label_of ws bs 0 ≡ [] = ap (λ (m : ℕ). take m (take 255 (drop (255 * 0) bs))) r.len in
    λ i.
    record {
      start = r.start i;
      len = r.len i;
      has = num-has (has_of ws 0) (number_of ws 0) r.has i;
      num = num_at ws 0;
      span = q i;
      label = l i;
    }

pub tree-holds : (ws bs : List ℕ) → Bytes bs → (t : Tree) → pool_tree ws bs ≡ some t → Holds ws bs t
tree-holds ws bs by t e =
    let h = treed ws bs t e in
    let r = h.root in
    let x = found_stands (nodes_of ws) ws bs by 0 0 1 (nodes_of ws) t.kids (omega (arith, h.lengths.labels, r.room)) h.kids in
    let n : nodes_of ws ≡ suc (nodes_f t.kids) = omega (arith, x.ends) in
    record {
      slots = h.slots;
      lengths = h.lengths;
      nodes = n ∙ sym (nodes_are t);
      room = omega (arith, nodes_are t, n, r.room);
      root = root_is ws bs h.slots (nodes_f t.kids) r n ∙ ap (λ (w : Num). root_rec w (nodes_f t.kids)) (sym h.num);
      kids = x.stands;
      wf = x.wf;
    }

pub holds-tree : (ws bs : List ℕ) (t : Tree) → Holds ws bs t → pool_tree ws bs ≡ some t
holds-tree ws bs t h =
    let i = slot-is_rec ws bs 0 (root_rec t.num (nodes_f t.kids)) h.root in
    let n : nodes_of ws ≡ suc (nodes_f t.kids) = h.nodes ∙ nodes_are t in
    let m : 1 + nodes_f t.kids ≡ nodes_of ws = omega arith in
    let r : Root ws h.slots =
    record {
      nodes = omega arith;
      room = omega (arith, h.nodes, h.room);
      start = i.start;
      len = i.len;
      has = omega (arith, i.has, keys_most t.num);
      span = omega (arith, i.span);
    } in
    let x = stands_found t.kids (nodes_of ws) ws bs 0 0 1 (omega arith) h.kids h.wf (least_0 t.kids) in
    let x' : forest_at (nodes_of ws) ws bs 0 0 1 (nodes_of ws) ≡ some t.kids = subst (λ (e : ℕ). forest_at (nodes_of ws) ws bs 0 0 1 e ≡ some t.kids) m x in
    tree_of ws bs h.slots (slots_of_lem ws bs h.slots h.lengths) r ∙ rw (x', i.num) (unfold rooted in refl)
