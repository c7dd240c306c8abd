-- What get, longest and shared answer, from where the descent has come to. Assumes nothing.
use mathlib.Core.Path.{◌≡◌, refl, sym, ap, ◌∙◌, subst}
use mathlib.Core.Bool.{true, false}
use mathlib.Core.List.{List, [], ◌∷◌, ◌++◌}
use mathlib.Core.Logic.{◌⊎◌, inl, inr}
use mathlib.Core.Option.{none, some}
use Prim.Native.Nat.{ℕ, suc, ◌+◌, ◌≤◌, ◌<◌}
use native.Mathlib.Omega.{arith}
use lib.ListN.{length, length-append}
use borrow.Author.Tests.{le-leb, lt-leb}
use Rattle.tree.specs.Key.{Key, Bytes, key_max}
use Rattle.tree.specs.Map.{Num}
use Rattle.tree.specs.Tree.{Forest, nil, node, Tree, Above, nodes_f}
use Rattle.tree.specs.Search.{Look, in_part, whole, looks_f, looks_t, longest_t, shared_in, shared_t, get_t, looked_t}
use Rattle.tree.specs.Told.{Told, done, refusal, refusal_at}
use Rattle.tree.specs.Calls.{fits, number_told, get_call, longest_told, longest_call, shared_call}
use Rattle.tree.specs.Context.{depth, plug}
use Rattle.tree.proofs.Parts.{part_same, part-key_ends, part-fork, strip-short, strip-fork}
use Rattle.tree.proofs.Find.{look, find_f, find_t, above-none}
use Rattle.tree.proofs.Looks.{looks_lt, looks_same, looks_key_ends, looks_fork, find_here, find_nothing, get_is_find}
use Rattle.slots.specs.Layout.{WordsIn, nodes_of, num_at}
use Rattle.pool.specs.Pool.{pool_tree}
use Rattle.slots.specs.Records.{node_rec, root_rec}
use Rattle.pool.specs.Rule.{PoolRule}
use Rattle.pool.proofs.Ruled.{rule-tree}
use Rattle.pool.proofs.Answers.{no-rule}
use Rattle.pool.proofs.Stands.{Stands, Holds, nodes_are, stands_at}
use Rattle.pool.proofs.Held.{slot-is_rec, tree-holds}
use Rattle.search.specs.declared.Stop.{Stop}
use Rattle.std.specs.Prelude.{Some}
use Rattle.std.specs.Prelude.{Option as Maybe}
use Rattle.search.specs.declared.Best.{Best}
use Rattle.search.specs.declared.Descent.{Descent}
use Rattle.pool.specs.Lent.{Lent}
use Rattle.search.specs.Landing.{best_of, Ends, Place, PlaceOf, Lands, Descends}
use Rattle.search.proofs.Places.{plug_stands, plug-nodes, nodes-node, leads-length, shared-plug, get_plug}

-- The number that a search ends at, where w is the number of its slot
unfoldable pub got_at : Stop → Num → Num
got_at Stop.Root w = w
got_at Stop.Gap w = none
got_at Stop.Same w = w
got_at (Stop.Inside m) w = none
got_at (Stop.Fork m) w = none

-- How many bytes have matched, of a key of so many, where so many had above
unfoldable pub shared_at : Stop → (above bytes : ℕ) → ℕ
shared_at Stop.Root above n = n
shared_at Stop.Gap above n = above
shared_at Stop.Same above n = n
shared_at (Stop.Inside m) above n = n
shared_at (Stop.Fork m) above n = above + m

-- Every way of ending but a gap is at a slot in use.
abbrev pub AtSlot : Stop → Type 0
AtSlot Stop.Root = Unit {0}
AtSlot Stop.Gap = ⊥
AtSlot Stop.Same = Unit {0}
AtSlot (Stop.Inside m) = Unit {0}
AtSlot (Stop.Fork m) = Unit {0}

-- The first node of a forest, as the ways of ending at one say it
pub record Begins (f : Forest) : Type 0 where
  pub b : ℕ
  pub l : Key
  pub num : Num
  pub kids : Forest
  pub rest : Forest
  pub is : f ≡ node b l num kids rest

pub begins : (s : Stop) (f : Forest) (y : ℕ) (r : Key) → AtSlot s → Ends s f y r → Begins f
begins Stop.Root f y r h e = absurd e
begins Stop.Gap f y r h e = absurd h
begins Stop.Same f y r h e = record { b = y; l = r; num = e.num; kids = e.kids; rest = e.rest; is = e.is }
begins (Stop.Inside m) f y r h e = record { b = y; l = r ++ e.x ∷ e.tail; num = e.num; kids = e.kids; rest = e.rest; is = e.is }
begins (Stop.Fork m) f y r h e = record { b = y; l = e.shared ++ e.x ∷ e.tail; num = e.num; kids = e.kids; rest = e.rest; is = e.is }

module _ {ws bs : List ℕ} {t : Tree} (h : Holds ws bs t) where
  -- the slot is in use
  pub place-within : (key : Key) (s : Stop) (at up above : ℕ) → AtSlot s → PlaceOf t key s at up above → at < nodes_of ws
  place-within [] Stop.Root at up above i p = omega (arith, p, h.nodes, nodes_are t)
  place-within [] Stop.Gap at up above i p = absurd p
  place-within [] Stop.Same at up above i p = absurd p
  place-within [] (Stop.Inside m) at up above i p = absurd p
  place-within [] (Stop.Fork m) at up above i p = absurd p
  place-within (a ∷ k) s at up above i p =
      let f = begins s p.forest p.y p.r i p.ends in
      let n : nodes_f t.kids ≡ nodes_f (plug p.context p.forest) = ap nodes_f p.tree in
      let m : nodes_f p.forest ≡ suc (nodes_f f.kids + nodes_f f.rest) = ap nodes_f f.is ∙ nodes-node f.b f.l f.num f.kids f.rest in
      omega (arith, p.at-is, n, m, plug-nodes p.context p.forest, h.nodes, nodes_are t)

  -- the number of the node that a forest begins with
  slot-num : {a : ℕ} {k : Key} {s : Stop} {at up above : ℕ} (p : Place t a k s at up above) (b : ℕ) (l : Key) (w : Num) (kids rest : Forest)
      → p.forest ≡ node b l w kids rest → num_at ws at ≡ w
  slot-num {a} {k} {s} {at} {up} {above} p b l w kids rest e =
      let st : Stands ws bs 0 (plug p.context (node b l w kids rest)) 1 = rw (p.tree, e) at h.kids in
      let x = stands_at ws bs (depth p.context) (node b l w kids rest) (sym p.at-is) (plug_stands ws bs p.context (node b l w kids rest) st) in
      (slot-is_rec ws bs at (node_rec (depth p.context) b l w (nodes_f kids)) x.0).num

  get_place_cons : (a : ℕ) (k : Key) (s : Stop) (at up above : ℕ) (p : Place t a k s at up above) → find_f p.forest p.y p.r ≡ got_at s (num_at ws at)
  unfolding got_at
  get_place_cons a k Stop.Root at up above p = absurd p.ends
  get_place_cons a k Stop.Gap at up above p = above-none p.y p.forest p.ends p.y p.r (omega arith)
  get_place_cons a k Stop.Same at up above p =
      let e = p.ends in
      rw e.is (find_here p.y p.r e.num e.kids e.rest p.y refl ∙ sym (slot-num p p.y p.r e.num e.kids e.rest e.is))
  get_place_cons a k (Stop.Inside m) at up above p =
      let e = p.ends in
      rw e.is (find_nothing p.y (p.r ++ e.x ∷ e.tail) e.num e.kids e.rest p.y p.r refl (strip-short p.r e.x e.tail))
  get_place_cons a k (Stop.Fork m) at up above p =
      let e = p.ends in
      rw (e.is, e.key)
      (find_nothing p.y (e.shared ++ e.x ∷ e.tail) e.num e.kids e.rest p.y (e.shared ++ e.z ∷ e.left) refl
      (strip-fork e.shared e.x e.tail e.z e.left e.differ))

  pub get_place : (key : Key) (s : Stop) (at up above : ℕ) → PlaceOf t key s at up above → get_t t key ≡ got_at s (num_at ws at)
  unfolding got_at find_t look
  get_place [] Stop.Root at up above p = get_is_find t [] ∙ sym (ap (num_at ws) p.at-is ∙ (slot-is_rec ws bs 0 (root_rec t.num (nodes_f t.kids)) h.root).num)
  get_place [] Stop.Gap at up above p = absurd p
  get_place [] Stop.Same at up above p = absurd p
  get_place [] (Stop.Inside m) at up above p = absurd p
  get_place [] (Stop.Fork m) at up above p = absurd p
  get_place (a ∷ k) s at up above p =
      get_plug t p.context p.forest a k p.y p.r p.tree p.leads ∙ get_place_cons a k s at up above p

-- What a look in a list of one has matched
shared-part : (n m : ℕ) (ls : List Look) → ls ≡ in_part m ∷ [] → shared_in n ls ≡ m
unfolding shared_in
shared-part n m ls e = rw e

shared-whole : (n m : ℕ) (w : Num) (ls : List Look) → ls ≡ whole m w ∷ [] → shared_in n ls ≡ m
unfolding shared_in
shared-whole n m w ls e = rw e

shared-gap : (d : ℕ) (f : Forest) (y : ℕ) (r : Key) → Above y f → shared_in d (looks_f d f y r) ≡ d
unfolding shared_in looks_f
shared-gap d nil y r h = refl
shared-gap d (node b l w kids rest) y r h = shared-part d d _ (looks_lt d b l w kids rest y r h)

module _ (t : Tree) where
  shared-place_cons : (a : ℕ) (k : Key) (s : Stop) (at up above : ℕ) (p : Place t a k s at up above)
      → shared_in (depth p.context) (looks_f (depth p.context) p.forest p.y p.r) ≡ shared_at s above (suc (length k))
  unfolding shared_at
  shared-place_cons a k Stop.Root at up above p = absurd p.ends
  shared-place_cons a k Stop.Gap at up above p = shared-gap (depth p.context) p.forest p.y p.r p.ends ∙ sym p.above-is
  shared-place_cons a k Stop.Same at up above p =
      let e = p.ends in
      let d = depth p.context in
      rw e.is
      (shared-whole d _ e.num _ (looks_same d p.y p.r e.num e.kids e.rest p.y p.r refl (part_same p.r))
      ∙ sym (leads-length p.context a k p.y p.r p.leads))
  shared-place_cons a k (Stop.Inside m) at up above p =
      let e = p.ends in
      let d = depth p.context in
      let l = p.r ++ e.x ∷ e.tail in
      rw e.is
      (shared-part d _ _ (looks_key_ends d p.y l e.num e.kids e.rest p.y p.r e.x e.tail refl (part-key_ends p.r e.x e.tail))
      ∙ sym (leads-length p.context a k p.y p.r p.leads))
  shared-place_cons a k (Stop.Fork m) at up above p =
      let e = p.ends in
      let d = depth p.context in
      let l = e.shared ++ e.x ∷ e.tail in
      let q = e.shared ++ e.z ∷ e.left in
      let parts = part-fork e.shared e.z e.left e.x e.tail e.differ in
      let matched : d + suc (length e.shared) ≡ above + m = omega (arith, p.above-is, e.bytes) in
      rw (e.is, e.key)
      (shared-part d _ _ (looks_fork d p.y l e.num e.kids e.rest p.y q e.shared e.z e.left e.x e.tail refl parts) ∙ matched)

  pub shared-place : (key : Key) (s : Stop) (at up above : ℕ) → PlaceOf t key s at up above → shared_t t key ≡ shared_at s above (length key)
  unfolding shared_at shared_t looks_t shared_in
  shared-place [] Stop.Root at up above p = refl
  shared-place [] Stop.Gap at up above p = absurd p
  shared-place [] Stop.Same at up above p = absurd p
  shared-place [] (Stop.Inside m) at up above p = absurd p
  shared-place [] (Stop.Fork m) at up above p = absurd p
  shared-place (a ∷ k) s at up above p =
      shared-plug t p.context p.forest a k p.y p.r p.tree p.leads ∙ shared-place_cons a k s at up above p

  -- what has matched is part of the key
  pub shared-most : (key : Key) (s : Stop) (at up above : ℕ) → PlaceOf t key s at up above → shared_at s above (length key) ≤ length key
  unfolding shared_at
  shared-most [] Stop.Root at up above p = omega arith
  shared-most [] Stop.Gap at up above p = absurd p
  shared-most [] Stop.Same at up above p = absurd p
  shared-most [] (Stop.Inside m) at up above p = absurd p
  shared-most [] (Stop.Fork m) at up above p = absurd p
  shared-most (a ∷ k) Stop.Root at up above p = omega arith
  shared-most (a ∷ k) Stop.Gap at up above p = omega (arith, p.above-is, leads-length p.context a k p.y p.r p.leads)
  shared-most (a ∷ k) Stop.Same at up above p = omega arith
  shared-most (a ∷ k) (Stop.Inside m) at up above p = omega arith
  shared-most (a ∷ k) (Stop.Fork m) at up above p =
      let e = p.ends in
      let n = simp length-append at (ap length e.key) in
      omega (arith, p.above-is, e.bytes, leads-length p.context a k p.y p.r p.leads)

-- The calls: refusals 1 and 2, and what they come to where both tests pass
pub fits_not : (key : Key) → ¬ (length key ≤ key_max) → fits key ≡ false
unfolding fits key_max
fits_not key h = lt-leb _ _ (omega (arith, h))

pub fits_well : (key : Key) → length key ≤ key_max → fits key ≡ true
unfolding fits
fits_well key h = le-leb _ _ h

module _ (ws bs key : List ℕ) where
  pub get_refused : (PoolRule ws bs → ⊥) → refusal 1 ≡ get_call (pool_tree ws bs) key
  unfolding get_call
  get_refused h = rw (no-rule ws bs h)

  pub longest-refused : (PoolRule ws bs → ⊥) → refusal 1 ≡ longest_call (pool_tree ws bs) key
  unfolding longest_call
  longest-refused h = rw (no-rule ws bs h)

  pub shared-refused : (PoolRule ws bs → ⊥) → refusal 1 ≡ shared_call (pool_tree ws bs) key
  unfolding shared_call
  shared-refused h = rw (no-rule ws bs h)

  module _ (rule : PoolRule ws bs) (long : ¬ (length key ≤ key_max)) where
    pub get_long : refusal 2 ≡ get_call (pool_tree ws bs) key
    unfolding get_call
    get_long = rw ((rule-tree ws bs rule).1, fits_not key long, get_call)

    pub longest_long : refusal 2 ≡ longest_call (pool_tree ws bs) key
    unfolding longest_call
    longest_long = rw ((rule-tree ws bs rule).1, fits_not key long, longest_call)

    pub shared_long : refusal 2 ≡ shared_call (pool_tree ws bs) key
    unfolding shared_call
    shared_long = rw ((rule-tree ws bs rule).1, fits_not key long, shared_call)

-- What a core knows once it has descended
pub record Known (ws bs key : List ℕ) (d : Descent) : Type 0 where
  pub rule : PoolRule ws bs
  pub bytes : Bytes bs
  pub short : length key ≤ key_max
  pub lands : (t : Tree) → pool_tree ws bs ≡ some t → Lands t key d

-- It knows this from what `descend` ensures.
pub knows : {l : Lent} {key : Key} {d : Descent} → Descends l key d → Known l.words l.labels key d
knows w = record { rule = w.whole.rule; bytes = w.whole.bytes; short = w.short; lands = w.lands }

module _ {ws bs key : List ℕ} {d : Descent} (w : Known ws bs key d) where
  -- the pool's tree, and where the search has come to in it, where s is the way of ending
  pub tree : Tree
  tree = (rule-tree ws bs w.rule).0

  pub tree_is : pool_tree ws bs ≡ some tree
  unfolding tree
  tree_is = (rule-tree ws bs w.rule).1

  pub holds : Holds ws bs tree
  holds = tree-holds ws bs w.bytes tree tree_is

  pub place : (s : Stop) → d.stop ≡ s → PlaceOf tree key s d.at.0 d.parent.0 d.above
  place s e = subst (λ (x : Stop). PlaceOf tree key x d.at.0 d.parent.0 d.above) e (w.lands tree tree_is).place

  pub looked-is : d.looked.0 ≡ looked_t tree key
  looked-is = (w.lands tree tree_is).looked

  -- the slot lies within the words
  pub got_slot : (s : Stop) → d.stop ≡ s → AtSlot s → WordsIn ws d.at.0
  got_slot s e i = omega (arith, w.rule, place-within holds key s d.at.0 d.parent.0 d.above i (place s e))

  pub got_is : (s : Stop) → d.stop ≡ s → (told : Told)
      → told ≡ number_told d.looked.0 (got_at s (num_at ws d.at.0))
      → told ≡ get_call (pool_tree ws bs) key
  unfolding get_call
  got_is s e told h =
      let g = get_place holds key s d.at.0 d.parent.0 d.above (place s e) in
      rw (tree_is, fits_well key w.short, get_call, g, ← looked-is) h

  pub longest-is : (b : Maybe Best) → d.best ≡ b → (told : Told) → told ≡ longest_told d.looked.0 (best_of b)
      → told ≡ longest_call (pool_tree ws bs) key
  unfolding longest_call
  longest-is b e told h =
      let g : best_of b ≡ longest_t tree key = ap best_of (sym e) ∙ (w.lands tree tree_is).best in
      rw (tree_is, fits_well key w.short, longest_call, ← g, ← looked-is) h

  pub shared-is : (s : Stop) → d.stop ≡ s → (n : ℕ) → n ≡ shared_at s d.above (length key)
      → done (n ∷ d.looked.0 ∷ []) ≡ shared_call (pool_tree ws bs) key
  unfolding shared_call
  shared-is s e n h =
      let g = shared-place tree key s d.at.0 d.parent.0 d.above (place s e) in
      rw (tree_is, fits_well key w.short, shared_call, g, ← h, ← looked-is)

  -- the sum at a fork fits
  pub shared-within : (s : Stop) → d.stop ≡ s → shared_at s d.above (length key) ≤ length key
  shared-within s e = shared-most tree key s d.at.0 d.parent.0 d.above (place s e)

-- The ways of ending at a node with the whole key, those at the end of the query, and those where nothing is found
abbrev pub Arrived : Stop → Type 0
Arrived s = (s ≡ Stop.Root) ⊎ (s ≡ Stop.Same)

abbrev pub Spent : Stop → Type 0
Spent s = (s ≡ Stop.Root) ⊎ ((s ≡ Stop.Same) ⊎ ((m : ℕ) × (s ≡ Stop.Inside m)))

abbrev pub Missed : Stop → Type 0
Missed s = (s ≡ Stop.Gap) ⊎ (((m : ℕ) × (s ≡ Stop.Inside m)) ⊎ ((m : ℕ) × (s ≡ Stop.Fork m)))

module _ {ws bs key : List ℕ} {d : Descent} (w : Known ws bs key d) where
  pub arrived_slot : Arrived d.stop → WordsIn ws d.at.0
  arrived_slot (inl e) = got_slot w Stop.Root e tt
  arrived_slot (inr e) = got_slot w Stop.Same e tt

  pub arrived_got : Arrived d.stop → (told : Told) → told ≡ number_told d.looked.0 (num_at ws d.at.0) → told ≡ get_call (pool_tree ws bs) key
  unfolding got_at
  arrived_got (inl e) told h = got_is w Stop.Root e told h
  arrived_got (inr e) told h = got_is w Stop.Same e told h

  pub missed_got : Missed d.stop → refusal_at 3 d.looked.0 ≡ get_call (pool_tree ws bs) key
  unfolding got_at number_told
  missed_got (inl e) = got_is w Stop.Gap e _ refl
  missed_got (inr (inl e)) = got_is w (Stop.Inside e.0) e.1 _ refl
  missed_got (inr (inr e)) = got_is w (Stop.Fork e.0) e.1 _ refl

  pub spent_shared : Spent d.stop → done (length key ∷ d.looked.0 ∷ []) ≡ shared_call (pool_tree ws bs) key
  unfolding shared_at
  spent_shared (inl e) = shared-is w Stop.Root e _ refl
  spent_shared (inr (inl e)) = shared-is w Stop.Same e _ refl
  spent_shared (inr (inr e)) = shared-is w (Stop.Inside e.0) e.1 _ refl

  pub best_longest : (b : Best) → d.best ≡ Some b → done (b.length ∷ b.number.0 ∷ d.looked.0 ∷ []) ≡ longest_call (pool_tree ws bs) key
  unfolding longest_told
  best_longest b e = longest-is w (Some b) e _ refl
