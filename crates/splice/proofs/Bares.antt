-- Bare records and right spans are a tree; a splice of bare records is a step of the tree. Assumes nothing.
use mathlib.Core.Path.{◌≡◌, refl, sym, ap, ◌∙◌}
use mathlib.Core.Logic.{◌⊎◌, inl, inr}
use mathlib.Core.List.{List, [], ◌∷◌, ◌++◌, append_assoc, append-nil}
use mathlib.Core.Option.{some}
use Prim.Native.Nat.{ℕ, suc, ◌+◌, ◌-◌, ◌≤◌, ◌<◌}
use native.Mathlib.Omega.{arith}
use lib.ListN.{length, length-append}
use Rattle.tree.specs.Key.{Key}
use Rattle.tree.specs.Map.{Num}
use Rattle.tree.specs.Tree.{Forest, nil, node, Tree, nodes_f, nodes_t, WellFormed}
use Rattle.tree.specs.Context.{Context, top, down, over, plug, depth, before}
use Rattle.slots.specs.Layout.{nodes_of, start_of, len_of, span_of}
use Rattle.slots.specs.Records.{rec_at, run, node_rec, root_rec}
use Rattle.slots.specs.Bare.{Bare, bare_at, bares_from, node_bare, bares_f, root_bare, bares_t}
use Rattle.splice.specs.Splice.{reach, Linked}
use Rattle.pool.specs.Pool.{pool_tree}
use Rattle.pool.specs.Rule.{Lengths}
use Rattle.slots.proofs.Runs.{run_cons, run_join, run_length, run-whole, run_parts, append_parts}
use Rattle.slots.proofs.Slots.{bare_of_lem}
use Rattle.pool.proofs.Stands.{Stands, Holds, nodes_are}
use Rattle.pool.proofs.Held.{holds-tree}
use Rattle.splice.proofs.Reach.{reach-none, reach-on, reach-stop, reach-at}

pub bares_f-length : (s : ℕ) (f : Forest) → length (bares_f s f) ≡ nodes_f f
unfolding bares_f nodes_f
bares_f-length s nil = refl
bares_f-length s (node b l w kids rest) =
    let k = bares_f-length (s + suc (length l)) kids in
    let r = bares_f-length s rest in
    omega (arith, length-append (bares_f (s + suc (length l)) kids) (bares_f s rest))

-- What a node's bare records say of its parts
pub record NodeBares (ws bs : List ℕ) (s b : ℕ) (l : Key) (w : Num) (kids rest : Forest) (c : ℕ) : Type 0 where
  pub slot : bare_at ws bs c ≡ node_bare s b l w
  pub below : bares_from ws bs (c + 1) (nodes_f kids) ≡ bares_f (s + suc (length l)) kids
  pub beside : bares_from ws bs (c + suc (nodes_f kids)) (nodes_f rest) ≡ bares_f s rest

pub node-bares : (ws bs : List ℕ) (s b : ℕ) (l : Key) (w : Num) (kids rest : Forest) (c : ℕ)
    → bares_from ws bs c (nodes_f (node b l w kids rest)) ≡ bares_f s (node b l w kids rest) → NodeBares ws bs s b l w kids rest c
unfolding nodes_f bares_f
node-bares ws bs s b l w kids rest c e =
    let m = bares_f-length (s + suc (length l)) kids in
    let n = bares_f-length s rest in
    let p = run_parts (bare_at ws bs) c (node_bare s b l w) (bares_f (s + suc (length l)) kids) (bares_f s rest) (rw (m, n) e) in
    record { slot = p.slot; below = rw m at p.below; beside = rw (m, n) at p.beside }

pub start_is : (ws bs : List ℕ) (c : ℕ) (x : Bare) → bare_at ws bs c ≡ x → start_of ws c ≡ x.start
unfolding bare_at
start_is ws bs c x e = ap (λ (y : Bare). y.start) e

pub len_is : (ws bs : List ℕ) (c : ℕ) (x : Bare) → bare_at ws bs c ≡ x → len_of ws c ≡ x.len
unfolding bare_at
len_is ws bs c x e = ap (λ (y : Bare). y.len) e

-- A forest belongs to whatever reaches its path or less.
reach-forest : (ws bs : List ℕ) (n base : ℕ) (f : Forest) (s c : ℕ) → base ≤ s → c + nodes_f f ≤ n → bares_from ws bs c (nodes_f f) ≡ bares_f s f
    → reach ws base c (n - c) ≡ nodes_f f + reach ws base (c + nodes_f f) (n - (c + nodes_f f))
reach-forest ws bs n base nil s c h q e = nil_case
  where
    nil_case : reach ws base c (n - c) ≡ nodes_f nil + reach ws base (c + nodes_f nil) (n - (c + nodes_f nil))
    nil_case =
        let z : nodes_f nil ≡ 0 = unfold nodes_f in refl in
        let r : reach ws base (c + nodes_f nil) (n - (c + nodes_f nil)) ≡ reach ws base c (n - c) = reach-at ws refl (omega arith) (omega arith) in
        omega arith
reach-forest ws bs n base (node b l w kids rest) s c h q e =
    let p = node-bares ws bs s b l w kids rest c e in
    let z : nodes_f (node b l w kids rest) ≡ suc (nodes_f kids + nodes_f rest) = unfold nodes_f in refl in
    let st = start_is ws bs c (node_bare s b l w) p.slot in
    let o : reach ws base c (n - c) ≡ reach ws base c (suc (n - (c + 1))) = reach-at ws refl refl (omega arith) in
    let a = reach-on ws base c (n - (c + 1)) (omega (arith, st)) in
    let a' : reach ws base (suc c) (n - (c + 1)) ≡ reach ws base (c + 1) (n - (c + 1)) = reach-at ws refl (omega arith) refl in
    let k = reach-forest ws bs n base kids (s + suc (length l)) (c + 1) (omega arith) (omega arith) p.below in
    let r = reach-forest ws bs n base rest s (c + suc (nodes_f kids)) h (omega arith) p.beside in
    let m : reach ws base (c + 1 + nodes_f kids) (n - (c + 1 + nodes_f kids)) ≡ reach ws base (c + suc (nodes_f kids)) (n - (c + suc (nodes_f kids))) =
    reach-at ws refl (omega arith) (omega arith) in
    let t : reach ws base (c + suc (nodes_f kids) + nodes_f rest) (n - (c + suc (nodes_f kids) + nodes_f rest))
    ≡ reach ws base (c + nodes_f (node b l w kids rest)) (n - (c + nodes_f (node b l w kids rest))) = reach-at ws refl (omega arith) (omega arith) in
    omega arith

-- Slot e does not belong to what has a path of s bytes and a label: it is behind the last slot, or starts no deeper.
abbrev pub Stops : (ws : List ℕ) (n s e : ℕ) → Type 0
Stops ws n s e = (e ≡ n) ⊎ (start_of ws e ≤ s)

reach_stops : (ws : List ℕ) (n s e base : ℕ) → s < base → Stops ws n s e → reach ws base e (n - e) ≡ 0
reach_stops ws n s e base h (inl q) =
    let z : reach ws base e (n - e) ≡ reach ws base e 0 = reach-at ws refl refl (omega arith) in
    z ∙ reach-none ws base e
reach_stops ws n s e base h (inr q) = reach-stop ws base e (n - e) (omega arith)

-- what comes behind the children of a node
pub stops_beside : (ws bs : List ℕ) (n s e : ℕ) (rest : Forest) → bares_from ws bs e (nodes_f rest) ≡ bares_f s rest → Stops ws n s (e + nodes_f rest) → Stops ws n s e
stops_beside ws bs n s e nil q h =
    let z : nodes_f nil ≡ 0 = unfold nodes_f in refl in
    let g : e + nodes_f nil ≡ e = omega arith in
    rw g at h
stops_beside ws bs n s e (node b l w kids rest) q h =
    let p = node-bares ws bs s b l w kids rest e q in
    inr (omega (arith, start_is ws bs e (node_bare s b l w) p.slot))

pub stops_deeper : (ws : List ℕ) (n s d e : ℕ) → s ≤ d → Stops ws n s e → Stops ws n d e
stops_deeper ws n s d e h (inl q) = inl q
stops_deeper ws n s d e h (inr q) = inr (omega arith)

-- a record by its bare part and its span
with-span : (ws bs : List ℕ) (s b : ℕ) (l : Key) (w : Num) (m c : ℕ) → bare_at ws bs c ≡ node_bare s b l w → span_of ws c ≡ suc m → rec_at ws bs c ≡ node_rec s b l w m
unfolding rec_at bare_at
with-span ws bs s b l w m c e h = λ i.
    record { start = (e i).start; len = (e i).len; has = (e i).has; num = (e i).num; span = h i; label = (e i).label }

-- Bare records with right spans: the forest stands there.
pub bares_stand : (ws bs : List ℕ) (n : ℕ) → Linked ws 0 n → (f : Forest) (s c : ℕ) → bares_from ws bs c (nodes_f f) ≡ bares_f s f → c + nodes_f f ≤ n → Stops ws n s (c + nodes_f f)
    → Stands ws bs s f c
bares_stand ws bs n link nil s c e q h = tt
bares_stand ws bs n link (node b l w kids rest) s c e q h =
    let p = node-bares ws bs s b l w kids rest c e in
    let z : nodes_f (node b l w kids rest) ≡ suc (nodes_f kids + nodes_f rest) = unfold nodes_f in refl in
    let d = s + suc (length l) in
    let g : c + nodes_f (node b l w kids rest) ≡ c + suc (nodes_f kids) + nodes_f rest = omega arith in
    let h' : Stops ws n s (c + suc (nodes_f kids) + nodes_f rest) = rw g at h in
    let st = stops_beside ws bs n s (c + suc (nodes_f kids)) rest p.beside h' in
    let g₂ : c + suc (nodes_f kids) ≡ c + 1 + nodes_f kids = omega arith in
    let st₂ : Stops ws n s (c + 1 + nodes_f kids) = rw g₂ at st in
    let r = reach-forest ws bs n d kids d (c + 1) (omega arith) (omega arith) p.below in
    let o = reach_stops ws n s (c + 1 + nodes_f kids) d (omega arith) st₂ in
    let i = start_is ws bs c (node_bare s b l w) p.slot in
    let j = len_is ws bs c (node_bare s b l w) p.slot in
    let x = link c (omega arith) (omega arith) in
    let y : reach ws (start_of ws c + len_of ws c) (c + 1) (n - (c + 1)) ≡ reach ws d (c + 1) (n - (c + 1)) = reach-at ws (omega arith) refl refl in (
      with-span ws bs s b l w (nodes_f kids) c p.slot (omega arith),
      bares_stand ws bs n link kids d (c + 1) p.below (omega arith) (stops_deeper ws n s d (c + 1 + nodes_f kids) (omega arith) st₂),
      bares_stand ws bs n link rest s (c + suc (nodes_f kids)) p.beside (omega arith) h',
    )

-- The whole pool
pub record Whole (ws bs : List ℕ) (t : Tree) (slots : ℕ) : Type 0 where
  pub lengths : Lengths ws bs slots
  pub nodes : nodes_of ws ≡ nodes_t t
  pub room : nodes_t t ≤ slots
  pub bares : bares_from ws bs 0 (nodes_t t) ≡ bares_t t
  pub links : Linked ws 0 (nodes_t t)
  pub wf : WellFormed t

root-with-span : (ws bs : List ℕ) (w : Num) (m : ℕ) → bare_at ws bs 0 ≡ root_bare w → span_of ws 0 ≡ suc m → rec_at ws bs 0 ≡ root_rec w m
unfolding rec_at bare_at
root-with-span ws bs w m e h = λ i.
    record { start = (e i).start; len = (e i).len; has = (e i).has; num = (e i).num; span = h i; label = (e i).label }

-- the root's bare record, and those of its children
tree-bares : (ws bs : List ℕ) (t : Tree) → bares_from ws bs 0 (nodes_t t) ≡ bares_t t
    → (bare_at ws bs 0 ≡ root_bare t.num) × (bares_from ws bs 1 (nodes_f t.kids) ≡ bares_f 0 t.kids)
unfolding nodes_t bares_t
tree-bares ws bs t e =
    let q : bare_at ws bs 0 ∷ bares_from ws bs 1 (nodes_f t.kids) ≡ root_bare t.num ∷ bares_f 0 t.kids = sym (run_cons (bare_at ws bs) 0 (nodes_f t.kids)) ∙ e in
    (cc, cc)

pub whole-tree : (ws bs : List ℕ) (t : Tree) (slots : ℕ) → Whole ws bs t slots → pool_tree ws bs ≡ some t
whole-tree ws bs t slots h =
    let n = nodes_t t in
    let z = nodes_are t in
    let p = tree-bares ws bs t h.bares in
    let st = start_is ws bs 0 (root_bare t.num) p.0 in
    let le = len_is ws bs 0 (root_bare t.num) p.0 in
    let r = reach-forest ws bs n 0 t.kids 0 1 (omega arith) (omega arith) p.1 in
    let o : reach ws 0 (1 + nodes_f t.kids) (n - (1 + nodes_f t.kids)) ≡ reach ws 0 n 0 = reach-at ws refl (omega arith) (omega arith) in
    let x = h.links 0 (omega arith) (omega arith) in
    let y : reach ws (start_of ws 0 + len_of ws 0) (0 + 1) (n - (0 + 1)) ≡ reach ws 0 1 (n - 1) = reach-at ws (omega arith) (omega arith) (omega arith) in
    holds-tree ws bs t
    (record {
      slots = slots;
      lengths = h.lengths;
      nodes = h.nodes;
      room = h.room;
      root = root-with-span ws bs t.num (nodes_f t.kids) p.0 (omega (arith, reach-none ws 0 n));
      kids = bares_stand ws bs n h.links t.kids 0 1 p.1 (omega arith) (inl (omega arith));
      wf = h.wf;
    })

pub stands_bares : (ws bs : List ℕ) (s : ℕ) (f : Forest) (c : ℕ) → Stands ws bs s f c → bares_from ws bs c (nodes_f f) ≡ bares_f s f
unfolding nodes_f bares_f
stands_bares ws bs s nil c h = unfold run in refl
stands_bares ws bs s (node b l w kids rest) c h =
    let k = stands_bares ws bs (s + suc (length l)) kids (c + 1) h.1 in
    let r = stands_bares ws bs s rest (c + suc (nodes_f kids)) h.2 in
    let m = bares_f-length (s + suc (length l)) kids in
    let n = bares_f-length s rest in
    rw (← m, ← n)
    (run-whole (bare_at ws bs) c (node_bare s b l w) (bares_f (s + suc (length l)) kids) (bares_f s rest)
    (record { slot = bare_of_lem ws bs c (node_rec s b l w (nodes_f kids)) h.0; below = rw m k; beside = rw (m, n) r }))

pub holds-bares : (ws bs : List ℕ) (t : Tree) → Holds ws bs t → bares_from ws bs 0 (nodes_t t) ≡ bares_t t
unfolding nodes_t bares_t
holds-bares ws bs t h =
    run_cons (bare_at ws bs) 0 (nodes_f t.kids) ∙ cc (bare_of_lem ws bs 0 (root_rec t.num (nodes_f t.kids)) h.root, stands_bares ws bs 0 t.kids 1 h.kids)

-- The bare records around a forest
unfoldable pub ahead : Context → List Bare
ahead top = []
ahead (down b l w rest C) = ahead C ++ node_bare (depth C) b l w ∷ []
ahead (over b l w kids C) = ahead C ++ node_bare (depth C) b l w ∷ bares_f (depth C + suc (length l)) kids

unfoldable pub behind : Context → List Bare
behind top = []
behind (down b l w rest C) = bares_f (depth C) rest ++ behind C
behind (over b l w kids C) = behind C

pub bares-plug : (C : Context) (f : Forest) → bares_f 0 (plug C f) ≡ ahead C ++ (bares_f (depth C) f ++ behind C)
unfolding plug ahead behind depth
bares-plug top f = sym (append-nil (bares_f 0 f))
bares-plug (down b l w rest C) f = bares-plug C (node b l w f rest) ∙ unfold bares_f in simp append_assoc
bares-plug (over b l w kids C) f = bares-plug C (node b l w kids f) ∙ unfold bares_f in simp append_assoc

pub ahead-length : (C : Context) → suc (length (ahead C)) ≡ before C
unfolding ahead before
ahead-length top = refl
ahead-length (down b l w rest C) = let k = ahead-length C in omega (arith, length-append (ahead C) (node_bare (depth C) b l w ∷ []))
ahead-length (over b l w kids C) =
    let k = ahead-length C in
    let d = depth C + suc (length l) in
    omega (arith, length-append (ahead C) (node_bare (depth C) b l w ∷ bares_f d kids), bares_f-length d kids)

-- `is` slots from `at` on stand where `was` stood; what is before and what is behind those, up to the n-th, stays.
pub record Spliced (ws bs vs cs : List ℕ) (n at was is : ℕ) : Type 0 where
  pub front : bares_from vs cs 0 at ≡ bares_from ws bs 0 at
  pub back : bares_from vs cs (at + is) (n - (at + was)) ≡ bares_from ws bs (at + was) (n - (at + was))

-- a tree's bare records, with a forest in its place
pub tree_around : (t : Tree) (C : Context) (f : Forest) → t.kids ≡ plug C f → bares_t t ≡ root_bare t.num ∷ ahead C ++ (bares_f (depth C) f ++ behind C)
unfolding bares_t
tree_around t C f e = ap (λ (x : List Bare). root_bare t.num ∷ x) (ap (bares_f 0) e ∙ bares-plug C f)

-- how many there are
nodes_around : (t : Tree) (C : Context) (f : Forest) → t.kids ≡ plug C f → nodes_t t ≡ before C + (nodes_f f + length (behind C))
unfolding nodes_t
nodes_around t C f e =
    let all = ap nodes_f e ∙ sym (bares_f-length 0 (plug C f)) ∙ ap length (bares-plug C f) in
    let a = length-append (ahead C) (bares_f (depth C) f ++ behind C) in
    let b = length-append (bares_f (depth C) f) (behind C) in
    omega (arith, all, a, b, ahead-length C, bares_f-length (depth C) f)

-- The splice of records is the step of the tree.
pub spliced-bares : (ws bs vs cs : List ℕ) (t : Tree) (C : Context) (f g : Forest) → Holds ws bs t → t.kids ≡ plug C f
    → Spliced ws bs vs cs (nodes_t t) (before C) (nodes_f f) (nodes_f g) → bares_from vs cs (before C) (nodes_f g) ≡ bares_f (depth C) g
    → bares_from vs cs 0 (before C + nodes_f g + (nodes_t t - (before C + nodes_f f))) ≡ bares_t (record { num = t.num; kids = plug C g })
spliced-bares ws bs vs cs t C f g h e s mid =
    let at = before C in
    let m = nodes_t t - (at + nodes_f f) in
    let whole = holds-bares ws bs t h ∙ tree_around t C f e in
    let al = ahead-length C in
    let lf = bares_f-length (depth C) f in
    let n : nodes_t t ≡ at + (nodes_f f + m) = omega (arith, nodes_around t C f e) in
    let w₁ : bares_from ws bs 0 at ++ bares_from ws bs (0 + at) (nodes_f f + m) ≡ (root_bare t.num ∷ ahead C) ++ (bares_f (depth C) f ++ behind C) =
    sym (run_join (bare_at ws bs) 0 at (nodes_f f + m)) ∙ ap (λ (x : ℕ). bares_from ws bs 0 x) (sym n) ∙ whole in
    let p = append_parts (bares_from ws bs 0 at) _ (root_bare t.num ∷ ahead C) _ (run_length (bare_at ws bs) 0 at ∙ sym al) w₁ in
    let z : 0 + at ≡ at = omega arith in
    let w₂ : bares_from ws bs at (nodes_f f) ++ bares_from ws bs (at + nodes_f f) m ≡ bares_f (depth C) f ++ behind C =
    sym (run_join (bare_at ws bs) at (nodes_f f) m) ∙ ap (λ (x : ℕ). bares_from ws bs x (nodes_f f + m)) (sym z) ∙ p.1 in
    let q = append_parts (bares_from ws bs at (nodes_f f)) _ (bares_f (depth C) f) _ (run_length (bare_at ws bs) at (nodes_f f) ∙ sym lf) w₂ in
    let j : bares_from vs cs 0 (at + nodes_f g + m) ≡ (bares_from vs cs 0 at ++ bares_from vs cs (0 + at) (nodes_f g)) ++ bares_from vs cs (0 + (at + nodes_f g)) m =
    run_join (bare_at vs cs) 0 (at + nodes_f g) m ∙ ap (λ (x : List Bare). x ++ bares_from vs cs (0 + (at + nodes_f g)) m) (run_join (bare_at vs cs) 0 at (nodes_f g)) in
    let z₂ : 0 + (at + nodes_f g) ≡ at + nodes_f g = omega arith in
    let b = ap (λ (x : ℕ). bares_from vs cs x m) z₂ ∙ s.back ∙ q.1 in
    let k = ap (λ (x : ℕ). bares_from vs cs x (nodes_f g)) z ∙ mid in
    let o = append_assoc (root_bare t.num ∷ ahead C) (bares_f (depth C) g) (behind C) in
    cc (j, s.front, p.0, k, b, o, tree_around (record { num = t.num; kids = plug C g }) C g refl)
