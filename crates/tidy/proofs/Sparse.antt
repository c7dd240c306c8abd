-- Siblings among gaps: what they are once the gaps are closed, and the way from one to the next. Assumes nothing.
use mathlib.Core.Path.{◌≡◌, refl, ap, ◌∙◌}
use mathlib.Core.List.{List, [], ◌∷◌, ◌++◌}
use Prim.Native.Nat.{ℕ, suc, ◌+◌, ◌-◌, ◌≤◌, ◌<◌}
use native.Mathlib.Omega.{arith}
use lib.ListN.{length}
use Rattle.tree.specs.Key.{Key}
use Rattle.tree.specs.Map.{Num}
use Rattle.tree.specs.Tree.{Forest, nil, node, nodes_f}
use Rattle.slots.specs.Layout.{len_of, span_of}
use Rattle.slots.specs.Records.{run, node_rec}
use Rattle.slots.specs.Bare.{Bare, bare_at, bares_from, node_bare, bares_f}
use Rattle.splice.specs.Splice.{solid}
use Rattle.slots.proofs.Runs.{run_cons, run_join, run_ext}
use Rattle.pool.proofs.Stands.{Stands}
use Rattle.pool.proofs.Held.{slot-is_rec}
use Rattle.splice.proofs.Bares.{stands_bares, node-bares, len_is}
use Rattle.splice.proofs.Gaps.{solid-append, solid-kept, solid-forest}
use Rattle.tidy.specs.Sparse.{Solid, Sparse, ended, gap, full, Hops, there, hop, Next}

-- Slots one after another, in two parts
pub solid_parts : (ws bs : List ℕ) (c d e : ℕ) → c ≤ d → d ≤ e
    → solid (bares_from ws bs c (e - c)) ≡ solid (bares_from ws bs c (d - c)) ++ solid (bares_from ws bs d (e - d))
solid_parts ws bs c d e h l =
    let m : e - c ≡ d - c + (e - d) = omega arith in
    let a : c + (d - c) ≡ d = omega arith in
    ap (λ (x : ℕ). solid (bares_from ws bs c x)) m
    ∙ ap solid (run_join (bare_at ws bs) c (d - c) (e - d))
    ∙ solid-append (bares_from ws bs c (d - c)) (bares_from ws bs (c + (d - c)) (e - d))
    ∙ ap (λ (x : ℕ). solid (bares_from ws bs c (d - c)) ++ solid (bares_from ws bs x (e - d))) a

-- and a slot before the others
pub solid-first : (ws bs : List ℕ) (c m : ℕ) → 1 ≤ m → solid (bares_from ws bs c m) ≡ solid (bare_at ws bs c ∷ []) ++ solid (bares_from ws bs (c + 1) (m - 1))
solid-first ws bs c m h =
    let x : m ≡ suc (m - 1) = omega arith in
    let a : suc c ≡ c + 1 = omega arith in
    ap (λ (k : ℕ). solid (bares_from ws bs c k)) x
    ∙ ap solid (run_cons (bare_at ws bs) c (m - 1))
    ∙ solid-append (bare_at ws bs c ∷ []) (bares_from ws bs (suc c) (m - 1))
    ∙ ap (λ (k : ℕ). solid (bare_at ws bs c ∷ []) ++ solid (bares_from ws bs k (m - 1))) a

pub solid-none : (ws bs : List ℕ) (c m : ℕ) → m ≡ 0 → solid (bares_from ws bs c m) ≡ []
solid-none ws bs c m e = ap (λ (k : ℕ). solid (bares_from ws bs c k)) e ∙ unfold run solid in refl

-- a node with its children
pub solid-node : {ws bs : List ℕ} {s b : ℕ} {l : Key} {w : Num} {kids : Forest} {c : ℕ} → Solid ws bs s b l w kids c
    → solid (bares_from ws bs c (span_of ws c)) ≡ node_bare s b l w ∷ bares_f (s + suc (length l)) kids
solid-node {ws} {bs} {s} {b} {l} {w} {kids} {c} h =
    let x = node_bare s b l w in
    solid-first ws bs c (span_of ws c) h.span
    ∙ cc (ap (λ (y : Bare). solid (y ∷ [])) h.slot, solid-kept x (λ q. omega arith), h.below)

-- What is no gap is a node.
pub record Begun (ws bs : List ℕ) (s e : ℕ) (f : Forest) (c : ℕ) : Type 0 where
  pub b : ℕ
  pub l : Key
  pub w : Num
  pub kids : Forest
  pub rest : Forest
  pub is : f ≡ node b l w kids rest
  pub first : Solid ws bs s b l w kids c
  pub others : Sparse ws bs s e rest (c + span_of ws c)

module _ {ws bs : List ℕ} {s e : ℕ} where
  pub sparse_within : {f : Forest} {c : ℕ} → Sparse ws bs s e f c → c ≤ e
  sparse_within (ended q) = omega arith
  sparse_within (gap h k) = omega (arith, sparse_within k)
  sparse_within (full h k) = omega (arith, sparse_within k)

  pub sparse_hops : {f : Forest} {c : ℕ} → Sparse ws bs s e f c → Hops ws e c
  sparse_hops (ended q) = there q
  sparse_hops (gap h k) = hop h.span (sparse_hops k)
  sparse_hops (full h k) = hop h.span (sparse_hops k)

  -- With the gaps closed, the forest's records are left.
  pub sparse_solid : {f : Forest} {c : ℕ} → Sparse ws bs s e f c → solid (bares_from ws bs c (e - c)) ≡ bares_f s f
  unfolding bares_f
  sparse_solid {f} {c} (ended q) = solid-none ws bs c (e - c) (omega arith)
  sparse_solid {f} {c} (gap h k) =
      let d = c + span_of ws c in
      let m : d - c ≡ span_of ws c = omega arith in
      solid_parts ws bs c d e (omega arith) (sparse_within k)
      ∙ cc (ap (λ (x : ℕ). solid (bares_from ws bs c x)) m, h.bares, sparse_solid k)
  sparse_solid {f} {c} (full {b} {l} {w} {kids} {rest} h k) =
      let d = c + span_of ws c in
      let m : d - c ≡ span_of ws c = omega arith in
      solid_parts ws bs c d e (omega arith) (sparse_within k)
      ∙ cc (ap (λ (x : ℕ). solid (bares_from ws bs c x)) m, solid-node h, sparse_solid k)

  -- at the end there is nothing
  pub sparse_end : {f : Forest} {c : ℕ} → e ≤ c → Sparse ws bs s e f c → f ≡ nil
  sparse_end l (ended q) = refl
  sparse_end l (gap h k) = absurd (omega (arith, sparse_within k, h.span))
  sparse_end l (full h k) = absurd (omega (arith, sparse_within k, h.span))

  pub sparse_begun : {f : Forest} {c : ℕ} → c < e → (len_of ws c ≡ 0 → ⊥) → Sparse ws bs s e f c → Begun ws bs s e f c
  sparse_begun l ne (ended q) = absurd (omega arith)
  sparse_begun l ne (gap h k) = absurd (ne h.len)
  sparse_begun i ne (full {b} {l} {w} {kids} {rest} h k) = record { b = b; l = l; w = w; kids = kids; rest = rest; is = refl; first = h; others = k }

-- The way from gap to gap
pub record Passed (ws bs : List ℕ) (s e : ℕ) (f : Forest) (from c : ℕ) : Type 0 where
  pub low : from ≤ c
  pub gaps : solid (bares_from ws bs from (c - from)) ≡ []
  pub rest : Sparse ws bs s e f c

abbrev pub Passing : (ws : List ℕ) (e from c : ℕ) → Type 0
Passing ws e from c = (bs : List ℕ) (s : ℕ) (f : Forest) → Sparse ws bs s e f from → Passed ws bs s e f from c

pub pass_none : (ws : List ℕ) (e from : ℕ) → Passing ws e from from
pass_none ws e from bs s f h = record { low = omega arith; gaps = solid-none ws bs from (from - from) (omega arith); rest = h }

pub pass_on : (ws : List ℕ) (e from c m : ℕ) → c < e → len_of ws c ≡ 0 → m ≡ span_of ws c → Passing ws e from c → Passing ws e from (c + m)
pass_on ws e from c m h z i p bs s f k = on (p bs s f k) (p bs s f k).rest
  where
    on : {g : Forest} → Passed ws bs s e f from c → Sparse ws bs s e g c → Passed ws bs s e g from (c + m)
    on q (ended r) = absurd (omega arith)
    on q (gap r n) =
        let w : c + m - c ≡ span_of ws c = omega arith in
        record {
          low = omega (arith, q.low);
          gaps =
              solid_parts ws bs from c (c + m) q.low (omega arith)
              ∙ cc (q.gaps, ap (λ (x : ℕ). solid (bares_from ws bs c x)) w, r.bares);
          rest = rw i n;
        }
    on q (full {b} {l} {w} r n) = absurd (omega (arith, len_is ws bs c (node_bare s b l w) r.slot))

pub hops_on : {ws : List ℕ} {e c m : ℕ} → c < e → m ≡ span_of ws c → Hops ws e c → (1 ≤ m) × Hops ws e (c + m)
hops_on h i (there q) = absurd (omega arith)
hops_on h i (hop p k) = rw i (p, k)

pub hops_within : {ws : List ℕ} {e c : ℕ} → Hops ws e c → c ≤ e
hops_within (there q) = omega arith
hops_within (hop p k) = omega (arith, hops_within k)

pub pass_done : {ws : List ℕ} {e from c : ℕ} → (c < e → len_of ws c ≡ 0 → ⊥) → Passing ws e from c
    → (bs : List ℕ) (s : ℕ) (f : Forest) → Sparse ws bs s e f from → Next ws bs s e f from c
pass_done {ws} {e} {from} {c} h p bs s f k =
    let q = p bs s f k in
    record { low = q.low; passed = q.gaps; rest = q.rest; here = h }

-- A forest that stands, where its slots say what they said
pub record Same (ws bs vs cs : List ℕ) (c m : ℕ) : Type 0 where
  pub bares : (i : ℕ) → c ≤ i → i < c + m → bare_at vs cs i ≡ bare_at ws bs i
  pub spans : (i : ℕ) → span_of vs i ≡ span_of ws i

-- its first node
pub stands_solid : (ws bs vs cs : List ℕ) (s b : ℕ) (l : Key) (w : Num) (kids rest : Forest) (c : ℕ) → Stands ws bs s (node b l w kids rest) c
    → Same ws bs vs cs c (suc (nodes_f kids)) → (span_of vs c ≡ suc (nodes_f kids)) × Solid vs cs s b l w kids c
stands_solid ws bs vs cs s b l w kids rest c h e =
    let r = slot-is_rec ws bs c (node_rec s b l w (nodes_f kids)) h.0 in
    let n = node-bares ws bs s b l w kids rest c (stands_bares ws bs s (node b l w kids rest) c h) in
    let p : span_of vs c ≡ suc (nodes_f kids) = e.spans c ∙ r.span in
    let q : span_of vs c - 1 ≡ nodes_f kids = omega arith in
    let k : bares_from vs cs (c + 1) (nodes_f kids) ≡ bares_from ws bs (c + 1) (nodes_f kids) =
    run_ext (bare_at vs cs) (bare_at ws bs) (c + 1) (c + 1) (nodes_f kids) (λ i l. e.bares (c + 1 + i) (omega arith) (omega arith)) in (
      p,
      record {
        slot = e.bares c (omega arith) (omega arith) ∙ n.slot;
        span = omega arith;
        below = ap (λ (m : ℕ). solid (bares_from vs cs (c + 1) m)) q ∙ ap solid (k ∙ n.below) ∙ solid-forest (s + suc (length l)) kids;
      },
    )

pub stands_sparse : (ws bs vs cs : List ℕ) (s : ℕ) (f : Forest) (c : ℕ) → Stands ws bs s f c → Same ws bs vs cs c (nodes_f f) → Sparse vs cs s (c + nodes_f f) f c
stands_sparse ws bs vs cs s nil c h e =
    let z : nodes_f nil ≡ 0 = unfold nodes_f in refl in
    ended {c = c} (omega arith)
stands_sparse ws bs vs cs s (node b l w kids rest) c h e =
    let z : nodes_f (node b l w kids rest) ≡ suc (nodes_f kids + nodes_f rest) = unfold nodes_f in refl in
    let n = stands_solid ws bs vs cs s b l w kids rest c h (record { bares = λ i a l. e.bares i a (omega arith); spans = e.spans }) in
    let g : c + suc (nodes_f kids) + nodes_f rest ≡ c + nodes_f (node b l w kids rest) = omega arith in
    let beside : Sparse vs cs s (c + nodes_f (node b l w kids rest)) rest (c + span_of vs c) =
    rw (← g, n.0)
    (stands_sparse ws bs vs cs s rest (c + suc (nodes_f kids)) h.2 (record { bares = λ i a l. e.bares i (omega arith) (omega arith); spans = e.spans })) in
    full n.1 beside
