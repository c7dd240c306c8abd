-- A node settled in its slot, in each of the ways that the code tells apart. Assumes nothing.
use mathlib.Core.Path.{◌≡◌, refl, sym, ap, ◌∙◌}
use mathlib.Core.List.{List, ◌∷◌, ◌++◌, append-nil}
use mathlib.Core.Option.{none, some}
use Prim.Native.Nat.{ℕ, suc, ◌+◌, ◌-◌, ◌≤◌, ◌<◌}
use native.Mathlib.Omega.{arith}
use lib.ListN.{length, length-append}
use borrow.Author.Tests.{le-leb, lt-leb}
use Rattle.tree.specs.Key.{Key, pick}
use Rattle.tree.specs.Map.{Num}
use Rattle.tree.specs.Tree.{Forest, nil, node, room, keys_w}
use Rattle.tree.specs.Remove.{joins, settle}
use Rattle.tree.specs.declared.Slot.{Slot}
use Rattle.label.proofs.Moves.{by_eq}
use Rattle.slots.specs.Layout.{bytes_for, start_of, len_of, has_of, span_of}
use Rattle.slots.specs.Bare.{Bare, bare_at, bares_from, node_bare, bares_f}
use Rattle.splice.specs.Splice.{solid}
use Rattle.splice.specs.Altered.{gap_of, join_of, Altered}
use Rattle.slots.proofs.Runs.{run_ext}
use Rattle.splice.proofs.Gaps.{solid-gap}
use Rattle.splice.proofs.Bares.{start_is, len_is}
use Rattle.tidy.specs.Sparse.{Hollow, Solid, Sparse, gap, full, Hops, Next, Ripe, Ready, Childless, OnlyChild, Several, KidsAre, Below, Inside, NodeSettled}
use Rattle.tidy.specs.declared.Kids.{Kids}
use Rattle.tidy.proofs.Sparse.{solid_parts, solid-first, sparse_within, sparse_solid, sparse_end, Begun, sparse_begun, hops_on}

has-is : (ws bs : List ℕ) (c : ℕ) (x : Bare) → bare_at ws bs c ≡ x → has_of ws c ≡ x.has
unfolding bare_at
has-is ws bs c x e = ap (λ (y : Bare). y.has) e

-- Nothing is written.
inside-none : (ws bs : List ℕ) (c : ℕ) → Inside ws bs ws bs c
inside-none ws bs c =
    record {
      len_w = refl;
      len_b = refl;
      head = λ j h. refl;
      starts = λ i r. refl;
      spans = λ i. refl;
      before = λ i l r. refl;
      behind = λ i l r. refl;
    }

-- One slot of the span is altered, and keeps its start.
inside_one : {ws bs vs cs : List ℕ} {c at : ℕ} {x : Bare} → c ≤ at → at < c + span_of ws c → x.start ≡ start_of ws at → Altered ws bs vs cs at x → Inside ws bs vs cs c
inside_one {ws} {bs} {vs} {cs} {c} {at} {x} l h s a =
    let f = a.filled in
    record {
      len_w = f.len_w;
      len_b = f.len_b;
      head = f.head;
      starts = λ i r.
          by_eq i at
          (λ e. rw e (start_is vs cs at x f.slot ∙ s))
          (λ ne. start_is vs cs i (bare_at ws bs i) (f.others i ne r) ∙ sym (start_is ws bs i (bare_at ws bs i) refl) ∙ refl);
      spans = a.spans;
      before = λ i b r. f.others i (λ e. omega arith) r;
      behind = λ i b r. f.others i (λ e. omega arith) r;
    }

inside_then : {ws bs vs cs us ds : List ℕ} {c : ℕ} → Inside ws bs vs cs c → Inside vs cs us ds c → Inside ws bs us ds c
inside_then {ws} {bs} {vs} {cs} {us} {ds} {c} p q =
    let lb = p.len_b in
    let sp = p.spans c in
    record {
      len_w = q.len_w ∙ p.len_w;
      len_b = q.len_b ∙ p.len_b;
      head = λ j h. q.head j h ∙ p.head j h;
      starts = λ i r. q.starts i (omega arith) ∙ p.starts i r;
      spans = λ i. q.spans i ∙ p.spans i;
      before = λ i l r. q.before i l (omega arith) ∙ p.before i l r;
      behind = λ i l r. q.behind i (omega arith) (omega arith) ∙ p.behind i l r;
    }

-- The node stays as it is.
ripe-solid : {ws bs : List ℕ} {c s b : ℕ} {l : Key} {w : Num} {kids : Forest} → Ripe ws bs c s b l w kids → Solid ws bs s b l w kids c
ripe-solid {ws} {bs} {c} r =
    let m : c + span_of ws c - (c + 1) ≡ span_of ws c - 1 = omega arith in
    record { slot = r.slot; span = r.span; below = ap (λ (x : ℕ). solid (bares_from ws bs (c + 1) x)) (sym m) ∙ sparse_solid r.kids_are }

stays : {ws bs : List ℕ} {c s b : ℕ} {l : Key} {w : Num} {kids : Forest} → Ripe ws bs c s b l w kids
    → ((rest : Forest) → settle b l w kids rest ≡ node b l w kids rest) → NodeSettled ws bs ws bs c s b l w kids
stays {ws} {bs} {c} r same = record { inside = inside-none ws bs c; siblings = λ e rest k. rw (same rest) (full (ripe-solid r) k) }

-- A node without a number, by what its slot says
none_is : (w : Num) → keys_w w ≡ 0 → w ≡ none
unfolding keys_w
none_is none e = refl
none_is (some v) e = absurd (omega arith)

settle-some : (w : Num) → 0 < keys_w w → (b : ℕ) (l : Key) (kids rest : Forest) → settle b l w kids rest ≡ node b l w kids rest
unfolding keys_w settle
settle-some none h b l kids rest = absurd (omega arith)
settle-some (some v) h b l kids rest = refl

-- A number keeps the node.
pub numbered_stays : {ws bs : List ℕ} {c s b : ℕ} {l : Key} {w : Num} {kids : Forest} → 0 < has_of ws c → Ripe ws bs c s b l w kids → NodeSettled ws bs ws bs c s b l w kids
numbered_stays {ws} {bs} {c} {s} {b} {l} {w} {kids} h r = stays r (settle-some w (omega (arith, has-is ws bs c (node_bare s b l w) r.slot)) b l kids)

-- What the search for a child tells
abbrev pub Finds : (ws : List ℕ) (e from r : ℕ) → Type 0
Finds ws e from r = (bs : List ℕ) (s : ℕ) (f : Forest) → Sparse ws bs s e f from → Next ws bs s e f from r

-- Nothing of a node, and a node taken in
settle-nil : (b : ℕ) (l : Key) (rest : Forest) → settle b l none nil rest ≡ rest
unfolding settle
settle-nil b l rest = refl

settle_two : (b : ℕ) (l : Key) (x : ℕ) (r : Key) (w : Num) (k : Forest) (y : ℕ) (q : Key) (u : Num) (j i rest : Forest)
    → settle b l none (node x r w k (node y q u j i)) rest ≡ node b l none (node x r w k (node y q u j i)) rest
unfolding settle
settle_two b l x r w k y q u j i rest = refl

settle_long : (b : ℕ) (l : Key) (x : ℕ) (r : Key) (w : Num) (k rest : Forest) → 255 < suc (length l) + suc (length r)
    → settle b l none (node x r w k nil) rest ≡ node b l none (node x r w k nil) rest
unfolding settle joins room pick
settle_long b l x r w k rest h = rw (lt-leb (length l + suc (length r)) 254 (omega arith), pick)

settle_only : (b : ℕ) (l : Key) (x : ℕ) (r : Key) (w : Num) (k rest : Forest) → suc (length l) + suc (length r) ≤ 255
    → settle b l none (node x r w k nil) rest ≡ node b (l ++ x ∷ r) w k rest
unfolding settle joins room pick
settle_only b l x r w k rest h = rw (le-leb (length l + suc (length r)) 254 (omega arith), pick)

-- Slots that say the same
solid-same : (ws bs vs cs : List ℕ) (c m : ℕ) → ((i : ℕ) → c ≤ i → i < c + m → bare_at vs cs i ≡ bare_at ws bs i) → solid (bares_from vs cs c m) ≡ solid (bares_from ws bs c m)
solid-same ws bs vs cs c m h = ap solid (run_ext (bare_at vs cs) (bare_at ws bs) c c m (λ i l. h (c + i) (omega arith) (omega arith)))

-- a gap before others
solid-behind : (ws bs : List ℕ) (c m : ℕ) → 1 ≤ m → len_of ws c ≡ 0 → solid (bares_from ws bs c m) ≡ solid (bares_from ws bs (c + 1) (m - 1))
solid-behind ws bs c m h z = solid-first ws bs c m h ∙ ap (λ (xs : List Bare). xs ++ solid (bares_from ws bs (c + 1) (m - 1))) (solid-gap (bare_at ws bs c) (sym (len_is ws bs c (bare_at ws bs c) refl) ∙ z))

-- What children there are, by the two that the code looks for
module _ {ws bs : List ℕ} {c s b : ℕ} {l : Key} {w : Num} {kids : Forest} (ripe : Ripe ws bs c s b l w kids) (e r₁ : ℕ) (end : e ≡ c + span_of ws c)
    (one : Finds ws e (c + 1) r₁) where
  first : Next ws bs (s + suc (length l)) e kids (c + 1) r₁
  first = one bs (s + suc (length l)) kids (rw end ripe.kids_are)

  pub childless : e ≤ r₁ → Childless ws bs c kids
  childless h =
      let top : r₁ ≡ e = omega (arith, sparse_within first.rest) in
      let m : span_of ws c - 1 ≡ r₁ - (c + 1) = omega arith in
      record { none = sparse_end h first.rest; gaps = ap (λ (x : ℕ). solid (bares_from ws bs (c + 1) x)) m ∙ first.passed }

  module _ (in₁ : r₁ < e) where
    begun : Begun ws bs (s + suc (length l)) e kids r₁
    begun = sparse_begun in₁ (first.here in₁) first.rest

    module _ (n r₂ : ℕ) (next : n ≡ r₁ + span_of ws r₁) (two : Finds ws e n r₂) where
      second : Next ws bs (s + suc (length l)) e begun.rest n r₂
      second = two bs (s + suc (length l)) begun.rest (rw next begun.others)

      pub several : r₂ < e → Several kids
      several h =
          let k = begun in
          let o = sparse_begun h (second.here h) second.rest in
          record {
            b₁ = k.b;
            l₁ = k.l;
            w₁ = k.w;
            below₁ = k.kids;
            b₂ = o.b;
            l₂ = o.l;
            w₂ = o.w;
            below₂ = o.kids;
            rest = o.rest;
            is = k.is ∙ ap (node k.b k.l k.w k.kids) o.is;
          }

      pub only_child : e ≤ r₂ → OnlyChild ws bs c (s + suc (length l)) kids r₁
      only_child h =
          let k = begun in
          let top : r₂ ≡ e = omega (arith, sparse_within second.rest) in
          let m : c + span_of ws c - (r₁ + span_of ws r₁) ≡ r₂ - n = omega arith in
          record {
            b = k.b;
            l = k.l;
            w = k.w;
            below = k.kids;
            is = k.is ∙ ap (node k.b k.l k.w k.kids) (sparse_end h second.rest);
            child = k.first;
            low = omega (arith, first.low);
            high = omega (arith, sparse_within k.others);
            before = first.passed;
            behind = cc (ap (λ (x : ℕ). solid (bares_from ws bs (r₁ + span_of ws r₁) x)) m, ap (λ (x : ℕ). solid (bares_from ws bs x (r₂ - n))) next, second.passed);
          }

-- the second search begins where the first ended
pub others-hop : (ws : List ℕ) (e r₁ n : ℕ) → Hops ws e r₁ → r₁ < e → n ≡ r₁ + span_of ws r₁ → Hops ws e n
others-hop ws e r₁ n h l q = rw q (hops_on l refl h).1

module _ {ws bs : List ℕ} {c s b : ℕ} {l : Key} {kids : Forest} where
  -- Two children stay two.
  pub several_stay : Ripe ws bs c s b l none kids → Several kids → NodeSettled ws bs ws bs c s b l none kids
  several_stay ripe k =
      stays ripe (λ rest. rw k.is (settle_two b l k.b₁ k.l₁ k.w₁ k.below₁ k.b₂ k.l₂ k.w₂ k.below₂ k.rest rest))

  -- With neither number nor child it goes.
  pub childless_goes : (vs : List ℕ) → Ripe ws bs c s b l none kids → bytes_for (c + span_of ws c) ≤ length bs → Childless ws bs c kids → Altered ws bs vs bs c (gap_of (bare_at ws bs c))
      → NodeSettled ws bs vs bs c s b l none kids
  childless_goes vs ripe in_b k a =
      let f = a.filled in
      let sp = a.spans c in
      let len : len_of vs c ≡ 0 = len_is vs bs c (gap_of (bare_at ws bs c)) f.slot in
      let hollow : Hollow vs bs c =
      record {
        len = len;
        span = omega (arith, ripe.span);
        bares =
            solid-behind vs bs c (span_of vs c) (omega (arith, ripe.span)) len
            ∙ ap (λ (x : ℕ). solid (bares_from vs bs (c + 1) (x - 1))) sp
            ∙ solid-same ws bs vs bs (c + 1) (span_of ws c - 1) (λ i p q. f.others i (λ y. omega arith) (omega (arith, ripe.span)))
            ∙ k.gaps;
      } in
      record {
        inside = inside_one {c = c} (omega arith) (omega (arith, ripe.span)) (sym (start_is ws bs c (bare_at ws bs c) refl)) a;
        siblings = λ d rest q. rw (k.none, settle-nil b l rest) (gap {f = rest} hollow (rw sp q));
      }

  module _ {i : ℕ} (ripe : Ripe ws bs c s b l none kids) (k : OnlyChild ws bs c (s + suc (length l)) kids i) where
    len-here : len_of ws c ≡ suc (length l)
    len-here = len_is ws bs c (node_bare s b l none) ripe.slot

    len-child : len_of ws i ≡ suc (length k.l)
    len-child = len_is ws bs i (node_bare (s + suc (length l)) k.b k.l k.w) k.child.slot

    -- An only child stays below where the joined label is too long.
    pub long_stays : 255 < len_of ws c + len_of ws i → NodeSettled ws bs ws bs c s b l none kids
    long_stays h =
        stays ripe (λ rest. rw k.is (settle_long b l k.b k.l k.w k.below rest (omega (arith, len-here, len-child))))

    module _ (in_b : bytes_for (c + span_of ws c) ≤ length bs) (vs cs us : List ℕ) (short : len_of ws c + len_of ws i ≤ 255)
        (j : Altered ws bs vs cs c (join_of (bare_at ws bs c) (bare_at ws bs i))) (g : Altered vs cs us cs i (gap_of (bare_at vs cs i))) where
      spans_are : (x : ℕ) → span_of us x ≡ span_of ws x
      spans_are x = g.spans x ∙ j.spans x

      joined-slot : bare_at us cs c ≡ node_bare s b (l ++ k.b ∷ k.l) k.w
      joined-slot =
          g.filled.others c (λ y. omega (arith, k.low)) (omega (arith, j.filled.len_b, ripe.span))
          ∙ j.filled.slot
          ∙ ap (λ (x : Bare). join_of x (bare_at ws bs i)) ripe.slot
          ∙ ap (join_of (node_bare s b l none)) k.child.slot

      same : (x : ℕ) → (x ≡ c → ⊥) → (x ≡ i → ⊥) → x < c + span_of ws c → bare_at us cs x ≡ bare_at ws bs x
      same x p q h = g.filled.others x q (omega (arith, j.filled.len_b)) ∙ j.filled.others x p (omega arith)

      gone : len_of us i ≡ 0
      gone = len_is us cs i (gap_of (bare_at vs cs i)) g.filled.slot

      -- What is left in its span are the child's children.
      joined-below : solid (bares_from us cs (c + 1) (c + span_of ws c - (c + 1))) ≡ bares_f (s + suc (length l) + suc (length k.l)) k.below
      joined-below =
          let e = c + span_of ws c in
          let m = span_of ws i in
          let lo = k.low in
          let hi = k.high in
          let sp = k.child.span in
          let x : i + m - i ≡ m = omega arith in
          let p₁ = solid-same ws bs us cs (c + 1) (i - (c + 1)) (λ y a d. same y (λ z. omega arith) (λ z. omega arith) (omega arith)) ∙ k.before in
          let p₂ = solid-behind us cs i m sp gone
          ∙ solid-same ws bs us cs (i + 1) (m - 1) (λ y a d. same y (λ z. omega arith) (λ z. omega arith) (omega arith))
          ∙ k.child.below in
          let p₃ = solid-same ws bs us cs (i + m) (e - (i + m)) (λ y a d. same y (λ z. omega arith) (λ z. omega arith) (omega arith)) ∙ k.behind in
          solid_parts us cs (c + 1) i e (omega arith) (omega arith)
          ∙ cc (p₁, solid_parts us cs i (i + m) e (omega arith) hi, ap (λ (y : ℕ). solid (bares_from us cs i y)) x, p₂, p₃, append-nil (bares_f (s + suc (length l) + suc (length k.l)) k.below))

      joined-solid : Solid us cs s b (l ++ k.b ∷ k.l) k.w k.below c
      joined-solid =
          let m : span_of us c - 1 ≡ c + span_of ws c - (c + 1) = omega (arith, spans_are c) in
          let d : s + suc (length (l ++ k.b ∷ k.l)) ≡ s + suc (length l) + suc (length k.l) = omega (arith, length-append l (k.b ∷ k.l)) in
          record {
            slot = joined-slot;
            span = omega (arith, spans_are c, ripe.span);
            below = ap (λ (y : ℕ). solid (bares_from us cs (c + 1) y)) m ∙ rw d joined-below;
          }

      -- An only child is taken in.
      pub only_joins : NodeSettled ws bs us cs c s b l none kids
      only_joins =
          let lo = k.low in
          let hi = k.high in
          let sp = k.child.span in
          let q = inside_one {c = c} (omega arith) (omega (arith, ripe.span)) (sym (start_is ws bs c (bare_at ws bs c) refl)) j in
          let z = inside_one {c = c} (omega arith) (omega (arith, j.spans c)) (sym (start_is vs cs i (bare_at vs cs i) refl)) g in
          record {
            inside = inside_then q z;
            siblings = λ d rest h.
                rw (k.is, settle_only b l k.b k.l k.w k.below rest (omega (arith, len-here, len-child))) (full {rest = rest} joined-solid (rw (spans_are c) h));
          }

-- A node whose slot has no number, whatever name its number has
pub unnumbered : {ws bs vs cs : List ℕ} {c s b : ℕ} {l : Key} {w : Num} {kids : Forest} → has_of ws c ≡ 0
    → (Ripe ws bs c s b l none kids → NodeSettled ws bs vs cs c s b l none kids) → Ripe ws bs c s b l w kids → NodeSettled ws bs vs cs c s b l w kids
unnumbered {ws} {bs} {vs} {cs} {c} {s} {b} {l} {w} {kids} h f r =
    let e = none_is w (sym (has-is ws bs c (node_bare s b l w) r.slot) ∙ h) in
    rw e (f (rw e at r))

-- The children as the code has told them
module _ (ws bs : List ℕ) (c d : ℕ) (kids : Forest) (k : Kids) (h : KidsAre ws bs c d kids k) where
  pub told_nothing : k ≡ Kids.Nothing → Childless ws bs c kids
  told_nothing e = rw e at h

  pub told_one : (i : Slot) → k ≡ Kids.One i → OnlyChild ws bs c d kids i.0
  told_one i e = rw e at h

  pub told_more : k ≡ Kids.More → Several kids
  told_more e = rw e at h

-- A child's slot lies within what its parent's span reaches.
pub child-below : {ws bs : List ℕ} {c d : ℕ} {kids : Forest} {i : ℕ} → Ready ws bs c → OnlyChild ws bs c d kids i → Below ws bs c i
child-below r k =
    let sp = k.child.span in
    record { order = k.low; words = omega (arith, k.high, r.words); labels = omega (arith, k.high, r.labels) }
