-- Slots carried over into another pool: what stands there then. Assumes nothing.
use mathlib.Core.Path.{◌≡◌, refl, ap, ◌∙◌}
use mathlib.Core.List.{List, []}
use mathlib.Core.Option.{none}
use Prim.Native.Nat.{ℕ, suc, ◌+◌, ◌-◌, ◌≤◌, ◌<◌}
use native.Mathlib.Omega.{arith}
use lib.ListN.{length, get_or, set, take, drop, length-set, length-take, length-drop}
use lib.Seq.{get_or-set_same, take_all}
use Rattle.tree.specs.Map.{Num}
use Rattle.tree.specs.Tree.{keys_w}
use Rattle.label.proofs.Moves.{by_lt, by_eq}
use Rattle.slots.specs.Layout.{nodes_word, WordsIn, start_of, len_of, has_of, number_of, span_of, label_of, num_at}
use Rattle.slots.specs.Records.{rec_at, root_rec}
use Rattle.slots.specs.Bare.{HeadOf, number_word}
use Rattle.slots.specs.Put.{rec_of, words_put, WordsPut, SlotPut}
use Rattle.pool.specs.Rule.{Within}
use Rattle.slots.specs.declared.put.Head.{Head}
use Rattle.slots.proofs.Cuts.{label-length}
use Rattle.slots.proofs.Slots.{num_read}
use Rattle.slots.proofs.Puts.{words-put, rec_same, nodes-put}
use Rattle.split.specs.Lift.{carried, lowered, topped, Liftable, Lifted, Rooted, Detached, DetachedBelow}
use Rattle.split.specs.Halved.{Detachable}

-- The length of a slot's label
pub label_long : (ws bs l : List ℕ) (at : ℕ) → Within ws bs (at + 1) → len_of ws at ≤ 255 → l ≡ label_of ws bs at → length l ≡ len_of ws at
label_long ws bs l at w h e = ap length e ∙ label-length ws bs at h (omega (arith, w.labels))

-- The record that the code writes
pub carried-is : (ws l : List ℕ) (from start : ℕ) (h : Head) → h.start ≡ start → h.len ≡ length l → h.has ≡ has_of ws from → h.number.0 ≡ number_of ws from → h.span ≡ span_of ws from
    → rec_of h l ≡ carried ws from start l
carried-is ws l from start h s n a v p = rw (s, n, a, v, p)

pub carried-put : (ws vs cs us ds l : List ℕ) (from to start : ℕ) (h : Head) → h.start ≡ start → h.len ≡ length l → h.has ≡ has_of ws from → h.number.0 ≡ number_of ws from
    → h.span ≡ span_of ws from → SlotPut vs cs us ds to (rec_of h l) → SlotPut vs cs us ds to (carried ws from start l)
carried-put ws vs cs us ds l from to start h s n a v p q = rw (s, n, a, v, p) at q

-- A slot of a part can be carried over by itself.
pub lift_one : {ws bs : List ℕ} {from count base : ℕ} (i : ℕ) → i < count → Liftable ws bs from count base → Within ws bs (from + i + 1)
lift_one i h l = record { words = omega (arith, l.within.words); labels = omega (arith, l.within.labels) }

-- with the slot's own label
pub lowered-put : (ws bs l vs cs us ds : List ℕ) (from to base start : ℕ) → Within ws bs (from + 1) → len_of ws from ≤ 255 → l ≡ label_of ws bs from → start ≡ start_of ws from - base
    → SlotPut vs cs us ds to (carried ws from start l) → SlotPut vs cs us ds to (lowered base (rec_at ws bs from))
unfolding rec_at
lowered-put ws bs l vs cs us ds from to base start w i e s q =
    let n : length l ≡ len_of ws from = label_long ws bs l from w i e in
    rw (n, s, e) at q

-- One more slot carried over
pub lift_none : (ws bs vs cs : List ℕ) (from to base : ℕ) → Lifted ws bs vs cs vs cs from to 0 base
lift_none ws bs vs cs from to base = record { len_w = refl; len_b = refl; slots = λ i h. absurd (omega arith) }

pub lift_more : (ws bs vs cs us ds es fs : List ℕ) (from to i base : ℕ) → Lifted ws bs vs cs us ds from to i base
    → SlotPut us ds es fs (to + i) (lowered base (rec_at ws bs (from + i))) → Lifted ws bs vs cs es fs from to (i + 1) base
lift_more ws bs vs cs us ds es fs from to i base l p =
    record {
      len_w = p.words ∙ l.len_w;
      len_b = p.labels ∙ l.len_b;
      slots = λ j h.
          by_eq j i
          (λ e. rw e p.slot)
          (λ ne. p.others (to + j) (λ e. ne (omega arith)) ∙ l.slots j (by_lt j i (λ k. k) (λ k. absurd (ne (omega arith)))));
    }

pub lift_done : {ws bs vs cs us ds : List ℕ} {from to i count base : ℕ} → i ≡ count → Lifted ws bs vs cs us ds from to i base → Lifted ws bs vs cs us ds from to count base
lift_done {ws} {bs} {vs} {cs} {us} {ds} {from} {to} {i} {count} {base} e l = rw e at l

-- The root's record as the code writes it
root_rec_lem : (ws us bs : List ℕ) (num : Num) (nodes : ℕ) (h : Head) → HeadOf h 0 0 num nodes → WordsPut ws us 0 h
    → rec_at us bs 0 ≡ record { start = 0; len = 0; has = keys_w num; num = num; span = nodes; label = [] }
unfolding rec_at
root_rec_lem ws us bs num nodes h o w =
    let w₀ : start_of us 0 ≡ 0 = w.start ∙ o.start_is in
    let w₁ : len_of us 0 ≡ 0 = w.len ∙ o.len_is in
    let w₂ : has_of us 0 ≡ keys_w num = w.has ∙ o.has-is in
    let w₃ : number_of us 0 ≡ number_word num = w.number ∙ o.number_is in
    let w₄ : span_of us 0 ≡ nodes = w.span ∙ o.span-is in
    rw (w₀, w₁, w₂, w₃, w₄, num_read num)

-- The root written, and the slots in use counted
pub rooted : (ws us vs : List ℕ) (num : Num) (nodes : ℕ) (h : Head) → WordsIn ws 0 → HeadOf h 0 0 num nodes
    → us ≡ words_put ws 0 h → vs ≡ set us nodes_word nodes → Rooted ws vs num nodes
rooted ws us vs num nodes h l o put e =
    let w = words-put ws us 0 h l put in
    let size : length us ≡ length ws = w.size in
    record {
      len = ap length e ∙ length-set us 0 nodes ∙ size;
      count = ap (λ (x : List ℕ). get_or x 0 0) e ∙ get_or-set_same us 0 nodes 0 (omega arith);
      root = λ bs. ap (λ (x : List ℕ). rec_at x bs 0) e ∙ nodes-put us bs nodes 0 ∙ root_rec_lem ws us bs num nodes h o w;
      others = λ bs i k. ap (λ (x : List ℕ). rec_at x bs i) e ∙ nodes-put us bs nodes i ∙ rec_same ws bs us bs i (λ j a b. w.high j (omega arith)) refl;
    }

-- The root's record is that of the slot's number.
pub detached : (ws bs vs cs us ds es : List ℕ) (at base : ℕ) (num : Num) (nodes first count : ℕ) → Detachable ws bs at → first ≡ at + 1 → count ≡ span_of ws at - 1
    → base ≡ start_of ws at + len_of ws at → num ≡ num_at ws at → nodes ≡ span_of ws at → Lifted ws bs vs cs us ds first 1 count base → Rooted us es num nodes
    → Detached ws bs vs cs es ds at (start_of ws at + len_of ws at)
detached ws bs vs cs us ds es at base num nodes first count d f k b v n l r =
    record {
      len_w = r.len ∙ l.len_w;
      len_b = l.len_b;
      nodes = r.count ∙ n;
      root = r.root ds ∙ root_is;
      kids = λ i h. r.others ds (1 + i) (omega arith) ∙ l.slots i (omega arith) ∙ cc (ap (λ (x : ℕ). lowered x (rec_at ws bs (first + i))) b, ap (λ (x : ℕ). lowered (start_of ws at + len_of ws at) (rec_at ws bs (x + i))) f);
    }
  where
    root_is : record { start = 0; len = 0; has = keys_w num; num = num; span = nodes; label = [] } ≡ root_rec (num_at ws at) (span_of ws at - 1)
    root_is =
        let s : nodes ≡ suc (span_of ws at - 1) = omega (arith, d.span) in
        λ i. record { start = 0; len = 0; has = keys_w (v i); num = v i; span = s i; label = [] }

-- the rest of a label, as the code takes it
pub rest_long : (ws bs l : List ℕ) (at m : ℕ) → Within ws bs (at + 1) → len_of ws at ≤ 255 → l ≡ label_of ws bs at → length (take (length l - m) (drop m l)) ≡ len_of ws at - m
rest_long ws bs l at m w i e = omega (arith, length-take (length l - m) (drop m l), length-drop m l, label_long ws bs l at w i e)

-- with what is left of it
pub topped-put : (ws bs l vs cs us ds : List ℕ) (at m to : ℕ) → Within ws bs (at + 1) → len_of ws at ≤ 255 → l ≡ label_of ws bs at
    → SlotPut vs cs us ds to (carried ws at 0 (take (length l - m) (drop m l))) → SlotPut vs cs us ds to (topped m (rec_at ws bs at))
unfolding rec_at
topped-put ws bs l vs cs us ds at m to w i e q =
    let n : length (take (length l - m) (drop m l)) ≡ len_of ws at - m = rest_long ws bs l at m w i e in
    let t : take (length l - m) (drop m l) ≡ drop m (label_of ws bs at) = take_all (length l - m) (drop m l) (omega (arith, length-drop m l)) ∙ ap (drop m) e in
    rw (n, t) at q

pub detached-below : (ws bs vs cs us ds es fs gs : List ℕ) (at m base nodes first count : ℕ) → Detachable ws bs at → first ≡ at + 1 → count ≡ span_of ws at - 1 → base ≡ start_of ws at + m
    → nodes ≡ span_of ws at + 1 → Lifted ws bs vs cs us ds first 2 count base → SlotPut us ds es fs 1 (topped m (rec_at ws bs at)) → Rooted es gs none nodes
    → DetachedBelow ws bs vs cs gs fs at m (start_of ws at + m)
unfolding keys_w
detached-below ws bs vs cs us ds es fs gs at m base nodes first count d f k b n l p r =
    record {
      len_w = r.len ∙ p.words ∙ l.len_w;
      len_b = p.labels ∙ l.len_b;
      nodes = r.count ∙ n;
      root = r.root fs ∙ ap (λ (x : ℕ). record { start = 0; len = 0; has = 0; num = none; span = x; label = [] }) (omega arith);
      top = r.others fs 1 (omega arith) ∙ p.slot;
      kids = λ i h.
          r.others fs (2 + i) (omega arith)
          ∙ p.others (2 + i) (λ e. omega arith)
          ∙ l.slots i (omega arith)
          ∙ cc (ap (λ (x : ℕ). lowered x (rec_at ws bs (first + i))) b, ap (λ (x : ℕ). lowered (start_of ws at + m) (rec_at ws bs (x + i))) f);
    }

-- Less may be taken off than there is.
pub lift_less : {ws bs : List ℕ} {from count base less : ℕ} → less ≤ base → Liftable ws bs from count base → Liftable ws bs from count less
lift_less h l = record { within = l.within; deep = λ i a b. omega (arith, l.deep i a b); short = l.short }

-- the code's own names for the numbers
pub lift_as : {ws bs : List ℕ} {from count base from' count' base' : ℕ} → from ≡ from' → count ≡ count' → base ≡ base' → Liftable ws bs from count base → Liftable ws bs from' count' base'
lift_as {ws} {bs} {from} {count} {base} {from'} {count'} {base'} p q r l = rw (p, q, r) at l
