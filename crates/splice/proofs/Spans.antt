-- Which slots belong to a slot, place by place; the pool's rule says so of every slot; spans that are short grow on the way
-- down to the new slots. Assumes nothing.
use mathlib.Core.Path.{◌≡◌, refl, sym, ap, ◌∙◌, subst}
use mathlib.Core.List.{List}
use Prim.Native.Nat.{ℕ, zero, suc, ◌+◌, ◌-◌, ◌≤◌, ◌<◌}
use native.Mathlib.Omega.{arith}
use lib.ListN.{length, get_or, set, length-set}
use lib.Seq.{get_or-set_same, get_or-set_other}
use Rattle.label.proofs.Moves.{by_lt, by_eq}
use Rattle.slots.specs.Layout.{words_for, nodes_word, field_at, start_field, len_field, span_field, nodes_of, start_of, len_of, span_of, first_of}
use Rattle.pool.specs.Rule.{Children, done, child, NodeAt, PoolRule}
use Rattle.splice.specs.Splice.{reach, Linked, Relinked}
use Rattle.splice.specs.Spans.{Covers, right, short, Loose, Raised}
use Rattle.splice.proofs.Reach.{reach-none, reach-on, reach-stop, start-kept, len-kept}

-- So many slots start deep enough, and the next one does not.
reach_by : (ws : List ℕ) (b i m x : ℕ) → x ≤ m → ((y : ℕ) → i ≤ y → y < i + x → b ≤ start_of ws y) → (x < m → start_of ws (i + x) < b) → reach ws b i m ≡ x
reach_by ws b i zero zero h all end = reach-none ws b i
reach_by ws b i zero (suc x) h all end = absurd (omega arith)
reach_by ws b i (suc m) zero h all end =
    let e : start_of ws (i + 0) ≡ start_of ws i = ap (start_of ws) (omega arith) in
    reach-stop ws b i (suc m) (omega (arith, end (omega arith)))
reach_by ws b i (suc m) (suc x) h all end =
    let e : start_of ws (i + suc x) ≡ start_of ws (suc i + x) = ap (start_of ws) (omega arith) in
    reach-on ws b i m (all i (omega arith) (omega arith))
    ∙ ap suc (reach_by ws b (suc i) m x (omega arith) (λ y p q. all y (omega arith) (omega arith)) (λ l. omega (arith, end (omega arith))))

-- The right span by what it covers
covers_reach : (ws : List ℕ) (n j e : ℕ) → Covers ws n j e → reach ws (start_of ws j + len_of ws j) (j + 1) (n - (j + 1)) ≡ e - (j + 1)
covers_reach ws n j e v =
    let lo = v.low in
    let hi = v.high in
    let q : start_of ws (j + 1 + (e - (j + 1))) ≡ start_of ws e = ap (start_of ws) (omega arith) in
    reach_by ws (start_of ws j + len_of ws j) (j + 1) (n - (j + 1)) (e - (j + 1)) (omega arith)
    (λ y a b. v.inside y (omega arith) (omega arith))
    (λ l. omega (arith, v.stop (omega arith)))

pub covers_linked : (ws : List ℕ) (n : ℕ) → ((j : ℕ) → j < n → Covers ws n j (j + span_of ws j)) → Linked ws 0 n
covers_linked ws n h j a b =
    let v = h j b in
    omega (arith, covers_reach ws n j (j + span_of ws j) v, v.low)

-- It depends on starts and lengths alone.
pub covers_same : {ws : List ℕ} (vs : List ℕ) {n j e : ℕ} → ((i : ℕ) → i < n → start_of vs i ≡ start_of ws i) → ((i : ℕ) → i < n → len_of vs i ≡ len_of ws i) → Covers ws n j e → Covers vs n j e
covers_same vs {n} {j} {e} s l v =
    let lo = v.low in
    let hi = v.high in
    let p = s j (omega arith) in
    let q = l j (omega arith) in
    record {
      low = v.low;
      high = v.high;
      inside = λ i a b. omega (arith, s i (omega arith), v.inside i a b);
      stop = λ a. omega (arith, s e a, v.stop a);
    }

-- What belongs to a slot that belongs to another belongs to that one.
pub covers_nested : {ws : List ℕ} {n c e j f : ℕ} → Covers ws n c e → Covers ws n j f → c < j → j < e → f ≤ e
covers_nested {ws} {n} {c} {e} {j} {f} v w a b =
    by_lt e f
    (λ l. absurd (omega (arith, v.inside j a b, w.inside e b l, v.stop (omega (arith, w.high)))))
    (λ l. l)

-- the end of what it covers under another name
pub covers_to : {ws : List ℕ} {n j e f : ℕ} → e ≡ f → Covers ws n j e → Covers ws n j f
covers_to {ws} {n} {j} {e} {f} q v = subst (λ (x : ℕ). Covers ws n j x) q v

-- The same starts, lengths and spans
pub loose_same : {ws : List ℕ} (vs : List ℕ) {n at k c : ℕ} → ((i : ℕ) → start_of vs i ≡ start_of ws i) → ((i : ℕ) → len_of vs i ≡ len_of ws i)
    → ((i : ℕ) → span_of vs i ≡ span_of ws i) → Loose ws n at k c → Loose vs n at k c
loose_same {ws} vs {n} {at} {k} {c} s l p o =
    let kept : (j e : ℕ) → Covers ws n j e → Covers vs n j e = λ j e v. covers_same vs (λ i _. s i) (λ i _. l i) v in
    record {
      order = o.order;
      used = o.used;
      some = o.some;
      low = λ j a. covers_to (omega (arith, p j)) (kept j _ (o.low j a));
      due = λ j a b.
          elim (o.due j a b) [
            | right v h ↦ right (covers_to (omega (arith, p j)) (kept j _ v)) (omega (arith, p j))
            | short v h ↦ short (covers_to (omega (arith, p j)) (kept j _ v)) (omega (arith, p j))
          ];
      high = λ j a b. covers_to (omega (arith, p j)) (kept j _ (o.high j a b));
    }

-- A turn at slot c
module _ (ws : List ℕ) (n at k c : ℕ) (before : c < at) (o : Loose ws n at k c) where
  -- its span is right: what belongs to it is right as well
  past : Covers ws n c (c + span_of ws c) → c + span_of ws c ≤ at → Loose ws n at k (c + span_of ws c)
  past v h =
      let lo = v.low in
      record {
        order = h;
        used = o.used;
        some = o.some;
        low = λ j a.
            by_lt j c (λ l. o.low j l)
            (λ l.
            by_eq j c (λ q. subst (λ (x : ℕ). Covers ws n x (x + span_of ws x)) (sym q) v)
            (λ ne.
            let g : c < j = by_lt c j (λ m. m) (λ m. absurd (ne (omega arith))) in
            elim (o.due j l (omega arith)) [
              | right w i ↦ w
              | short w i ↦ absurd (omega (arith, covers_nested v w g a, o.some))
            ]));
        due = λ j a b. o.due j (omega arith) b;
        high = o.high;
      }

  stay : Covers ws n c (c + span_of ws c) → c + span_of ws c ≤ at → Raised ws ws n at k c (c + span_of ws c)
  stay v h = record { len = refl; rest = λ j i. refl; on = v.low; loose = past v h }

  below : c + span_of ws c < at → Raised ws ws n at k c (c + span_of ws c)
  below h = elim (o.due c (omega arith) before) [ right v i ↦ stay v i | short v i ↦ absurd (omega arith) ]

  beside : start_of ws at < start_of ws c + len_of ws c → Raised ws ws n at k c (c + span_of ws c)
  beside h =
      elim (o.due c (omega arith) before) [
        | right v i ↦ stay v i
        | short v i ↦ absurd (omega (arith, v.inside at before (omega (arith, o.some))))
      ]

  -- its span is short
  own : at ≤ c + span_of ws c → start_of ws c + len_of ws c ≤ start_of ws at → Covers ws n c (c + span_of ws c + k)
  own a b =
      elim (o.due c (omega arith) before) [
        | right v i ↦
            let q : start_of ws (c + span_of ws c) ≡ start_of ws at = ap (start_of ws) (omega arith) in
            absurd (omega (arith, v.stop (omega (arith, o.used))))
        | short v i ↦ v
      ]

  grow : words_for n ≤ length ws → Covers ws n c (c + span_of ws c + k) → Raised ws (set ws (field_at c span_field) (span_of ws c + k)) n at k c (c + 1)
  grow r v =
      let s = span_of ws c + k in
      let vs = set ws (field_at c span_field) s in
      let us = o.used in
      let there : span_of vs c ≡ s = get_or-set_same ws (field_at c span_field) s 0 (omega arith) in
      let same : (j : ℕ) → (j ≡ c → ⊥) → span_of vs j ≡ span_of ws j = λ j ne. get_or-set_other ws (field_at c span_field) (field_at j span_field) s 0 (λ q. ne (omega arith)) in
      let kept : (j e : ℕ) → Covers ws n j e → Covers vs n j e = λ j e w. covers_same vs (λ i _. start-kept ws c s i) (λ i _. len-kept ws c s i) w in
      record {
        len = length-set ws (field_at c span_field) s;
        rest = λ j i. get_or-set_other ws (field_at c span_field) j s 0 (i c);
        on = omega arith;
        loose =
            record {
              order = omega arith;
              used = o.used;
              some = o.some;
              low = λ j a.
                  by_eq j c (λ q. subst (λ (x : ℕ). Covers vs n x (x + span_of vs x)) (sym q) (covers_to (omega (arith, there)) (kept c _ v)))
                  (λ ne. covers_to (omega (arith, same j ne)) (kept j _ (o.low j (by_lt j c (λ m. m) (λ m. absurd (ne (omega arith)))))));
              due = λ j a b.
                  let e = same j (λ q. omega arith) in
                  elim (o.due j (omega arith) b) [
                    | right w i ↦ right (covers_to (omega (arith, e)) (kept j _ w)) (omega (arith, e))
                    | short w i ↦ short (covers_to (omega (arith, e)) (kept j _ w)) (omega (arith, e))
                  ];
              high = λ j a b. covers_to (omega (arith, same j (λ q. omega arith))) (kept j _ (o.high j a b));
            };
      }

-- as the code reads the span and the end of the label
module _ (ws : List ℕ) (n at k c s : ℕ) (e : s ≡ span_of ws c) (before : c < at) (o : Loose ws n at k c) where
  pub raise_below : c + s < at → Raised ws ws n at k c (c + s)
  raise_below h = rw e (below ws n at k c before o (omega arith))

  pub raise_beside : (b d : ℕ) → b ≡ start_of ws c + len_of ws c → d ≡ start_of ws at → d < b → Raised ws ws n at k c (c + s)
  raise_beside b d p q h = rw e (beside ws n at k c before o (omega arith))

  pub raise_fits : (b d : ℕ) → at ≤ c + s → b ≡ start_of ws c + len_of ws c → d ≡ start_of ws at → b ≤ d → c + s + k ≤ n
  raise_fits b d a p q h = omega (arith, (own ws n at k c before o (omega arith) (omega arith)).high)

  pub raise_grow : (vs : List ℕ) (b d : ℕ) → words_for n ≤ length ws → at ≤ c + s → b ≡ start_of ws c + len_of ws c → d ≡ start_of ws at → b ≤ d → vs ≡ set ws (field_at c span_field) (s + k)
      → Raised ws vs n at k c (c + 1)
  raise_grow vs b d r a p q h u = rw (u, e) (grow ws n at k c before o r (own ws n at k c before o (omega arith) (omega arith)))

-- The loop from the root down
pub record Raising (ws vs : List ℕ) (at k c : ℕ) : Type 0 where
  pub len : length vs ≡ length ws
  pub rest : (j : ℕ) → ((i : ℕ) → j ≡ field_at i span_field → ⊥) → get_or vs j 0 ≡ get_or ws j 0
  pub nodes : nodes_of vs ≡ nodes_of ws
  pub loose : Loose vs (nodes_of vs) at k c

pub raising_none : (ws : List ℕ) (at k : ℕ) → Loose ws (nodes_of ws) at k 0 → Raising ws ws at k 0
raising_none ws at k o = record { len = refl; rest = λ j h. refl; nodes = refl; loose = o }

pub raising_on : (ws vs us : List ℕ) (at k c r : ℕ) → Raising ws vs at k c → Raised vs us (nodes_of vs) at k c r → Raising ws us at k r
raising_on ws vs us at k c r s t =
    let e : nodes_of us ≡ nodes_of vs = t.rest 0 (λ i q. omega arith) in
    record {
      len = t.len ∙ s.len;
      rest = λ j h. t.rest j h ∙ s.rest j h;
      nodes = e ∙ s.nodes;
      loose = rw e t.loose;
    }

pub raising_done : (ws vs : List ℕ) (at k c : ℕ) → at ≤ c → Raising ws vs at k c → Relinked ws vs (nodes_of ws)
raising_done ws vs at k c h s =
    let o = s.loose in
    let l : Linked vs 0 (nodes_of vs) = covers_linked vs (nodes_of vs) (λ j a. by_lt j c (λ m. o.low j m) (λ m. o.high j (omega (arith, o.order)) a)) in
    record { len = s.len; spans = rw s.nodes at l; rest = s.rest }

-- The count of slots is in no slot.
module _ (ws us : List ℕ) (n at k : ℕ) (put : us ≡ set ws nodes_word n) (some : 1 ≤ length ws) where
  pub counted : nodes_of us ≡ n
  counted = ap (λ (l : List ℕ). get_or l nodes_word 0) put ∙ get_or-set_same ws nodes_word n 0 (omega arith)

  kept : (j : ℕ) → 1 ≤ j → get_or us j 0 ≡ get_or ws j 0
  kept j h = ap (λ (l : List ℕ). get_or l j 0) put ∙ get_or-set_other ws nodes_word j n 0 (λ q. omega arith)

  pub loose-counted : Loose ws n at k 0 → Loose us (nodes_of us) at k 0
  loose-counted o =
      rw counted
      (loose_same us (λ i. kept (field_at i start_field) (omega arith)) (λ i. kept (field_at i len_field) (omega arith))
      (λ i. kept (field_at i span_field) (omega arith)) o)

-- In a pool every slot has the right span. The slot behind its subtree starts no deeper than the slot itself.
module _ (ws bs : List ℕ) (n : ℕ) (each : (i : ℕ) → i < n → NodeAt ws bs n i) where
  deep : (fuel s least c e : ℕ) → e ≤ n → e ≤ c + fuel → Children ws bs s e least c → (x : ℕ) → c ≤ x → x < e → s ≤ start_of ws x
  deep zero s least c e h l k x a b = absurd (omega arith)
  deep (suc fuel) s least c e h l (done q) x a b = absurd (omega arith)
  deep (suc fuel) s least c e h l (child k rest) x a b =
      let kids = (each c (omega (arith, k.span, k.inside))).kids in
      by_lt x (c + span_of ws c)
      (λ m.
      by_lt c x
      (λ g. omega (arith, k.start, deep fuel (start_of ws c + len_of ws c) 0 (c + 1) (c + span_of ws c) (omega (arith, k.inside)) (omega (arith, k.inside)) kids x (omega arith) m))
      (λ g. let q : start_of ws x ≡ start_of ws c = ap (start_of ws) (omega arith) in omega (arith, k.start)))
      (λ m. deep fuel s (first_of bs c + 1) (c + span_of ws c) e h (omega (arith, k.span)) rest x m b)

  -- slot e is behind the last one, or starts no deeper than s
  behind-child : (s least c e : ℕ) → (e < n → start_of ws e ≤ s) → Children ws bs s e least c → c < n → start_of ws c ≤ s
  behind-child s least c e h (done q) a = let z : start_of ws e ≡ start_of ws c = ap (start_of ws) (sym q) in omega (arith, h (omega arith))
  behind-child s least c e h (child k rest) a = omega (arith, k.start)

  -- the slot behind a subtree starts no deeper than the subtree's first slot, which has a label
  shallow : (fuel s least c e : ℕ) → e ≤ n → e ≤ c + fuel → (e < n → start_of ws e ≤ s) → Children ws bs s e least c
      → (x : ℕ) → c ≤ x → x < e → (x + span_of ws x < n → start_of ws (x + span_of ws x) ≤ start_of ws x) × (1 ≤ len_of ws x)
  shallow zero s least c e h l o k x a b = absurd (omega arith)
  shallow (suc fuel) s least c e h l o (done q) x a b = absurd (omega arith)
  shallow (suc fuel) s least c e h l o (child k rest) x a b =
      let kids = (each c (omega (arith, k.span, k.inside))).kids in
      let next = behind-child s (first_of bs c + 1) (c + span_of ws c) e o rest in
      by_lt x (c + span_of ws c)
      (λ m.
      by_eq x c
      (λ q.
      subst (λ (y : ℕ). (y + span_of ws y < n → start_of ws (y + span_of ws y) ≤ start_of ws y) × (1 ≤ len_of ws y)) (sym q)
      (λ z. omega (arith, next z, k.start), k.some))
      (λ ne.
      let g : c < x = by_lt c x (λ z. z) (λ z. absurd (ne (omega arith))) in
      shallow fuel (start_of ws c + len_of ws c) 0 (c + 1) (c + span_of ws c) (omega (arith, k.inside)) (omega (arith, k.inside)) (λ z. omega (arith, next z, k.start)) kids x (omega arith) m))
      (λ m. shallow fuel s (first_of bs c + 1) (c + span_of ws c) e h (omega (arith, k.span)) o rest x m b)

-- What the rule says of a slot's span
pub record Rests (ws : List ℕ) (n j : ℕ) : Type 0 where
  pub covers : Covers ws n j (j + span_of ws j)
  pub flat : j + span_of ws j < n → start_of ws (j + span_of ws j) ≤ start_of ws j

pub rule_rests : (ws bs : List ℕ) → PoolRule ws bs → (j : ℕ) → j < nodes_of ws → Rests ws (nodes_of ws) j
rule_rests ws bs r j h =
    let n = nodes_of ws in
    let v = r.each j h in
    let top = r.each 0 (omega arith) in
    let end = r.root-span in
    let inside : (i : ℕ) → j < i → i < j + span_of ws j → start_of ws j + len_of ws j ≤ start_of ws i =
    λ i a b. deep ws bs n r.each n (start_of ws j + len_of ws j) 0 (j + 1) (j + span_of ws j) v.inside (omega (arith, v.inside)) v.kids i (omega arith) b in
    let flat : j + span_of ws j < n → (start_of ws (j + span_of ws j) ≤ start_of ws j) × (1 ≤ len_of ws j) =
    λ l.
    by_eq j 0
    (λ q. let z : span_of ws j ≡ span_of ws 0 = ap (span_of ws) q in absurd (omega arith))
    (λ ne.
    let p = shallow ws bs n r.each n (start_of ws 0 + len_of ws 0) 0 1 (0 + span_of ws 0) (omega arith) (omega arith) (λ z. absurd (omega arith)) top.kids j (by_lt 0 j (λ z. omega arith) (λ z. absurd (ne (omega arith)))) (omega arith) in
    (p.0 l, p.1)) in
    record {
      covers = record { low = omega (arith, v.span); high = v.inside; inside = inside; stop = λ l. omega (arith, (flat l).0, (flat l).1) };
      flat = λ l. (flat l).0;
    }
