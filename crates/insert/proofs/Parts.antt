-- After a cut, with a leaf beside the lower part or none, only the spans of the upper part and its ancestors are short.
-- Assumes nothing.
use mathlib.Core.Path.{◌≡◌, refl, sym, ap, ◌∙◌, subst}
use mathlib.Core.List.{List}
use Prim.Native.Nat.{ℕ, ◌+◌, ◌-◌, ◌≤◌, ◌<◌}
use native.Mathlib.Omega.{arith}
use Rattle.label.proofs.Moves.{by_lt}
use Rattle.slots.specs.Layout.{start_of, len_of, span_of}
use Rattle.splice.specs.Spans.{Covers, Due, right, short, Loose}
use Rattle.splice.proofs.Spans.{Rests, covers_to, covers_nested}
use Rattle.insert.proofs.Spans.{Like, covers_at, start-at, Leafy, leafy_covers, start-moved, moved-right, front_covers, grown_covers}

-- A cut at slot `at` behind m bytes: its upper part, its lower part
pub record Upper (ws vs : List ℕ) (at m : ℕ) : Type 0 where
  pub start : start_of vs at ≡ start_of ws at
  pub len : len_of vs at ≡ m
  pub span : span_of vs at ≡ span_of ws at

pub record Lower (ws vs : List ℕ) (at lo m : ℕ) : Type 0 where
  pub start : start_of vs lo ≡ start_of ws at + m
  pub len : start_of vs lo + len_of vs lo ≡ start_of ws at + len_of ws at
  pub span : span_of vs lo ≡ span_of ws at

-- The cut slot's subtree ends at `end`, and k slots are new. The slots behind the upper part, up to the end of the subtree,
-- start at the cut or deeper, and are right.
module _ (ws vs : List ℕ) (n at end k m : ℕ) (rests : (j : ℕ) → j < n → Rests ws n j) (used : at < n) (ended : end ≡ at + span_of ws at) (one : 1 ≤ m) (some : 1 ≤ k)
    (low : (i : ℕ) → i < at → Like ws vs i i) (upper : Upper ws vs at m) (high : (i : ℕ) → end ≤ i → i < n → Like ws vs i (i + k))
    (under : (x : ℕ) → at < x → x < end + k → start_of ws at + m ≤ start_of vs x)
    (inner : (x : ℕ) → at < x → x < end + k → Covers vs (n + k) x (x + span_of vs x)) where
  whole : Covers ws n at end
  whole = covers_to (sym ended) (rests at used).covers

  ordered : at ≤ end
  ordered = omega (arith, whole.low)

  below_covers : (j e : ℕ) → j < at → e ≤ at → Covers ws n j e → Covers vs (n + k) j e
  below_covers j e p q v =
      front_covers ws vs n at end k ordered low high j e p q v
      (λ o.
      by_lt e at
      (λ l. omega (arith, (low e l).start, v.stop (omega arith)))
      (λ l.
      let z : e ≡ at = omega arith in
      omega (arith, start-at vs z, start-at ws z, upper.start, v.stop (omega arith))))

  above_covers : (j e : ℕ) → j < at → at < e → Covers ws n j e → Covers vs (n + k) j (e + k)
  above_covers j e p q v =
      let deep = v.inside at p q in
      grown_covers ws vs n at end k ordered low high j e p (covers_nested v whole p q) v
      (λ x l r.
      by_lt at x
      (λ g. omega (arith, under x g r))
      (λ g. let z : start_of vs x ≡ start_of vs at = start-at vs (omega arith) in omega (arith, upper.start)))

  upper_covers : Covers vs (n + k) at (end + k)
  upper_covers =
      let lo = whole.low in
      let hi = whole.high in
      record {
        low = omega arith;
        high = omega arith;
        inside = λ i o r. omega (arith, upper.start, upper.len, under i o r);
        stop = λ o.
            let g : start_of ws end ≡ start_of ws (at + span_of ws at) = start-at ws ended in
            omega (arith, upper.start, upper.len, (high end (omega arith) (omega arith)).start, (rests at used).flat (omega arith));
      }

  cut-due : (j : ℕ) → j < at + 1 → Due vs (n + k) (at + 1) k j
  cut-due j p =
      by_lt j at
      (λ l.
      let e = j + span_of ws j in
      let v = (rests j (omega arith)).covers in
      let q = (low j l).span in
      by_lt at e
      (λ o. short (covers_to (omega arith) (above_covers j e l o v)) (omega arith))
      (λ o. right (covers_to (omega arith) (below_covers j e l o v)) (omega arith)))
      (λ l.
      let z : at ≡ j = omega arith in
      subst (λ (x : ℕ). Due vs (n + k) (at + 1) k x) z (short (covers_to (omega (arith, upper.span)) upper_covers) (omega (arith, upper.span, whole.low))))

  cut-loose : Loose vs (n + k) (at + 1) k 0
  cut-loose =
      let lo = whole.low in
      record {
        order = omega arith;
        used = omega arith;
        some = some;
        low = λ j p. absurd (omega arith);
        due = λ j p q. cut-due j q;
        high = λ j p q. by_lt j (end + k) (λ o. inner j (omega arith) o) (λ o. moved-right ws vs n at end k ordered low high rests j o q);
      }

-- With the leaf of k slots before the lower part
module _ (ws vs : List ℕ) (n at k m : ℕ) (rests : (j : ℕ) → j < n → Rests ws n j) (used : at < n) (one : 1 ≤ m) (cut : m ≤ len_of ws at)
    (low : (i : ℕ) → i < at → Like ws vs i i) (upper : Upper ws vs at m) (lower : Lower ws vs at (at + 1 + k) m)
    (high : (i : ℕ) → at < i → i < n → Like ws vs i (i + (1 + k))) (leaf : Leafy vs (at + 1) k (start_of ws at + m)) where
  all : Covers ws n at (at + span_of ws at)
  all = (rests at used).covers

  behind : (i : ℕ) → at + 1 ≤ i → i < n → Like ws vs i (i + (1 + k))
  behind i p q = high i (omega arith) q

  start-behind : (x : ℕ) → at + 1 + k < x → x < n + (1 + k) → start_of vs x ≡ start_of ws (x - (1 + k))
  start-behind x p q = start-moved ws vs n at (at + 1) (1 + k) (omega arith) low behind x (omega arith) q

  under-before : (x : ℕ) → at < x → x < at + span_of ws at + (1 + k) → start_of ws at + m ≤ start_of vs x
  under-before x p q =
      let hi = all.high in
      by_lt x (at + 1 + k)
      (λ l. leaf.starts x (omega arith) l)
      (λ l.
      by_lt (at + 1 + k) x
      (λ g. omega (arith, start-behind x g (omega arith), all.inside (x - (1 + k)) (omega arith) (omega arith)))
      (λ g. let z : start_of vs x ≡ start_of vs (at + 1 + k) = start-at vs (omega arith) in omega (arith, lower.start)))

  lower_covers : Covers vs (n + (1 + k)) (at + 1 + k) (at + span_of ws at + (1 + k))
  lower_covers =
      let lo = all.low in
      let hi = all.high in
      record {
        low = omega arith;
        high = omega arith;
        inside = λ x p q. omega (arith, lower.len, start-behind x p (omega arith), all.inside (x - (1 + k)) (omega arith) (omega arith));
        stop = λ p. let e = at + span_of ws at in omega (arith, lower.len, (high e (omega arith) (omega arith)).start, all.stop (omega arith));
      }

  inner_before : (x : ℕ) → at < x → x < at + span_of ws at + (1 + k) → Covers vs (n + (1 + k)) x (x + span_of vs x)
  inner_before x p q =
      let hi = all.high in
      by_lt x (at + 1 + k)
      (λ l. leafy_covers vs (n + (1 + k)) (at + 1) k (start_of ws at + m) leaf (omega arith) (λ o. omega (arith, lower.start)) x (omega arith) l)
      (λ l.
      by_lt (at + 1 + k) x
      (λ g. moved-right ws vs n at (at + 1) (1 + k) (omega arith) low behind rests x (omega arith) (omega arith))
      (λ g.
      let z : at + 1 + k ≡ x = omega arith in
      let y : span_of vs (at + 1 + k) ≡ span_of vs x = ap (span_of vs) z in
      covers_at z (omega (arith, lower.span)) lower_covers))

  pub before-loose : Loose vs (n + (1 + k)) (at + 1) (1 + k) 0
  before-loose =
      cut-loose ws vs n at (at + span_of ws at) (1 + k) m rests used refl one (omega arith) low upper (λ i p q. high i (omega (arith, all.low)) q) under-before inner_before

-- With the leaf behind the lower part's subtree, which ends at `end`
module _ (ws vs : List ℕ) (n at end k m : ℕ) (rests : (j : ℕ) → j < n → Rests ws n j) (used : at < n) (ended : end ≡ at + span_of ws at) (one : 1 ≤ m) (cut : m < len_of ws at) (some : 1 ≤ k)
    (low : (i : ℕ) → i < at → Like ws vs i i) (upper : Upper ws vs at m) (lower : Lower ws vs at (at + 1) m)
    (mid : (i : ℕ) → at < i → i < end → Like ws vs i (i + 1)) (high : (i : ℕ) → end ≤ i → i < n → Like ws vs i (i + (1 + k)))
    (leaf : Leafy vs (end + 1) k (start_of ws at + m)) where
  full : Covers ws n at end
  full = covers_to (sym ended) (rests at used).covers

  start-mid : (x : ℕ) → at + 1 < x → x < end + 1 → start_of vs x ≡ start_of ws (x - 1)
  start-mid x p q = start-at vs (omega arith) ∙ (mid (x - 1) (omega arith) (omega arith)).start

  under-behind : (x : ℕ) → at < x → x < end + (1 + k) → start_of ws at + m ≤ start_of vs x
  under-behind x p q =
      by_lt (at + 1) x
      (λ l.
      by_lt x (end + 1)
      (λ g. omega (arith, start-mid x l g, full.inside (x - 1) (omega arith) (omega arith)))
      (λ g. leaf.starts x g (omega arith)))
      (λ l. let z : start_of vs x ≡ start_of vs (at + 1) = start-at vs (omega arith) in omega (arith, lower.start))

  back_covers : Covers vs (n + (1 + k)) (at + 1) (end + 1)
  back_covers =
      let lo = full.low in
      let hi = full.high in
      record {
        low = omega arith;
        high = omega arith;
        inside = λ x p q. omega (arith, lower.len, start-mid x p q, full.inside (x - 1) (omega arith) (omega arith));
        stop = λ p. omega (arith, lower.len, leaf.first (omega arith));
      }

  kid_covers : (i e : ℕ) → at < i → i < end → Covers ws n i e → Covers vs (n + (1 + k)) (i + 1) (e + 1)
  kid_covers i e p q v =
      let b = mid i p q in
      let lo = v.low in
      let hi = full.high in
      let near = covers_nested full v p q in
      let deep = full.inside i p q in
      record {
        low = omega arith;
        high = omega arith;
        inside = λ x o r. omega (arith, b.start, b.len, start-mid x (omega arith) (omega arith), v.inside (x - 1) (omega arith) (omega arith));
        stop = λ o.
            by_lt e end
            (λ l.
            let g : start_of ws (e + 1 - 1) ≡ start_of ws e = start-at ws (omega arith) in
            omega (arith, b.start, b.len, start-mid (e + 1) (omega arith) (omega arith), v.stop (omega arith)))
            (λ l.
            let g : start_of vs (e + 1) ≡ start_of vs (end + 1) = start-at vs (omega arith) in
            omega (arith, b.start, b.len, leaf.first (omega arith)));
      }

  inner_behind : (x : ℕ) → at < x → x < end + (1 + k) → Covers vs (n + (1 + k)) x (x + span_of vs x)
  inner_behind x p q =
      let hi = full.high in
      by_lt x (end + 1)
      (λ l.
      by_lt (at + 1) x
      (λ g.
      let i = x - 1 in
      let b = (mid i (omega arith) (omega arith)).span in
      let z : i + 1 ≡ x = omega arith in
      let y : span_of vs (i + 1) ≡ span_of vs x = ap (span_of vs) z in
      covers_at z (omega arith) (kid_covers i (i + span_of ws i) (omega arith) (omega arith) (rests i (omega arith)).covers))
      (λ g.
      let z : at + 1 ≡ x = omega arith in
      let y : span_of vs (at + 1) ≡ span_of vs x = ap (span_of vs) z in
      covers_at z (omega (arith, lower.span)) back_covers))
      (λ l.
      leafy_covers vs (n + (1 + k)) (end + 1) k (start_of ws at + m) leaf (omega arith)
      (λ o.
      let z : start_of vs (end + 1 + k) ≡ start_of vs (end + (1 + k)) = start-at vs (omega arith) in
      let g : start_of ws end ≡ start_of ws (at + span_of ws at) = start-at ws ended in
      omega (arith, (high end (omega arith) (omega arith)).start, (rests at used).flat (omega arith)))
      x l (omega arith))

  pub behind-loose : Loose vs (n + (1 + k)) (at + 1) (1 + k) 0
  behind-loose = cut-loose ws vs n at end (1 + k) m rests used ended one (omega arith) low upper high under-behind inner_behind
