-- After a new leaf stands in its place only the spans of its ancestors are short, by as many slots as are new. Assumes nothing.
use mathlib.Core.Path.{◌≡◌, sym, ap, ◌∙◌, subst}
use mathlib.Core.List.{List, [], ◌∷◌}
use Prim.Native.Nat.{ℕ, suc, ◌+◌, ◌-◌, ◌≤◌, ◌<◌}
use native.Mathlib.Omega.{arith}
use lib.ListN.{length}
use Rattle.label.proofs.Moves.{by_lt}
use Rattle.slots.specs.Layout.{start_of, len_of, span_of}
use Rattle.tree.specs.Key.{Key}
use Rattle.slots.specs.Bare.{Bare, bare_at, bares_from}
use Rattle.splice.specs.Spans.{Covers, Due, right, short, Loose}
use Rattle.slots.proofs.Runs.{run_cons}
use Rattle.splice.proofs.Bares.{start_is, len_is}
use Rattle.splice.proofs.Spans.{Rests, covers_to}
use Rattle.insert.specs.Splices.{leaf_bares, Built}
use Rattle.insert.proofs.Leaves.{Chained, leaf_chained}

-- Slot x says what slot i said, with its span.
pub record Like (ws vs : List ℕ) (i x : ℕ) : Type 0 where
  pub start : start_of vs x ≡ start_of ws i
  pub len : len_of vs x ≡ len_of ws i
  pub span : span_of vs x ≡ span_of ws i

pub like : (ws bs vs cs : List ℕ) (i x : ℕ) → bare_at vs cs x ≡ bare_at ws bs i → span_of vs x ≡ span_of ws i → Like ws vs i x
unfolding bare_at
like ws bs vs cs i x e s = record { start = ap (λ (y : Bare). y.start) e; len = ap (λ (y : Bare). y.len) e; span = s }

-- a slot under another name
pub covers_at : {vs : List ℕ} {n j e j' e' : ℕ} → j ≡ j' → e ≡ e' → Covers vs n j e → Covers vs n j' e'
covers_at {vs} {n} {j} {e} {j'} {e'} p q v = subst (λ (x : ℕ). Covers vs n x e') p (covers_to q v)

pub start-at : (vs : List ℕ) {x y : ℕ} → x ≡ y → start_of vs x ≡ start_of vs y
start-at vs e = ap (start_of vs) e

-- The k slots from a on are a leaf under a path of s bytes: one under another, with their spans.
pub record Leafy (vs : List ℕ) (a k s : ℕ) : Type 0 where
  pub first : 0 < k → start_of vs a ≡ s
  pub starts : (x : ℕ) → a ≤ x → x < a + k → s ≤ start_of vs x
  pub ends : (x : ℕ) → a ≤ x → x < a + k → s < start_of vs x + len_of vs x
  pub below : (x y : ℕ) → a ≤ x → x < y → y < a + k → start_of vs x + len_of vs x ≤ start_of vs y
  pub spans : (x : ℕ) → a ≤ x → x < a + k → x + span_of vs x ≡ a + k

pub leafy_kept : (us vs : List ℕ) (a k s : ℕ) → ((x : ℕ) → a ≤ x → x < a + k → Like us vs x x) → Leafy us a k s → Leafy vs a k s
leafy_kept us vs a k s h l =
    record {
      first = λ p. (h a (omega arith) (omega arith)).start ∙ l.first p;
      starts = λ x p q. omega (arith, (h x p q).start, l.starts x p q);
      ends = λ x p q. omega (arith, (h x p q).start, (h x p q).len, l.ends x p q);
      below = λ x y p q r. omega (arith, (h x p (omega arith)).start, (h x p (omega arith)).len, (h y (omega arith) r).start, l.below x y p q r);
      spans = λ x p q. omega (arith, (h x p q).span, l.spans x p q);
    }

pub leafy_none : (vs : List ℕ) (a s : ℕ) → Leafy vs a 0 s
leafy_none vs a s =
    record {
      first = λ p. absurd (omega arith);
      starts = λ x p q. absurd (omega arith);
      ends = λ x p q. absurd (omega arith);
      below = λ x y p q r. absurd (omega arith);
      spans = λ x p q. absurd (omega arith);
    }

-- The records of a chain, with their spans
chained_leafy : (vs cs : List ℕ) (xs : List Bare) (a s : ℕ) → bares_from vs cs a (length xs) ≡ xs → Chained s xs
    → ((x : ℕ) → a ≤ x → x < a + length xs → x + span_of vs x ≡ a + length xs) → Leafy vs a (length xs) s
chained_leafy vs cs [] a s e h sp = leafy_none vs a s
chained_leafy vs cs (y ∷ xs) a s e h sp =
    let c : bare_at vs cs a ∷ bares_from vs cs (suc a) (length xs) ≡ y ∷ xs = sym (run_cons (bare_at vs cs) a (length xs)) ∙ e in
    let here : bare_at vs cs a ≡ y = cc in
    let r = chained_leafy vs cs xs (suc a) (s + y.len) (cc) h.2 (λ x p q. omega (arith, sp x (omega arith) (omega arith))) in
    let st = start_is vs cs a y here ∙ h.0 in
    let ln = len_is vs cs a y here in
    let one = h.1 in
    let up : (x : ℕ) → a < x → x < a + suc (length xs) → s + y.len ≤ start_of vs x = λ x p q. r.starts x (omega arith) (omega arith) in
    record {
      first = λ p. st;
      starts = λ x p q. by_lt a x (λ l. omega (arith, up x l q)) (λ l. let z : start_of vs x ≡ start_of vs a = start-at vs (omega arith) in omega arith);
      ends = λ x p q.
          by_lt a x
          (λ l. omega (arith, r.ends x (omega arith) (omega arith)))
          (λ l.
          let z : x ≡ a = omega arith in
          omega (arith, start-at vs z, ap (len_of vs) z));
      below = λ x z p q t.
          by_lt a x
          (λ l. r.below x z (omega arith) q (omega arith))
          (λ l.
          let g : x ≡ a = omega arith in
          omega (arith, start-at vs g, ap (len_of vs) g, up z (omega arith) t));
      spans = sp;
    }

pub built_leafy : (us ds vs cs : List ℕ) (a s : ℕ) (q : Key) (v k : ℕ) → 1 ≤ length q → length (leaf_bares s q v) ≡ k → Built us ds vs cs a (leaf_bares s q v) → Leafy vs a k s
built_leafy us ds vs cs a s q v k h e b =
    subst (λ (x : ℕ). Leafy vs a x s) e (chained_leafy vs cs (leaf_bares s q v) a s b.slots (leaf_chained s q v h) b.new_span)

-- Its slots are right where the next slot starts no deeper.
pub leafy_covers : (vs : List ℕ) (n a k s : ℕ) → Leafy vs a k s → a + k ≤ n → (a + k < n → start_of vs (a + k) ≤ s) → (x : ℕ) → a ≤ x → x < a + k → Covers vs n x (x + span_of vs x)
leafy_covers vs n a k s l h next x p q =
    covers_to (sym (l.spans x p q))
    (record {
      low = q;
      high = h;
      inside = λ i o r. l.below x i p o r;
      stop = λ o. omega (arith, next o, l.ends x p q);
    })

-- The slots before a stay, and those from f on stand k slots higher.
module _ (ws vs : List ℕ) (n a f k : ℕ) (order : a ≤ f) (low : (i : ℕ) → i < a → Like ws vs i i) (high : (i : ℕ) → f ≤ i → i < n → Like ws vs i (i + k)) where
  pub start-moved : (x : ℕ) → f + k ≤ x → x < n + k → start_of vs x ≡ start_of ws (x - k)
  start-moved x p q = start-at vs (omega arith) ∙ (high (x - k) (omega arith) (omega arith)).start

  -- what a moved slot covers moves along
  moved_covers : (i e : ℕ) → f ≤ i → i < n → Covers ws n i e → Covers vs (n + k) (i + k) (e + k)
  moved_covers i e p q v =
      let b = high i p q in
      let lo = v.low in
      let hi = v.high in
      record {
        low = omega arith;
        high = omega arith;
        inside = λ x o r. omega (arith, b.start, b.len, start-moved x (omega arith) (omega arith), v.inside (x - k) (omega arith) (omega arith));
        stop = λ o.
            let g : start_of ws (e + k - k) ≡ start_of ws e = start-at ws (omega arith) in
            omega (arith, b.start, b.len, start-moved (e + k) (omega arith) o, v.stop (omega arith));
      }

  pub moved-right : ((j : ℕ) → j < n → Rests ws n j) → (x : ℕ) → f + k ≤ x → x < n + k → Covers vs (n + k) x (x + span_of vs x)
  moved-right rests x p q =
      let i = x - k in
      let b = (high i (omega arith) (omega arith)).span in
      let z : i + k ≡ x = omega arith in
      let y : span_of vs (i + k) ≡ span_of vs x = ap (span_of vs) z in
      covers_at z (omega arith) (moved_covers i (i + span_of ws i) (omega arith) (omega arith) (rests i (omega arith)).covers)

  -- a slot that ends before the new ones
  pub front_covers : (j e : ℕ) → j < a → e ≤ a → Covers ws n j e → (e < n + k → start_of vs e < start_of ws j + len_of ws j) → Covers vs (n + k) j e
  front_covers j e p q v stop =
      let b = low j p in
      let hi = v.high in
      record {
        low = v.low;
        high = omega arith;
        inside = λ i o r. omega (arith, b.start, b.len, (low i (omega arith)).start, v.inside i o r);
        stop = λ o. omega (arith, b.start, b.len, stop o);
      }

  -- a slot to which the new ones belong
  pub grown_covers : (j e : ℕ) → j < a → f ≤ e → Covers ws n j e → ((x : ℕ) → a ≤ x → x < f + k → start_of ws j + len_of ws j ≤ start_of vs x) → Covers vs (n + k) j (e + k)
  grown_covers j e p q v mid =
      let b = low j p in
      let hi = v.high in
      record {
        low = omega arith;
        high = omega arith;
        inside = λ i o r.
            by_lt i a
            (λ m. omega (arith, b.start, b.len, (low i m).start, v.inside i o (omega arith)))
            (λ m.
            by_lt i (f + k)
            (λ z. omega (arith, b.start, b.len, mid i m z))
            (λ z. omega (arith, b.start, b.len, start-moved i z (omega arith), v.inside (i - k) (omega arith) (omega arith))));
        stop = λ o.
            let g : start_of ws (e + k - k) ≡ start_of ws e = start-at ws (omega arith) in
            omega (arith, b.start, b.len, start-moved (e + k) (omega arith) o, v.stop (omega arith));
      }

-- A leaf of k slots at slot a, where what stood there starts no deeper
module _ (ws vs : List ℕ) (n a k s : ℕ) (rests : (j : ℕ) → j < n → Rests ws n j) (most : a ≤ n) (some : 1 ≤ k) (beside : a < n → start_of ws a ≤ s)
    (low : (i : ℕ) → i < a → Like ws vs i i) (high : (i : ℕ) → a ≤ i → i < n → Like ws vs i (i + k)) (leaf : Leafy vs a k s) where
  leaf-due : (j : ℕ) → j < a → Due vs (n + k) a k j
  leaf-due j p =
      let e = j + span_of ws j in
      let v = (rests j (omega arith)).covers in
      let q = (low j p).span in
      let front = front_covers ws vs n a a k (omega arith) low high j in
      by_lt e a
      (λ o. right (covers_to (omega arith) (front e p (omega arith) v (λ l. omega (arith, (low e o).start, v.stop (omega arith))))) (omega arith))
      (λ o.
      by_lt s (start_of ws j + len_of ws j)
      (λ h.
      let z : e ≡ a = by_lt a e (λ l. absurd (omega (arith, v.inside a p l, beside (omega (arith, v.high))))) (λ l. omega arith) in
      right (covers_to (omega arith) (front a p (omega arith) (covers_to z v) (λ l. omega (arith, leaf.first (omega arith))))) (omega arith))
      (λ h.
      short (covers_to (omega arith) (grown_covers ws vs n a a k (omega arith) low high j e p o v (λ x l m. omega (arith, leaf.starts x l m)))) (omega arith)))

  pub leaf-loose : Loose vs (n + k) a k 0
  leaf-loose =
      record {
        order = omega arith;
        used = omega arith;
        some = some;
        low = λ j p. absurd (omega arith);
        due = λ j p q. leaf-due j q;
        high = λ j p q.
            by_lt j (a + k)
            (λ o. leafy_covers vs (n + k) a k s leaf (omega arith) (λ l. omega (arith, (high a (omega arith) (omega arith)).start, beside (omega arith))) j p o)
            (λ o. moved-right ws vs n a a k (omega arith) low high rests j o q);
      }
