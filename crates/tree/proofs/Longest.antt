-- The longest stored prefix that a search finds is the map's. Assumes nothing.
use mathlib.Core.Path.{◌≡◌, refl, sym, ◌∙◌}
use mathlib.Core.List.{[], ◌∷◌, ◌++◌, append-nil}
use mathlib.Core.Option.{Option, none, some}
use Prim.Native.Nat.{ℕ, suc, ◌+◌, ◌<◌, compare}
use native.Mathlib.Nat.{add_assoc, add-zero, zero-add}
use native.Mathlib.Omega.{arith}
use lib.ListN.{length, length-append}
use Rattle.tree.specs.Key.{Key, strip}
use Rattle.tree.specs.Map.{Num, Pairs, longer, longest}
use Rattle.tree.specs.Tree.{Forest, nil, node, Tree, WellFormed, labelled, own, pairs_f, pairs_t}
use Rattle.tree.specs.Search.{looks_f, looks_t, met, longest_in, longest_t}
use Rattle.tree.proofs.Order.{less, even, more, cmp, cmp_lt, cmp_gt, cmp_refl}
use Rattle.tree.proofs.Parts.{alike, inside, beyond, apart, parted, starts, not, stripped, strip-under, strip_differs}
use Rattle.tree.proofs.Looks.{looks_lt, looks_gt, looks_same, looks_key_ends, looks_label_ends, looks_fork}
use Rattle.tree.proofs.Shapes.{Rising, wf-rising}
use Rattle.tree.proofs.Heads.{Begins, Foreign, AllForeign, labelled_foreign, empty_foreign, Blind, ask_foreign, ask_lt, ask_eq, ask_gt, labelled-append}

-- A stored prefix: its length and number, if there is one
abbrev Found : Type 0
Found = Option (ℕ × ℕ)

-- the same, seen from d bytes further up
unfoldable deeper : ℕ → Found → Found
deeper d none = none
deeper d (some x) = some (d + x.0, x.1)

-- the second, if there is one
unfoldable latest : Found → Found → Found
latest best none = best
latest best (some x) = some x

deeper_deeper : (d n : ℕ) (o : Found) → deeper d (deeper n o) ≡ deeper (d + n) o
unfolding deeper
deeper_deeper d n none = refl
deeper_deeper d n (some x) = rw (add_assoc d n x.0)

deeper_zero : (o : Found) → deeper 0 o ≡ o
unfolding deeper
deeper_zero none = refl
deeper_zero (some x) = rw (zero-add x.0)

latest_none : (o : Found) → latest none o ≡ o
unfolding latest
latest_none none = refl
latest_none (some x) = refl

-- A node's own number n bytes down, and what is found below it
latest_met : (n : ℕ) (w : Num) (best o : Found) → latest (met n w best) (deeper n o) ≡ latest best (deeper n (latest (met 0 w none) o))
unfolding deeper latest met
latest_met n w best (some x) = refl
latest_met n none best none = refl
latest_met n (some v) best none = rw (add-zero n)

compare-under : (d a b : ℕ) → compare (d + a) (d + b) ≡ compare a b
compare-under d a b =
    elim (cmp a b) [
      | less h e ↦ cmp_lt (d + a) (d + b) (omega arith) ∙ sym e
      | even h e ↦ rw h (cmp_refl (d + b) ∙ sym (cmp_refl b))
      | more h e ↦ cmp_gt (d + a) (d + b) (omega arith) ∙ sym e
    ]

longer_deeper : (d : ℕ) (a : ℕ × ℕ) (o : Found) → longer (d + a.0, a.1) (deeper d o) ≡ deeper d (longer a o)
unfolding deeper longer
longer_deeper d a none = refl
longer_deeper d a (some b) =
    elim (cmp a.0 b.0) [
      | less h e ↦ rw (compare-under d a.0 b.0, longer, e)
      | even h e ↦ rw (compare-under d a.0 b.0, longer, e)
      | more h e ↦ rw (compare-under d a.0 b.0, longer, e)
    ]

-- A key that starts the query counts, another does not.
module _ (k : Key) (v : ℕ) (m : Pairs) (q : Key) where
  longest_hit : (r : Key) → strip k q ≡ some r → longest ((k, v) ∷ m) q ≡ longer (length k, v) (longest m q)
  unfolding longest
  longest_hit r e = rw (e, longest)

  longest_miss : strip k q ≡ none → longest ((k, v) ∷ m) q ≡ longest m q
  unfolding longest
  longest_miss e = rw (e, longest)

strip_foreign : (k q : Key) → Begins (Foreign q) k → strip k q ≡ none
strip_foreign [] q h = absurd h
strip_foreign (x ∷ k) [] h = unfold strip in refl
strip_foreign (x ∷ k) (c ∷ q) h = strip_differs x k c q h

longest-before : (m n : Pairs) (q : Key) → AllForeign q m → longest (m ++ n) q ≡ longest n q
longest-before [] n q h = refl
longest-before (x ∷ m) n q h = longest_miss x.0 x.1 (m ++ n) q (strip_foreign x.0 q h.0) ∙ longest-before m n q h.1

longest-behind : (m n : Pairs) (q : Key) → AllForeign q n → longest (m ++ n) q ≡ longest m q
longest-behind [] n q h = rw append-nil at (longest-before n [] q h)
longest-behind (x ∷ m) n q h =
    let ih = longest-behind m n q h in
    elim (stripped x.0 q) [
      | starts r i e ↦ cc (longest_hit x.0 x.1 (m ++ n) q r e, longest_hit x.0 x.1 m q r e)
      | not e ↦ cc (longest_miss x.0 x.1 (m ++ n) q e, longest_miss x.0 x.1 m q e)
    ]

longest_blind : Blind longest
longest_blind = record { before = longest-before; behind = longest-behind }

longest_foreign : (m : Pairs) (q : Key) → AllForeign q m → longest m q ≡ none
unfolding longest
longest_foreign = ask_foreign longest longest_blind

longest-under : (p : Key) (m : Pairs) (q : Key) → longest (labelled p m) (p ++ q) ≡ deeper (length p) (longest m q)
unfolding labelled
longest-under p [] q = unfold longest deeper in refl
longest-under p (x ∷ m) q =
    let ih = longest-under p m q in
    let s = strip-under p x.0 q in
    let n = length-append p x.0 in
    elim (stripped x.0 q) [
      | starts r i e ↦
          cc (longest_hit (p ++ x.0) x.1 (labelled p m) (p ++ q) r (s ∙ e), longest_hit x.0 x.1 m q r e, longer_deeper (length p) (length x.0, x.1) (longest m q))
      | not e ↦ cc (longest_miss (p ++ x.0) x.1 (labelled p m) (p ++ q) (s ∙ e), longest_miss x.0 x.1 m q e)
    ]

-- Below a node every key has a byte, so that what is found there is longer than the node's own empty key.
abbrev Positive : Found → Type 0
Positive none = Unit {0}
Positive (some x) = 0 < x.0

longer_positive : (a : ℕ × ℕ) (o : Found) → 0 < a.0 → Positive (longer a o)
unfolding longer
longer_positive a none h = h
longer_positive a (some b) h = elim (cmp a.0 b.0) [ less i e ↦ rw (e, longer) (omega arith) | even i e ↦ rw (e, longer) h | more i e ↦ rw (e, longer) h ]

longest_positive : (m : Pairs) (q : Key) → AllForeign [] m → Positive (longest m q)
longest_positive [] q h = unfold longest in tt
longest_positive (x ∷ m) q h =
    elim (stripped x.0 q) [
      | starts r i e ↦ rw (longest_hit x.0 x.1 m q r e) (longer_positive (length x.0, x.1) (longest m q) (long x.0 h.0))
      | not e ↦ rw (longest_miss x.0 x.1 m q e) (longest_positive m q h.1)
    ]
  where
    long : (k : Key) → Begins (Foreign []) k → 0 < length k
    long [] h = absurd h
    long (x ∷ k) h = omega arith

longer_latest : (v : ℕ) (o : Found) → Positive o → longer (0, v) o ≡ latest (some (0, v)) o
unfolding longer latest
longer_latest v none h = refl
longer_latest v (some x) h = rw (cmp_lt 0 x.0 h, longer)

longest-own : (w : Num) (f : Forest) (q : Key) → longest (own w (pairs_f f)) q ≡ latest (met 0 w none) (longest (pairs_f f) q)
unfolding own met
longest-own none f q = sym (latest_none (longest (pairs_f f) q))
longest-own (some v) f q = longest_hit [] v (pairs_f f) q q (unfold strip in refl) ∙ longer_latest v (longest (pairs_f f) q) (longest_positive (pairs_f f) q (empty_foreign f))

-- a query that leaves a label behind the bytes p
longest-leaves : (p : Key) (x : ℕ) (l : Key) (m : Pairs) (q : Key) → Foreign q x → longest (labelled (p ++ x ∷ l) m) (p ++ q) ≡ none
longest-leaves p x l m q h =
    let n = labelled (x ∷ l) m in
    rw (labelled-append p (x ∷ l) m, longest-under p n q, longest_foreign n q (labelled_foreign q x l m h)) (unfold deeper in refl)

-- the empty query
longest-empty : (w : Num) (f : Forest) → longest (own w (pairs_f f)) [] ≡ met 0 w none
unfolding latest
longest-empty w f = longest-own w f [] ∙ rw (longest_foreign (pairs_f f) [] (empty_foreign f))

-- What the search of a forest finds, d bytes down, overrides what was found before.
longest_f_is : (f : Forest) → Rising f → (best : Found) (d c : ℕ) (q : Key) → longest_in best (looks_f d f c q) ≡ latest best (deeper d (longest (pairs_f f) (c ∷ q)))
unfolding longest_in
longest_f_is nil r best d c q = unfold looks_f pairs_f longest deeper latest in refl
longest_f_is (node b l w kids rest) r best d c q =
    let m = own w (pairs_f kids) in
    elim (cmp c b) [
      | less i e ↦ rw (looks_lt d b l w kids rest c q i, ask_lt longest longest_blind b l w kids rest r c q i) (unfold longest deeper latest in refl)
      | even i e ↦
          let here = ask_eq longest longest_blind b l w kids rest r c q i in
          elim (parted q l) [
            | alike j s ↦
                let g : longest (labelled (b ∷ l) m) (c ∷ q) ≡ deeper (suc (length l)) (met 0 w none) = cc (append-nil l, longest-under (b ∷ l) m [], longest-empty w kids) in
                rw (looks_same d b l w kids rest c q i s, here, g, deeper_deeper d (suc (length l)) (met 0 w none)) (unfold deeper latest in (latest_met (d + suc (length l)) w best none))
            | inside x k j s ↦
                let g : longest (labelled (b ∷ l) m) (c ∷ q) ≡ none = cc (append-nil q, longest-leaves (b ∷ q) x k m [] tt) in
                rw (looks_key_ends d b l w kids rest c q x k i s, here, g) (unfold deeper latest in refl)
            | beyond y k j s ↦
                let n = suc (length l) in
                let o = longest (pairs_f kids) (y ∷ k) in
                let g : longest (labelled (b ∷ l) m) (c ∷ q) ≡ deeper n (latest (met 0 w none) o) = cc (longest-under (b ∷ l) m (y ∷ k), longest-own w kids (y ∷ k)) in
                rw (looks_label_ends d b l w kids rest c q y k i s, here, g, deeper_deeper d n (latest (met 0 w none) o))
                (longest_f_is kids r.1 (met (d + n) w best) (d + n) y k ∙ latest_met (d + n) w best o)
            | apart p y k x k₁ j j₁ ne s ↦
                let g : longest (labelled (b ∷ l) m) (c ∷ q) ≡ none = cc (longest-leaves (b ∷ p) x k₁ m (y ∷ k) ne) in
                rw (looks_fork d b l w kids rest c q p y k x k₁ i s, here, g) (unfold deeper latest in refl)
          ]
      | more i e ↦ rw (looks_gt d b l w kids rest c q i, ask_gt longest longest_blind b l w kids rest r c q i) (longest_f_is rest r.2 best d c q)
    ]

pub longest-is : (t : Tree) → WellFormed t → (q : Key) → longest_t t q ≡ longest (pairs_t t) q
unfolding longest_t looks_t longest_in pairs_t
longest-is t h [] = sym (longest-empty t.num t.kids)
longest-is t h (c ∷ q) =
    let o = longest (pairs_f t.kids) (c ∷ q) in
    cc (longest_f_is t.kids (wf-rising t.kids 0 h) (met 0 t.num none) 0 c q, deeper_zero o, longest-own t.num t.kids (c ∷ q))
