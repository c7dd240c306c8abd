-- The longest shared length that a search finds is the map's. Assumes nothing.
use mathlib.Core.Path.{◌≡◌, refl, sym, ◌∙◌}
use mathlib.Core.List.{[], ◌∷◌, ◌++◌, append-nil}
use mathlib.Core.Option.{none, some}
use Prim.Native.Nat.{ℕ, suc, ◌+◌, max}
use native.Mathlib.Omega.{arith}
use lib.ListN.{length}
use Rattle.tree.specs.Key.{Key, common}
use Rattle.tree.specs.Map.{Num, Pairs, shared}
use Rattle.tree.specs.Tree.{Forest, nil, node, Tree, WellFormed, labelled, own, pairs_f, pairs_t}
use Rattle.tree.specs.Search.{looks_f, looks_t, shared_in, shared_t}
use Rattle.tree.proofs.Order.{less, even, more, cmp, cmp_refl}
use Rattle.tree.proofs.Parts.{alike, inside, beyond, apart, parted}
use Rattle.tree.proofs.Looks.{looks_lt, looks_gt, looks_same, looks_key_ends, looks_label_ends, looks_fork}
use Rattle.tree.proofs.Shapes.{Rising, Bearing, wf-rising, wf_bearing}
use Rattle.tree.proofs.Heads.{Begins, Foreign, AllForeign, labelled_foreign, empty_foreign, Blind, ask_lt, ask_eq, ask_gt, labelled-append, Some, labelled-some, pairs_some}

-- What two keys share
common_foreign : (k q : Key) → Begins (Foreign q) k → common k q ≡ 0
unfolding common
common_foreign [] q h = absurd h
common_foreign (x ∷ k) [] h = refl
common_foreign (x ∷ k) (c ∷ q) h = elim (cmp x c) [ less i e ↦ rw (e, common) | even i e ↦ absurd (h (sym i)) | more i e ↦ rw (e, common) ]

common-under : (p k q : Key) → common (p ++ k) (p ++ q) ≡ length p + common k q
unfolding common
common-under [] k q = omega arith
common-under (x ∷ p) k q = rw (cmp_refl x, common) (omega (arith, common-under p k q))

-- What a query shares with a list
shared-append : (m n : Pairs) (q : Key) → shared (m ++ n) q ≡ max (shared m q) (shared n q)
unfolding shared
shared-append [] n q = omega arith
shared-append (x ∷ m) n q = omega (arith, shared-append m n q)

shared_foreign : (m : Pairs) (q : Key) → AllForeign q m → shared m q ≡ 0
unfolding shared
shared_foreign [] q h = refl
shared_foreign (x ∷ m) q h = omega (arith, common_foreign x.0 q h.0, shared_foreign m q h.1)

shared_blind : Blind shared
shared_blind = record {
  before = λ m n q h. omega (arith, shared-append m n q, shared_foreign m q h);
  behind = λ m n q h. omega (arith, shared-append m n q, shared_foreign n q h);
}

shared-under : (p : Key) (m : Pairs) (q : Key) → Some m → shared (labelled p m) (p ++ q) ≡ length p + shared m q
unfolding shared labelled
shared-under p [] q h = absurd h
shared-under p (x ∷ []) q h = omega (arith, common-under p x.0 q)
shared-under p (x ∷ y ∷ m) q h = omega (arith, common-under p x.0 q, shared-under p (y ∷ m) q tt)

shared-own : (w : Num) (m : Pairs) (q : Key) → shared (own w m) q ≡ shared m q
unfolding own shared common
shared-own none m q = refl
shared-own (some v) m q = omega arith

-- the empty query
shared-empty : (w : Num) (f : Forest) → shared (own w (pairs_f f)) [] ≡ 0
shared-empty w f = shared-own w (pairs_f f) [] ∙ shared_foreign (pairs_f f) [] (empty_foreign f)

-- a query that leaves a label behind the bytes p
shared-leaves : (p : Key) (x : ℕ) (l : Key) (m : Pairs) (q : Key) → Some m → Foreign q x → shared (labelled (p ++ x ∷ l) m) (p ++ q) ≡ length p
shared-leaves p x l m q s h =
    let n = labelled (x ∷ l) m in
    rw (labelled-append p (x ∷ l) m) (omega (arith, shared-under p n q (labelled-some (x ∷ l) m s), shared_foreign n q (labelled_foreign q x l m h)))

-- The search of a forest, d bytes down
shared_f_is : (f : Forest) → Rising f → Bearing f → (d c : ℕ) (q : Key) → shared_in d (looks_f d f c q) ≡ d + shared (pairs_f f) (c ∷ q)
unfolding shared_in
shared_f_is nil r b d c q = unfold looks_f pairs_f shared in (omega arith)
shared_f_is (node b l w kids rest) r h d c q =
    let m = own w (pairs_f kids) in
    let full : Some m = pairs_some (node b l w kids rest) h in
    elim (cmp c b) [
      | less i e ↦ rw (looks_lt d b l w kids rest c q i, ask_lt shared shared_blind b l w kids rest r c q i) (unfold shared in (omega arith))
      | even i e ↦
          let here = ask_eq shared shared_blind b l w kids rest r c q i in
          elim (parted q l) [
            | alike j s ↦
                let g : shared (labelled (b ∷ l) m) (c ∷ q) ≡ suc (length l) + shared m [] = cc (append-nil l, shared-under (b ∷ l) m [] full) in
                rw (looks_same d b l w kids rest c q i s, here) (omega (arith, shared-empty w kids))
            | inside x k j s ↦
                let g : shared (labelled (b ∷ l) m) (c ∷ q) ≡ suc (length q) = cc (append-nil q, shared-leaves (b ∷ q) x k m [] full tt) in
                rw (looks_key_ends d b l w kids rest c q x k i s, here) (omega arith)
            | beyond y k j s ↦
                let g : shared (labelled (b ∷ l) m) (c ∷ q) ≡ suc (length l) + shared m (y ∷ k) = cc (shared-under (b ∷ l) m (y ∷ k) full) in
                let below = shared_f_is kids r.1 h.1 (d + suc (length l)) y k in
                rw (looks_label_ends d b l w kids rest c q y k i s, here) (omega (arith, shared-own w (pairs_f kids) (y ∷ k)))
            | apart p y k x k₁ j j₁ ne s ↦
                let g : shared (labelled (b ∷ l) m) (c ∷ q) ≡ suc (length p) = cc (shared-leaves (b ∷ p) x k₁ m (y ∷ k) full ne) in
                rw (looks_fork d b l w kids rest c q p y k x k₁ i s, here) (omega arith)
          ]
      | more i e ↦ rw (looks_gt d b l w kids rest c q i, ask_gt shared shared_blind b l w kids rest r c q i) (shared_f_is rest r.2 h.2 d c q)
    ]

pub shared-is : (t : Tree) → WellFormed t → (q : Key) → shared_t t q ≡ shared (pairs_t t) q
unfolding shared_t looks_t shared_in pairs_t
shared-is t h [] = sym (shared-empty t.num t.kids)
shared-is t h (c ∷ q) =
    omega (arith, shared-own t.num (pairs_f t.kids) (c ∷ q), shared_f_is t.kids (wf-rising t.kids 0 h) (wf_bearing t.kids 0 h) 0 c q)
