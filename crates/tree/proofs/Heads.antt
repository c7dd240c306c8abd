-- Keys that share no byte with a query, and questions to which they make no difference: those go, in a forest, by the one
-- sibling that begins as the query does. Assumes nothing.
use mathlib.Core.Path.{◌≡◌, refl}
use mathlib.Core.List.{[], ◌∷◌, ◌++◌, append-nil, append_assoc}
use mathlib.Core.Option.{none, some}
use Prim.Native.Nat.{ℕ, ◌≤◌, ◌<◌}
use native.Mathlib.Omega.{arith}
use Rattle.tree.specs.Key.{Key}
use Rattle.tree.specs.Map.{Num, Pairs, AllKeys}
use Rattle.tree.specs.Tree.{Forest, nil, node, Above, labelled, own, pairs_f}
use Rattle.tree.proofs.Shapes.{Rising, Bearing}
use Rattle.tree.proofs.MapOps.{all_append}

-- A key has a first byte, and that has a property.
abbrev pub Begins : (ℕ → Type 0) → Key → Type 0
Begins P [] = ⊥
Begins P (x ∷ k) = P x

-- The query does not begin with x.
abbrev pub Foreign : Key → ℕ → Type 0
Foreign [] x = Unit {0}
Foreign (c ∷ q) x = ¬ (c ≡ x)

-- Every key of a list has a first byte, and not the query's.
abbrev pub AllForeign : Key → Pairs → Type 0
AllForeign q m = AllKeys (Begins (Foreign q)) m

pub labelled_foreign : (q : Key) (x : ℕ) (l : Key) (m : Pairs) → Foreign q x → AllForeign q (labelled (x ∷ l) m)
unfolding labelled
labelled_foreign q x l [] h = tt
labelled_foreign q x l (y ∷ m) h = (h, labelled_foreign q x l m h)

node_foreign : (q : Key) (b : ℕ) (l : Key) (w : Num) (kids rest : Forest) → Foreign q b → AllForeign q (pairs_f rest) → AllForeign q (pairs_f (node b l w kids rest))
unfolding pairs_f
node_foreign q b l w kids rest g h =
    let m = own w (pairs_f kids) in
    all_append (Begins (Foreign q)) (labelled (b ∷ l) m) (pairs_f rest) (labelled_foreign q b l m g) h

-- No key of a forest is empty, so the empty query is foreign to all.
pub empty_foreign : (f : Forest) → AllForeign [] (pairs_f f)
empty_foreign nil = unfold pairs_f in tt
empty_foreign (node b l w kids rest) = node_foreign [] b l w kids rest tt (empty_foreign rest)

-- A query that begins at a or below is foreign to siblings that begin above a.
pub above_foreign : (f : Forest) (a c : ℕ) (q : Key) → c ≤ a → Above a f → Rising f → AllForeign (c ∷ q) (pairs_f f)
above_foreign nil a c q i h r = unfold pairs_f in tt
above_foreign (node b l w kids rest) a c q i h r =
    node_foreign (c ∷ q) b l w kids rest (omega arith) (above_foreign rest b c q (omega arith) r.0 r.2)

-- A question about a list and a query, to which foreign keys make no difference
pub record Blind {A : Type 0} (ask : Pairs → Key → A) : Type 0 where
  pub before : (m n : Pairs) (q : Key) → AllForeign q m → ask (m ++ n) q ≡ ask n q
  pub behind : (m n : Pairs) (q : Key) → AllForeign q n → ask (m ++ n) q ≡ ask m q

module _ {A : Type 0} (ask : Pairs → Key → A) (blind : Blind ask) where
  pub ask_foreign : (m : Pairs) (q : Key) → AllForeign q m → ask m q ≡ ask [] q
  ask_foreign m q h = rw append-nil at (blind.before m [] q h)

  module _ (b : ℕ) (l : Key) (w : Num) (kids rest : Forest) (rising : Rising (node b l w kids rest)) (c : ℕ) (q : Key) where
    pub ask_lt : c < b → ask (pairs_f (node b l w kids rest)) (c ∷ q) ≡ ask [] (c ∷ q)
    ask_lt h = ask_foreign (pairs_f (node b l w kids rest)) (c ∷ q) (above_foreign (node b l w kids rest) c c q (omega arith) h rising)

    pub ask_eq : c ≡ b → ask (pairs_f (node b l w kids rest)) (c ∷ q) ≡ ask (labelled (b ∷ l) (own w (pairs_f kids))) (c ∷ q)
    unfolding pairs_f
    ask_eq h = let m = own w (pairs_f kids) in blind.behind (labelled (b ∷ l) m) (pairs_f rest) (c ∷ q) (above_foreign rest b c q (omega arith) rising.0 rising.2)

    pub ask_gt : b < c → ask (pairs_f (node b l w kids rest)) (c ∷ q) ≡ ask (pairs_f rest) (c ∷ q)
    unfolding pairs_f
    ask_gt h = let m = own w (pairs_f kids) in blind.before (labelled (b ∷ l) m) (pairs_f rest) (c ∷ q) (labelled_foreign (c ∷ q) b l m (omega arith))

-- Two labels are one.
pub labelled-append : (p l : Key) (m : Pairs) → labelled (p ++ l) m ≡ labelled p (labelled l m)
unfolding labelled
labelled-append p l [] = refl
labelled-append p l (x ∷ m) = cc (append_assoc p l x.0, labelled-append p l m)

-- A list with a pair in it
abbrev pub Some : Pairs → Type 0
Some [] = ⊥
Some (x ∷ m) = Unit {0}

pub labelled-some : (l : Key) (m : Pairs) → Some m → Some (labelled l m)
labelled-some l [] h = absurd h
labelled-some l (x ∷ m) h = unfold labelled in tt

some-append : (m n : Pairs) → Some m → Some (m ++ n)
some-append [] n h = absurd h
some-append (x ∷ m) n h = tt

-- Every node leads to a number.
abbrev pub SomeF : Forest → Type 0
SomeF nil = Unit {0}
SomeF (node b l w kids rest) = Some (own w (pairs_f kids))

pub pairs_some : (f : Forest) → Bearing f → SomeF f
unfolding own pairs_f
pairs_some nil h = tt
pairs_some (node b l (some v) kids rest) h = tt
pairs_some (node b l none nil rest) h = absurd h.0
pairs_some (node b l none (node c m u j i) rest) h =
    let n = own u (pairs_f j) in
    some-append (labelled (c ∷ m) n) (pairs_f i) (labelled-some (c ∷ m) n (pairs_some (node c m u j i) h.1))
