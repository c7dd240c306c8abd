-- A new leaf: how it falls into nodes, how many they are, and the slots that they fill. Assumes nothing.
use mathlib.Core.Path.{◌≡◌, refl, sym, ap, ◌∙◌}
use mathlib.Core.List.{List, [], ◌∷◌, ◌++◌, append_assoc, append-nil}
use mathlib.Core.Option.{none, some}
use Prim.Native.Nat.{ℕ, zero, suc, ◌+◌, ◌-◌, ◌≤◌, ◌<◌}
use native.Mathlib.Omega.{arith}
use lib.ListN.{length, take, drop, length-drop, drop_of_length-le}
use lib.Seq.{take_all, length-take-le}
use Rattle.tree.specs.Key.{Key}
use Rattle.tree.specs.Tree.{Forest, nil, node, room, nodes_f}
use Rattle.tree.specs.Insert.{chain, leaf}
use Rattle.tree.proofs.Nodes.{chain_nodes, leaf-nodes}
use Rattle.label.proofs.Moves.{by_lt}
use Rattle.slots.specs.Layout.{RoomIn, span_of}
use Rattle.slots.specs.Records.{run}
use Rattle.pool.specs.Rule.{Within}
use Rattle.slots.specs.Bare.{Bare, bare_at, bares_f, bare_of, Filled}
use Rattle.slots.proofs.Runs.{run_cons}
use Rattle.splice.proofs.Bares.{bares_f-length}
use Rattle.insert.specs.Splices.{leaf_nodes, leaf_bares, Built}

-- A chain of one node, and one of more
chain-short : (n a : ℕ) (k : Key) (v : ℕ) (rest : Forest) → drop room k ≡ [] → chain n a k v rest ≡ node a k (some v) nil rest
unfolding chain
chain-short zero a k v rest e = refl
chain-short (suc n) a k v rest e = rw (e, chain)

chain_long : (n a : ℕ) (k : Key) (v : ℕ) (rest : Forest) (y : ℕ) (r : Key) → drop room k ≡ y ∷ r
    → chain (suc n) a k v rest ≡ node a (take room k) none (chain n y r v nil) rest
unfolding chain
chain_long n a k v rest y r e = rw (e, chain)

-- What is left of a label of so many bytes behind its first
left_over : (k : Key) → length (drop room k) ≡ length k - 254
unfolding room
left_over k = length-drop 254 k

nothing_over : (k : Key) → length k ≤ 254 → drop room k ≡ []
unfolding room
nothing_over k h = drop_of_length-le k h

-- The bound on the repeats does not matter, once it is the label's length.
chain_any : (n m a : ℕ) (k : Key) (v : ℕ) (rest : Forest) → length k ≤ n → length k ≤ m → chain n a k v rest ≡ chain m a k v rest
chain_any zero m a k v rest g h = let e = nothing_over k (omega arith) in chain-short zero a k v rest e ∙ sym (chain-short m a k v rest e)
chain_any (suc n) zero a k v rest g h = let e = nothing_over k (omega arith) in chain-short (suc n) a k v rest e ∙ sym (chain-short zero a k v rest e)
chain_any (suc n) (suc m) a k v rest g h = go (drop room k) refl (λ y r. chain_any n m y r v nil)
  where
    go : (d : Key) → drop room k ≡ d → ((y : ℕ) (r : Key) → length r ≤ n → length r ≤ m → chain n y r v nil ≡ chain m y r v nil)
        → chain (suc n) a k v rest ≡ chain (suc m) a k v rest
    go [] e ih = chain-short (suc n) a k v rest e ∙ sym (chain-short (suc m) a k v rest e)
    go (y ∷ r) e ih =
        let z = sym (left_over k) ∙ ap length e in
        chain_long n a k v rest y r e
        ∙ ap (λ (f : Forest). node a (take room k) none f rest) (ih y r (omega arith) (omega arith))
        ∙ sym (chain_long m a k v rest y r e)

leaf-short : (a : ℕ) (k : Key) (v : ℕ) (f : Forest) → drop room k ≡ [] → leaf a k v f ≡ node a k (some v) nil f
unfolding leaf
leaf-short a k v f e = chain-short (length k) a k v f e

leaf_long : (a : ℕ) (k : Key) (v : ℕ) (f : Forest) (y : ℕ) (r : Key) → drop room k ≡ y ∷ r
    → leaf a k v f ≡ node a (take room k) none (leaf y r v nil) f
unfolding leaf
leaf_long a [] v f y r e = absurd (omega (arith, left_over [], ap length e))
leaf_long a (b ∷ k) v f y r e =
    let z = sym (left_over (b ∷ k)) ∙ ap length e in
    chain_long (length k) a (b ∷ k) v f y r e
    ∙ ap (λ (g : Forest). node a (take room (b ∷ k)) none g f) (chain_any (length k) (length r) y r v nil (omega arith) (omega arith))

-- What comes beside a new leaf
pub leaf-beside : (s a : ℕ) (k : Key) (v : ℕ) (f : Forest) → bares_f s (leaf a k v f) ≡ bares_f s (leaf a k v nil) ++ bares_f s f
unfolding bares_f
leaf-beside s a k v f = go (drop room k) refl
  where
    go : (d : Key) → drop room k ≡ d → bares_f s (leaf a k v f) ≡ bares_f s (leaf a k v nil) ++ bares_f s f
    go [] e = rw (leaf-short a k v f e, leaf-short a k v nil e)
    go (y ∷ r) e = rw (leaf_long a k v f y r e, leaf_long a k v nil y r e) (simp append_assoc)

-- Its nodes
pub leaf-length : (s : ℕ) (q : Key) (v : ℕ) → 1 ≤ length q → length (leaf_bares s q v) ≡ leaf_nodes (length q)
unfolding chain_nodes nodes_f
leaf-length s [] v h = absurd (omega arith)
leaf-length s (a ∷ k) v h = omega (arith, bares_f-length s (leaf a k v nil), leaf-nodes a k v nil)

pub leaf_one : (s : ℕ) (q : Key) (v : ℕ) → 1 ≤ length q → length q ≤ 255 → leaf_bares s q v ≡ bare_of s q (some v) ∷ []
unfolding bares_f
leaf_one s [] v h l = absurd (omega arith)
leaf_one s (a ∷ k) v h l = ap (bares_f s) (leaf-short a k v nil (nothing_over k (omega arith)))

pub leaf-more : (s : ℕ) (q : Key) (v : ℕ) → 255 < length q → leaf_bares s q v ≡ bare_of s (take 255 q) none ∷ leaf_bares (s + 255) (drop 255 q) v
unfolding bares_f room
leaf-more s [] v l = absurd (omega arith)
leaf-more s (a ∷ k) v l = go (drop 254 k) refl
  where
    go : (d : Key) → drop 254 k ≡ d → leaf_bares s (a ∷ k) v ≡ bare_of s (a ∷ take 254 k) none ∷ leaf_bares (s + 255) (drop 254 k) v
    go [] e = absurd (omega (arith, length-drop 254 k, ap length e))
    go (y ∷ r) e =
        let z : s + suc (length (take 254 k)) ≡ s + 255 = omega (arith, length-take-le 254 k (omega arith)) in
        ap (bares_f s) (leaf_long a k v nil y r e)
        ∙ ap (λ (xs : List Bare). bare_of s (a ∷ take 254 k) none ∷ xs)
        (append-nil (bares_f (s + suc (length (take 254 k))) (leaf y r v nil)) ∙ ap (λ (n : ℕ). bares_f n (leaf y r v nil)) z ∙ ap (λ (q : Key). leaf_bares (s + 255) q v) (sym e))

-- Each node under the one before it
abbrev pub Chained : (s : ℕ) → List Bare → Type 0
Chained s [] = Unit {0}
Chained s (x ∷ xs) = (x.start ≡ s) × (1 ≤ x.len) × Chained (s + x.len) xs

leaf-under : (fuel s : ℕ) (q : Key) (v : ℕ) → 1 ≤ length q → length q ≤ fuel → Chained s (leaf_bares s q v)
leaf-under zero s q v h l = absurd (omega arith)
leaf-under (suc fuel) s q v h l =
    by_lt 255 (length q)
    (λ g.
    let n = length-take-le 255 q (omega arith) in
    let d = length-drop 255 q in
    let z : s + length (take 255 q) ≡ s + 255 = omega arith in
    rw (leaf-more s q v g) (refl, omega arith, rw z (leaf-under fuel (s + 255) (drop 255 q) v (omega arith) (omega arith))))
    (λ g. rw (leaf_one s q v h g) (refl, h, tt))

pub leaf_chained : (s : ℕ) (q : Key) (v : ℕ) → 1 ≤ length q → Chained s (leaf_bares s q v)
leaf_chained s q v h = leaf-under (length q) s q v h (omega arith)

pub run_one : {A : Type 0} (at : ℕ → A) (i : ℕ) → run at i 1 ≡ at i ∷ []
unfolding run
run_one at i = refl

-- The slots that it fills
pub built_one : {ws bs vs cs : List ℕ} {at : ℕ} {x : Bare} → Filled ws bs vs cs at x → span_of vs at ≡ 1 → Built ws bs vs cs at (x ∷ [])
built_one {ws} {bs} {vs} {cs} {at} {x} f s =
    record {
      len_w = f.len_w;
      len_b = f.len_b;
      head = f.head;
      slots = run_one (bare_at vs cs) at ∙ ap (λ (z : Bare). z ∷ []) f.slot;
      low = λ i h r. f.others i (λ e. omega arith) r;
      high = λ i h r. f.others i (λ e. omega arith) r;
      low-span = λ i h. f.spans i (λ e. omega arith);
      new_span = λ i a b. let z : span_of vs i ≡ span_of vs at = ap (span_of vs) (omega arith) in omega arith;
      high-span = λ i h. f.spans i (λ e. omega arith);
    }

pub built_more : {ws bs us ds vs cs : List ℕ} {at : ℕ} {x : Bare} {xs : List Bare} → RoomIn bs at → Filled ws bs us ds at x
    → span_of us at ≡ suc (length xs) → Built us ds vs cs (at + 1) xs → Built ws bs vs cs at (x ∷ xs)
built_more {ws} {bs} {us} {ds} {vs} {cs} {at} {x} {xs} h f s b =
    let ld = f.len_b in
    let e : suc at ≡ at + 1 = omega arith in
    record {
      len_w = b.len_w ∙ f.len_w;
      len_b = b.len_b ∙ f.len_b;
      head = λ j l. b.head j l ∙ f.head j l;
      slots = run_cons (bare_at vs cs) at (length xs) ∙ rw e (cc (b.low at (omega arith) (omega arith), f.slot, b.slots));
      low = λ i l r. b.low i (omega arith) (omega arith) ∙ f.others i (λ q. omega arith) r;
      high = λ i l r. b.high i (omega arith) (omega arith) ∙ f.others i (λ q. omega arith) r;
      low-span = λ i l. b.low-span i (omega arith) ∙ f.spans i (λ q. omega arith);
      new_span = λ i l m.
          by_lt at i
          (λ g. omega (arith, b.new_span i (omega arith) (omega arith)))
          (λ g. let z : span_of vs i ≡ span_of vs at = ap (span_of vs) (omega arith) in omega (arith, b.low-span at (omega arith)));
      high-span = λ i l. b.high-span i (omega arith) ∙ f.spans i (λ q. omega arith);
    }

-- as the code leaves them
pub built_leaf : (ws bs vs cs : List ℕ) (at s : ℕ) (q : Key) (v : ℕ) → 1 ≤ length q → length q ≤ 255 → Filled ws bs vs cs at (bare_of s q (some v))
    → span_of vs at ≡ 1 → Built ws bs vs cs at (leaf_bares s q v)
built_leaf ws bs vs cs at s q v h l f e = rw (leaf_one s q v h l) (built_one f e)

pub built_chain : (ws bs us ds vs cs : List ℕ) (at s : ℕ) (q : Key) (v : ℕ) → Within ws bs (at + leaf_nodes (length q)) → 255 < length q
    → Filled ws bs us ds at (bare_of s (take 255 q) none) → span_of us at ≡ leaf_nodes (length q)
    → Built us ds vs cs (at + 1) (leaf_bares (s + 255) (take (length q - 255) (drop 255 q)) v) → Built ws bs vs cs at (leaf_bares s q v)
built_chain ws bs us ds vs cs at s q v w l f n b =
    let e : take (length q - 255) (drop 255 q) ≡ drop 255 q = take_all (length q - 255) (drop 255 q) (omega (arith, length-drop 255 q)) in
    let c : span_of us at ≡ suc (length (leaf_bares (s + 255) (drop 255 q) v)) = n ∙ sym (leaf-length s q v (omega arith)) ∙ ap length (leaf-more s q v l) in
    rw (leaf-more s q v l) (built_more (omega (arith, w.labels)) f c (rw e at b))
