-- The slots of a tree read one behind another, the path kept as the labels are laid, give the tree's pairs. Assumes nothing.
use mathlib.Core.Path.{◌≡◌, refl, sym, ap, ◌∙◌}
use mathlib.Core.List.{List, [], ◌∷◌, ◌++◌, append_assoc}
use mathlib.Core.Option.{none, some}
use Prim.Native.Nat.{ℕ, suc, ◌+◌, ◌≤◌}
use native.Mathlib.Omega.{arith}
use lib.ListN.{length, take}
use lib.Seq.{sets, length-sets, take-take}
use Rattle.tree.specs.Key.{Key, key_max}
use Rattle.tree.specs.Map.{Num, Pairs}
use Rattle.tree.specs.Tree.{Forest, nil, node, Tree, Wf, WellFormed, labelled, own, pairs_f, pairs_t}
use Rattle.slots.specs.Bare.{Bare, bares_f, bares_t}
use Rattle.walk.proofs.Path.{front_sets, above_sets}

-- A number at a key, if there is one, before other pairs
unfoldable pub held : Num → Key → Pairs → Pairs
held none k m = m
held (some v) k m = (k, v) ∷ m

-- What the records say: each lays its label into the path, and its key stands at the front then.
unfoldable pub pairs_of : (path : List ℕ) → List Bare → Pairs
pairs_of path [] = []
pairs_of path (x ∷ xs) = held x.num (take (x.start + x.len) (sets path x.start x.label)) (pairs_of (sets path x.start x.label) xs)

-- Labels before pairs
append-nil : {A : Type 0} (m : List A) → m ++ [] ≡ m
append-nil [] = refl
append-nil (x ∷ m) = let e = append-nil m in cc

held_append : (w : Num) (k : Key) (m n : Pairs) → held w k m ++ n ≡ held w k (m ++ n)
unfolding held
held_append none k m n = refl
held_append (some v) k m n = refl

labelled-append : (l : Key) (m n : Pairs) → labelled l (m ++ n) ≡ labelled l m ++ labelled l n
unfolding labelled
labelled-append l [] n = refl
labelled-append l (x ∷ m) n = let e = labelled-append l m n in cc

labelled-twice : (k l : Key) (m : Pairs) → labelled k (labelled l m) ≡ labelled (k ++ l) m
unfolding labelled
labelled-twice k l [] = refl
labelled-twice k l (x ∷ m) = cc (labelled-twice k l m, append_assoc k l x.0)

labelled-none : (m : Pairs) → labelled [] m ≡ m
unfolding labelled
labelled-none [] = refl
labelled-none (x ∷ m) = let e = labelled-none m in cc

labelled-own : (k : Key) (w : Num) (m : Pairs) → labelled k (own w m) ≡ held w k (labelled k m)
unfolding labelled own held
labelled-own k none m = refl
labelled-own k (some v) m = cc (append-nil k)

own_held : (w : Num) (m : Pairs) → own w m ≡ held w [] m
unfolding own held
own_held none m = refl
own_held (some v) m = refl

-- The records of a forest, and others behind them; the path above the forest is still there then.
record Read (path : List ℕ) (s : ℕ) (f : Forest) (xs : List Bare) : Type 0 where
  path' : List ℕ
  len : length path' ≡ length path
  same : take s path' ≡ take s path
  is : pairs_of path (bares_f s f ++ xs) ≡ labelled (take s path) (pairs_f f) ++ pairs_of path' xs

read_node : (b : ℕ) (l : Key) (w : Num) (kids rest : Forest) (s : ℕ) (path : List ℕ) (xs : List Bare) → s + suc (length l) ≤ length path
    → (k : Read (sets path s (b ∷ l)) (s + suc (length l)) kids (bares_f s rest ++ xs)) → Read k.path' s rest xs → Read path s (node b l w kids rest) xs
unfolding pairs_f bares_f pairs_of
read_node b l w kids rest s path xs h k r =
    let p₁ = sets path s (b ∷ l) in
    let key : take (s + suc (length l)) p₁ ≡ take s path ++ (b ∷ l) = front_sets path (b ∷ l) s h in
    let top : take s p₁ ≡ take s path = above_sets path (b ∷ l) s h in
    let a : take s k.path' ≡ take s p₁ =
    sym (take-take s (s + suc (length l)) k.path' (omega arith)) ∙ ap (take s) k.same ∙ take-take s (s + suc (length l)) p₁ (omega arith) in
    let t : take s k.path' ≡ take s path = a ∙ top in
    let n = take s path ++ (b ∷ l) in
    let q = pairs_of r.path' xs in
    let below : labelled (take s path) (labelled (b ∷ l) (own w (pairs_f kids))) ≡ held w n (labelled n (pairs_f kids)) =
    labelled-twice (take s path) (b ∷ l) (own w (pairs_f kids)) ∙ labelled-own n w (pairs_f kids) in
    record {
      path' = r.path';
      len = r.len ∙ k.len ∙ length-sets path s (b ∷ l);
      same = r.same ∙ t;
      is =
          rw (append_assoc (bares_f (s + suc (length l)) kids) (bares_f s rest) xs, k.is, r.is, key, t)
          (rw (labelled-append (take s path) (labelled (b ∷ l) (own w (pairs_f kids))) (pairs_f rest), below, append_assoc (held w n (labelled n (pairs_f kids))) (labelled (take s path) (pairs_f rest)) q)
          (sym (held_append w n (labelled n (pairs_f kids)) (labelled (take s path) (pairs_f rest) ++ q))));
    }

read : (f : Forest) (s : ℕ) (path : List ℕ) (xs : List Bare) → Wf s f → length path ≡ key_max → Read path s f xs
read nil s path xs h e = record { path' = path; len = refl; same = refl; is = unfold pairs_f bares_f labelled in refl }
read (node b l w kids rest) s path xs h e =
    let k = read kids (s + suc (length l)) (sets path s (b ∷ l)) (bares_f s rest ++ xs) h.wkids (length-sets path s (b ∷ l) ∙ e) in
    read_node b l w kids rest s path xs (omega (arith, h.deep)) k (read rest s k.path' xs h.wrest (k.len ∙ length-sets path s (b ∷ l) ∙ e))

pub read_tree : (t : Tree) (path : List ℕ) → WellFormed t → length path ≡ key_max → pairs_of path (bares_t t) ≡ pairs_t t
unfolding pairs_t bares_t pairs_of
read_tree t path h e =
    let r = read t.kids 0 path [] h e in
    let m : pairs_of path (bares_f 0 t.kids) ≡ pairs_f t.kids =
    ap (pairs_of path) (sym (append-nil (bares_f 0 t.kids))) ∙ r.is ∙ append-nil (labelled [] (pairs_f t.kids)) ∙ labelled-none (pairs_f t.kids) in
    rw m (sym (own_held t.num (pairs_f t.kids)))
