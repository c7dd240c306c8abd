-- The pairs of a tree: they are what its keys find, they ascend, their keys have at most 4,096 bytes, and they are as many
-- as the tree has keys. Assumes nothing.
use mathlib.Core.Path.{◌≡◌, refl, sym, ap, fun_ext}
use mathlib.Core.List.{[], ◌∷◌, ◌++◌}
use mathlib.Core.Option.{none, some}
use Prim.Native.Nat.{ℕ, suc, ◌+◌, ◌≤◌, ◌<◌}
use native.Mathlib.Omega.{arith}
use lib.ListN.{length, length-append}
use Rattle.tree.specs.Key.{Key, Bytes, key_max, order, strip}
use Rattle.tree.specs.Map.{Num, Pairs, AllKeys, Before, Ascending, lookup, size}
use Rattle.tree.specs.Tree.{Forest, nil, node, Tree, Above, Wf, WellFormed, labelled, own, pairs_f, pairs_t, keys_w, keys_f, keys_t}
use Rattle.tree.proofs.Order.{less, even, more, cmp, three, before_head}
use Rattle.tree.proofs.Parts.{bytes-append}
use Rattle.tree.proofs.Find.{under, look, find_f, find_t, at, at_cons, node_sem, above-none, look_here, look_nil, nowhere}
use Rattle.tree.proofs.Shapes.{Rising, above_trans}
use Rattle.tree.proofs.MapOps.{all_map, all_append, one, two, twin, lookup_cons, lookup_head, lookup_tail}
use Rattle.tree.proofs.Sift.{lookup-labelled, labelled_ascend}

-- What two lists in a row find
unfoldable or : Num → Num → Num
or none b = b
or (some v) b = some v

or_none : (a : Num) → or a none ≡ a
unfolding or
or_none none = refl
or_none (some v) = refl

lookup-append : (m n : Pairs) (k : Key) → lookup (m ++ n) k ≡ or (lookup m k) (lookup n k)
unfolding or
lookup-append [] n k = unfold lookup in refl
lookup-append (x ∷ m) n k =
    elim (twin k x.0) [
      | one h ↦ rw (h, lookup_head x (m ++ n), lookup_head x m)
      | two ne ↦ rw (lookup_tail x (m ++ n) k ne, lookup_tail x m k ne) (lookup-append m n k)
    ]

-- and a node before its younger siblings
node_or : (b : ℕ) (l : Key) (w : Num) (kids rest : Forest) → Above b rest → (q : Key)
    → or (at (b ∷ l) (look w (find_f kids)) q) (look none (find_f rest) q) ≡ look none (find_f (node b l w kids rest)) q
unfolding or look three
node_or b l w kids rest h [] = unfold at under strip in refl
node_or b l w kids rest h (c ∷ q) =
    elim (cmp c b) [
      | less i e ↦ rw (node_sem b l w kids rest, at_cons b l, e) (above-none b rest h c q (omega arith))
      | even i e ↦ rw (node_sem b l w kids rest, at_cons b l, e, above-none b rest h c q (omega arith)) (or_none _)
      | more i e ↦ rw (node_sem b l w kids rest, at_cons b l, e)
    ]

-- a number over what its children find
lookup-own : (w : Num) (m : Pairs) (g : ℕ → Key → Num) → lookup m ≡ look none g → lookup (own w m) ≡ look w g
unfolding own
lookup-own none m g h = h
lookup-own (some v) m g h = cc (h, lookup_cons ([], v) m, look_here (some v) none g)

lookup-pairs_f : (f : Forest) → Rising f → lookup (pairs_f f) ≡ look none (find_f f)
unfolding pairs_f
lookup-pairs_f nil h = unfold lookup nowhere in (sym look_nil)
lookup-pairs_f (node b l w kids rest) h =
    let m = own w (pairs_f kids) in
    let k : lookup m ≡ look w (find_f kids) = lookup-own w (pairs_f kids) (find_f kids) (lookup-pairs_f kids h.1) in
    let r = lookup-pairs_f rest h.2 in
    fun_ext λ q. rw (lookup-append (labelled (b ∷ l) m) (pairs_f rest) q, lookup-labelled (b ∷ l) m, k, r) (node_or b l w kids rest h.0 q)

pub lookup_pairs : (t : Tree) → Rising t.kids → lookup (pairs_t t) ≡ find_t t
unfolding pairs_t find_t
lookup_pairs t h = lookup-own t.num (pairs_f t.kids) (find_f t.kids) (lookup-pairs_f t.kids h)

-- All keys of a list, labelled or with a number over them
pub all_labelled : (P : Key → Type 0) (l : Key) (m : Pairs) → AllKeys (λ k. P (l ++ k)) m → AllKeys P (labelled l m)
unfolding labelled
all_labelled P l [] h = tt
all_labelled P l (x ∷ m) h = (h.0, all_labelled P l m h.1)

pub all_own : (P : Key → Type 0) (w : Num) (m : Pairs) → P [] → AllKeys P m → AllKeys P (own w m)
unfolding own
all_own P none m i h = h
all_own P (some v) m i h = (i, h)

every : (P : Key → Type 0) → ((k : Key) → P k) → (m : Pairs) → AllKeys P m
every P f [] = tt
every P f (x ∷ m) = (f x.0, every P f m)

-- Siblings whose keys all come behind the key k
abbrev Behind : Key → Forest → Type 0
Behind [] f = Unit {0}
Behind (a ∷ r) f = Above a f

module _ (b : ℕ) (l : Key) (w : Num) (kids rest : Forest) where
  behind-first : (k : Key) → Behind k (node b l w kids rest) → (q : Key) → Before k (b ∷ q)
  behind-first [] i q = unfold order in refl
  behind-first (a ∷ r) i q = before_head a r b q i

  behind-rest : (k : Key) → Behind k (node b l w kids rest) → Above b rest → Behind k rest
  behind-rest [] i h = tt
  behind-rest (a ∷ r) i h = above_trans a b rest i h

pairs_behind : (k : Key) (f : Forest) → Rising f → Behind k f → AllKeys (Before k) (pairs_f f)
unfolding pairs_f
pairs_behind k nil h i = tt
pairs_behind k (node b l w kids rest) h i =
    let m = own w (pairs_f kids) in
    all_append (Before k) (labelled (b ∷ l) m) (pairs_f rest)
    (all_labelled (Before k) (b ∷ l) m (every (λ q. Before k (b ∷ l ++ q)) (λ q. behind-first b l w kids rest k i (l ++ q)) m))
    (pairs_behind k rest h.2 (behind-rest b l w kids rest k i h.0))

-- The pairs ascend
ascend_append : (m n : Pairs) → Ascending m → AllKeys (λ k. AllKeys (Before k) n) m → Ascending n → Ascending (m ++ n)
ascend_append [] n a h b = b
ascend_append (x ∷ m) n a h b = (all_append (Before x.0) m n a.0 h.0, ascend_append m n a.1 h.1 b)

ascend_own : (w : Num) (f : Forest) → Rising f → Ascending (pairs_f f) → Ascending (own w (pairs_f f))
unfolding own
ascend_own none f h a = a
ascend_own (some v) f h a = (pairs_behind [] f h tt, a)

ascend_f : (f : Forest) → Rising f → Ascending (pairs_f f)
unfolding pairs_f
ascend_f nil h = tt
ascend_f (node b l w kids rest) h =
    let m = own w (pairs_f kids) in
    let r = every (λ k. AllKeys (Before (b ∷ l ++ k)) (pairs_f rest)) (λ k. pairs_behind (b ∷ l ++ k) rest h.2 h.0) m in
    ascend_append (labelled (b ∷ l) m) (pairs_f rest)
    (labelled_ascend (b ∷ l) m (ascend_own w kids h.1 (ascend_f kids h.1)))
    (all_labelled (λ k. AllKeys (Before k) (pairs_f rest)) (b ∷ l) m r)
    (ascend_f rest h.2)

pub ascend_t : (t : Tree) → Rising t.kids → Ascending (pairs_t t)
unfolding pairs_t
ascend_t t h = ascend_own t.num t.kids h (ascend_f t.kids h)

-- A key of byte values that fits under a path of s bytes
pub record Fits (s : ℕ) (k : Key) : Type 0 where
  pub short : s + length k ≤ key_max
  pub bytes : Bytes k

fits-label : (s b : ℕ) (l : Key) → b < 256 → Bytes l → (k : Key) → Fits (s + suc (length l)) k → Fits s (b ∷ l ++ k)
fits-label s b l i j k h = record { short = simp length-append (omega arith); bytes = (i, bytes-append l k j h.bytes) }

fits_f : (f : Forest) (s : ℕ) → Wf s f → AllKeys (Fits s) (pairs_f f)
unfolding pairs_f
fits_f nil s h = tt
fits_f (node b l w kids rest) s h =
    let m = own w (pairs_f kids) in
    let s' = s + suc (length l) in
    let k : AllKeys (Fits s') m = all_own (Fits s') w (pairs_f kids) (record { short = omega arith; bytes = tt }) (fits_f kids s' h.wkids) in
    all_append (Fits s) (labelled (b ∷ l) m) (pairs_f rest)
    (all_labelled (Fits s) (b ∷ l) m (all_map (Fits s') (λ k. Fits s (b ∷ l ++ k)) (fits-label s b l h.byte h.bytes) m k))
    (fits_f rest s h.wrest)

pub fits_t : (t : Tree) → WellFormed t → AllKeys (Fits 0) (pairs_t t)
unfolding pairs_t
fits_t t h = all_own (Fits 0) t.num (pairs_f t.kids) (record { short = unfold key_max in (omega arith); bytes = tt }) (fits_f t.kids 0 h)

-- How many keys
length-labelled : (l : Key) (m : Pairs) → length (labelled l m) ≡ length m
unfolding labelled
length-labelled l [] = refl
length-labelled l (x ∷ m) = ap suc (length-labelled l m)

length-own : (w : Num) (m : Pairs) → length (own w m) ≡ keys_w w + length m
unfolding own keys_w
length-own none m = omega arith
length-own (some v) m = omega arith

size_f : (f : Forest) → keys_f f ≡ size (pairs_f f)
unfolding keys_f pairs_f
size_f nil = refl
size_f (node b l w kids rest) =
    simp (length-append, length-labelled, length-own) (omega (arith, size_f kids, size_f rest))

pub size_t : (t : Tree) → keys_t t ≡ size (pairs_t t)
unfolding keys_t pairs_t
size_t t = simp length-own (omega (arith, size_f t.kids))
