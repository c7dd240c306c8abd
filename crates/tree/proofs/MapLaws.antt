-- A tree is a finite map: its pairs ascend, get is lookup in them, and each operation does to them what the map's own
-- operation does. Assumes nothing.
use mathlib.Core.Path.{◌≡◌, refl, sym, ◌∙◌, fun_ext}
use mathlib.Core.List.{[], ◌∷◌, ◌++◌}
use mathlib.Core.Option.{Option, none, some}
use Prim.Native.Nat.{ℕ, ◌≤◌}
use native.Mathlib.Omega.{arith}
use lib.ListN.{length}
use Rattle.tree.specs.Key.{Key, Bytes, key_max}
use Rattle.tree.specs.Map.{Num, Pairs, AllKeys, Ascending, lookup, put, erase, starting_with, not_starting_with, next, size}
use Rattle.tree.specs.Tree.{Tree, empty, WellFormed, own, pairs_f, pairs_t, keys_t}
use Rattle.tree.specs.Search.{get_t}
use Rattle.tree.specs.Insert.{insert_t}
use Rattle.tree.specs.Remove.{erase_t, remove_t, clear_t}
use Rattle.tree.specs.Split.{absent, halves, split_t}
use Rattle.tree.specs.Walk.{step_t}
use Rattle.tree.proofs.Order.{none-some}
use Rattle.tree.proofs.Find.{find_t}
use Rattle.tree.proofs.Looks.{get_is_find}
use Rattle.tree.proofs.Shapes.{wf-rising, wf_bearing}
use Rattle.tree.proofs.InsertFind.{insert_t_sem}
use Rattle.tree.proofs.InsertWf.{insert-wf}
use Rattle.tree.proofs.RemoveFind.{erase_t_sem, remove_stored, removed}
use Rattle.tree.proofs.RemoveWf.{remove-wf}
use Rattle.tree.proofs.SplitFind.{split_divides, split_absent, split_full}
use Rattle.tree.proofs.SplitWf.{split_wf}
use Rattle.tree.proofs.MapOps.{all_map, on, lookup-empty, ascending_unique, lookup-put, put_ascend}
use Rattle.tree.proofs.Sift.{lookup-erase, erase_ascend, lookup_starting, starting_ascend, lookup_not_starting, not_starting_ascend}
use Rattle.tree.proofs.Pairs.{lookup_pairs, ascend_t, Fits, fits_t, size_t}

-- The pairs
pub pairs_ascend : (t : Tree) → WellFormed t → Ascending (pairs_t t)
pairs_ascend t h = ascend_t t (wf-rising t.kids 0 h)

pub keys_short : (t : Tree) → WellFormed t → AllKeys (λ k. length k ≤ key_max) (pairs_t t)
keys_short t h = all_map (Fits 0) (λ k. length k ≤ key_max) (λ k f. omega (arith, f.short)) (pairs_t t) (fits_t t h)

pub keys_bytes : (t : Tree) → WellFormed t → AllKeys Bytes (pairs_t t)
keys_bytes t h = all_map (Fits 0) Bytes (λ k f. f.bytes) (pairs_t t) (fits_t t h)

pub keys_size : (t : Tree) → keys_t t ≡ size (pairs_t t)
keys_size t = size_t t

-- What a key finds
pairs_find : (t : Tree) → WellFormed t → lookup (pairs_t t) ≡ find_t t
pairs_find t h = lookup_pairs t (wf-rising t.kids 0 h)

pub get_lookup : (t : Tree) → WellFormed t → (k : Key) → get_t t k ≡ lookup (pairs_t t) k
get_lookup t h k = cc (get_is_find t k, on (pairs_find t h) k)

-- An ascending list that finds what a tree's keys find is the list of its pairs.
pairs_are : (t : Tree) (m : Pairs) → WellFormed t → Ascending m → find_t t ≡ lookup m → pairs_t t ≡ m
pairs_are t m h a e = ascending_unique (pairs_t t) m (pairs_ascend t h) a (pairs_find t h ∙ e)

pub same_map : (t u : Tree) → WellFormed t → WellFormed u → find_t t ≡ find_t u → pairs_t t ≡ pairs_t u
same_map t u h i e = pairs_are t (pairs_t u) h (pairs_ascend u i) (e ∙ sym (pairs_find u i))

-- Insert
pub insert_pairs : (t : Tree) (k : Key) (v : ℕ) → WellFormed t → Bytes k → length k ≤ key_max → pairs_t (insert_t t k v) ≡ put k v (pairs_t t)
insert_pairs t k v h b s =
    pairs_are (insert_t t k v) (put k v (pairs_t t)) (insert-wf t k v h b s) (put_ascend k v (pairs_t t) (pairs_ascend t h))
    (cc (insert_t_sem t k v, lookup-put k v (pairs_t t), pairs_find t h))

-- Remove
pub remove_pairs : (t : Tree) (k : Key) (u : Tree) → WellFormed t → remove_t t k ≡ some u → pairs_t u ≡ erase k (pairs_t t)
remove_pairs t k u h e =
    pairs_are u (erase k (pairs_t t)) (remove-wf t k u h e) (erase_ascend k (pairs_t t) (pairs_ascend t h))
    (cc ((removed t k u e).tree, erase_t_sem t k (wf-rising t.kids 0 h), lookup-erase k (pairs_t t), pairs_find t h))

pub remove-some : (t : Tree) (k : Key) → WellFormed t → (v : ℕ) → lookup (pairs_t t) k ≡ some v → remove_t t k ≡ some (erase_t t k)
remove-some t k h v e = remove_stored t k v (cc (e, on (pairs_find t h) k))

pub remove-none : (t : Tree) (k : Key) → WellFormed t → remove_t t k ≡ none → lookup (pairs_t t) k ≡ none
remove-none t k h e = go (lookup (pairs_t t) k) refl
  where
    go : (w : Num) → lookup (pairs_t t) k ≡ w → w ≡ none
    go none f = refl
    go (some v) f = cc (e, remove-some t k h v f)

-- Clear
pub clear_pairs : (t : Tree) → pairs_t (clear_t t) ≡ []
unfolding pairs_t clear_t empty own pairs_f
clear_pairs t = refl

-- Split
pub split_pairs : (t : Tree) (p : Key) (d u : Tree) → WellFormed t → split_t t p ≡ halves d u
    → (pairs_t d ≡ starting_with p (pairs_t t)) × (pairs_t u ≡ not_starting_with p (pairs_t t))
split_pairs t p d u h e =
    let m = pairs_t t in
    let a = pairs_ascend t h in
    let w = split_wf t p d u h e in
    let s = split_divides t p d u (wf-rising t.kids 0 h) e in (
      pairs_are d (starting_with p m) w.0 (starting_ascend p m a) (fun_ext λ q. cc (s.one q, lookup_starting p m q, on (pairs_find t h) (p ++ q))),
      pairs_are u (not_starting_with p m) w.1 (not_starting_ascend p m a) (cc (s.other, lookup_not_starting p m, pairs_find t h)),
    )

pub split_none : (t : Tree) (p : Key) → WellFormed t → split_t t p ≡ absent → starting_with p (pairs_t t) ≡ []
split_none t p h e =
    let m = pairs_t t in
    ascending_unique (starting_with p m) [] (starting_ascend p m (pairs_ascend t h)) tt
    (fun_ext λ q. cc (lookup_starting p m q, on (pairs_find t h) (p ++ q), split_absent t p e q, lookup-empty q))

pub split_some : (t : Tree) (a : ℕ) (k : Key) (d u : Tree) → WellFormed t → split_t t (a ∷ k) ≡ halves d u → starting_with (a ∷ k) (pairs_t t) ≡ [] → ⊥
split_some t a k d u h e i =
    let f = split_full t a k d u (wf_bearing t.kids 0 h) e in
    let w = split_wf t (a ∷ k) d u h e in
    none-some f.number (cc (on (pairs_find d w.0) f.key, (split_pairs t (a ∷ k) d u h e).0, f.found, lookup-empty f.key))

-- Walk
pub step_next : (t : Tree) (p : Key) (l : Option Key) → step_t t p l ≡ next (pairs_t t) p l
unfolding step_t
step_next t p l = refl
