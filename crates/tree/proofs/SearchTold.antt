-- What the five calls that search tell of a tree: with 0 and with 3 the last value is how many nodes the search looked
-- at, with any other number no value is told. Assumes nothing.
use mathlib.Core.Path.{◌≡◌}
use mathlib.Core.Bool.{Bool, true, false}
use mathlib.Core.List.{List, [], ◌∷◌, ◌++◌}
use mathlib.Core.Option.{Option, none, some}
use Prim.Native.Nat.{ℕ}
use native.Mathlib.Omega.{arith}
use lib.Dec.{leb}
use Rattle.tree.specs.Key.{Key}
use Rattle.tree.specs.Map.{Num}
use Rattle.tree.specs.Tree.{Tree, nodes_t}
use Rattle.tree.specs.Search.{get_t, longest_t, shared_t, looked_t}
use Rattle.tree.specs.Insert.{insert_t}
use Rattle.tree.specs.Remove.{remove_t}
use Rattle.tree.specs.Image.{numbers_w}
use Rattle.tree.specs.Told.{Told, done, refusal, refusal_at}
use Rattle.tree.specs.Calls.{outcome_told, fits, number_told, get_call, longest_told, longest_call}
use Rattle.tree.specs.Calls.{shared_call, insert_call, remove_told, remove_call}

pub data LookedLast (n : ℕ) : Told → Type 0 where
  with_0 : (vs : List ℕ) → LookedLast n (done (vs ++ n ∷ []))
  with_3 : LookedLast n (refusal_at 3 n)
  untold : (m : ℕ) → ¬ (m ≡ 0) → ¬ (m ≡ 3) → LookedLast n (refusal m)

module _ {n : ℕ} where
  pub untold_1 : LookedLast n (refusal 1)
  untold_1 = untold 1 (λ e. omega arith) (λ e. omega arith)

  untold_2 : LookedLast n (refusal 2)
  untold_2 = untold 2 (λ e. omega arith) (λ e. omega arith)

  untold_4 : LookedLast n (refusal 4)
  untold_4 = untold 4 (λ e. omega arith) (λ e. omega arith)

  last_if : {A : Type 0} (told : A → Told) (b : Bool) (x y : A) → LookedLast n (told x) → LookedLast n (told y)
      → LookedLast n (told (elim b [ false ↦ x | true ↦ y ]))
  last_if told false x y h i = h
  last_if told true x y h i = i

  last_old : (w : Num) → LookedLast n (done (numbers_w w (n ∷ [])))
  unfolding numbers_w
  last_old none = with_0 []
  last_old (some v) = with_0 (v ∷ [])

abbrev itself : Told → Told
itself x = x

module _ (t : Tree) (k : Key) where
  pub get_last : LookedLast (looked_t t k) (get_call (some t) k)
  unfolding get_call number_told
  get_last = last_if itself (fits k) _ _ untold_2 (found (get_t t k))
    where
      found : (w : Num) → LookedLast (looked_t t k) (number_told (looked_t t k) w)
      found none = with_3
      found (some v) = with_0 (v ∷ [])

  pub longest-last : LookedLast (looked_t t k) (longest_call (some t) k)
  unfolding longest_call longest_told
  longest-last = last_if itself (fits k) _ _ untold_2 (found (longest_t t k))
    where
      found : (w : Option (ℕ × ℕ)) → LookedLast (looked_t t k) (longest_told (looked_t t k) w)
      found none = with_3
      found (some p) = with_0 (p.0 ∷ p.1 ∷ [])

  pub shared_last : LookedLast (looked_t t k) (shared_call (some t) k)
  unfolding shared_call
  shared_last = last_if itself (fits k) _ _ untold_2 (with_0 (shared_t t k ∷ []))

  pub insert-last : (slots v : ℕ) → LookedLast (looked_t t k) (outcome_told (insert_call (some t) slots k v))
  unfolding insert_call
  insert-last slots v =
      last_if outcome_told (fits k) _ _ untold_2
      (last_if outcome_told (leb (nodes_t (insert_t t k v)) slots) _ _ untold_4 (last_old (get_t t k)))

  pub remove-last : LookedLast (looked_t t k) (outcome_told (remove_call (some t) k))
  unfolding remove_call remove_told
  remove-last = last_if outcome_told (fits k) _ _ untold_2 (taken (remove_t t k))
    where
      taken : (u : Option Tree) → LookedLast (looked_t t k) (outcome_told (remove_told (looked_t t k) (get_t t k) u))
      taken none = with_3
      taken (some u) = last_old (get_t t k)
