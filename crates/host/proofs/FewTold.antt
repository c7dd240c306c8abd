-- A call that refuses tells few values: a search how many nodes it looked at, a step the length that its output lacks, an insert
-- and the counts none. Assumes nothing.
use mathlib.Core.Path.{◌≡◌, refl, ap, ◌∙◌}
use mathlib.Core.Bool.{Bool, true, false}
use mathlib.Core.Logic.{◌⊎◌, inl, inr}
use mathlib.Core.List.{List}
use mathlib.Core.Option.{Option, none, some}
use Prim.Native.Nat.{ℕ, ◌≤◌}
use native.Mathlib.Omega.{arith}
use lib.ListN.{length}
use lib.Dec.{leb}
use Rattle.std.specs.Prelude.{Ok, Err}
use Rattle.tree.specs.Key.{Key}
use Rattle.tree.specs.Map.{Num, Pair}
use Rattle.tree.specs.Tree.{Tree, nodes_t}
use Rattle.tree.specs.Insert.{insert_t}
use Rattle.tree.specs.Remove.{remove_t}
use Rattle.tree.specs.Search.{get_t, longest_t, looked_t}
use Rattle.tree.specs.Walk.{step_t}
use Rattle.tree.specs.Told.{Told, Answer, answer_told}
use Rattle.tree.specs.Calls.{Outcome, refuses, leaves, outcome_told, fits, last_fits, number_told, get_call, longest_told, longest_call, shared_call, insert_call, remove_told, remove_call, counts_call, step_told, step_call}
use Rattle.tree.proofs.OneAnswer.{refusal_positive}
use Rattle.pool.specs.Lent.{Lent}
use Rattle.pool.specs.Post.{Does}
use Rattle.host.specs.Few.{Few}

abbrev FewTold : ℕ → Told → Type 0
FewTold n x = (x.number ≡ 0) ⊎ (length x.values ≤ n)

pub few : {A : Type 0} (values : A → List ℕ) (r : Answer A) {x : Told} (n : ℕ) → answer_told values r ≡ x → FewTold n x → Few n r
few values (Ok a) n e h = tt
few values (Err f) n e (inl z) = absurd (refusal_positive f (ap (λ (y : Told). y.number) e ∙ z))
few values (Err f) n e (inr l) = omega (arith, l, ap (λ (y : Told). length y.values) e)

-- A changing call tells what its outcome says.
pub does_tell : {told : Told} (o : Outcome) (was is : Lent) → Does o told was is → told ≡ outcome_told o
does_tell (refuses x) was is d = d.said
does_tell (leaves vs t) was is d = d.said

few_if : (n : ℕ) (b : Bool) (x y : Told) → FewTold n x → FewTold n y → FewTold n (elim b [ false ↦ x | true ↦ y ])
few_if n false x y h i = h
few_if n true x y h i = i

outcome_if : (n : ℕ) (b : Bool) (x y : Outcome) → FewTold n (outcome_told x) → FewTold n (outcome_told y) → FewTold n (outcome_told (elim b [ false ↦ x | true ↦ y ]))
outcome_if n false x y h i = h
outcome_if n true x y h i = i

pub get_few : (o : Option Tree) (k : Key) → FewTold 1 (get_call o k)
unfolding get_call number_told
get_few none k = inr (omega arith)
get_few (some t) k = few_if 1 (fits k) _ _ (inr (omega arith)) (told (get_t t k))
  where
    told : (w : Num) → FewTold 1 (number_told (looked_t t k) w)
    told none = inr (omega arith)
    told (some v) = inl refl

pub longest_few : (o : Option Tree) (q : Key) → FewTold 1 (longest_call o q)
unfolding longest_call longest_told
longest_few none q = inr (omega arith)
longest_few (some t) q = few_if 1 (fits q) _ _ (inr (omega arith)) (told (longest_t t q))
  where
    told : (p : Option (ℕ × ℕ)) → FewTold 1 (longest_told (looked_t t q) p)
    told none = inr (omega arith)
    told (some p) = inl refl

pub shared_few : (o : Option Tree) (q : Key) → FewTold 1 (shared_call o q)
unfolding shared_call
shared_few none q = inr (omega arith)
shared_few (some t) q = few_if 1 (fits q) _ _ (inr (omega arith)) (inl refl)

pub insert_few : (o : Option Tree) (slots : ℕ) (k : Key) (v : ℕ) → FewTold 0 (outcome_told (insert_call o slots k v))
unfolding insert_call
insert_few none slots k v = inr (omega arith)
insert_few (some t) slots k v =
    outcome_if 0 (fits k) _ _ (inr (omega arith)) (outcome_if 0 (leb (nodes_t (insert_t t k v)) slots) _ _ (inr (omega arith)) (inl refl))

pub remove_few : (o : Option Tree) (k : Key) → FewTold 1 (outcome_told (remove_call o k))
unfolding remove_call remove_told
remove_few none k = inr (omega arith)
remove_few (some t) k = outcome_if 1 (fits k) _ _ (inr (omega arith)) (told (remove_t t k))
  where
    told : (u : Option Tree) → FewTold 1 (outcome_told (remove_told (looked_t t k) (get_t t k) u))
    told none = inr (omega arith)
    told (some u) = inl refl

pub counts_few : (o : Option Tree) → FewTold 0 (counts_call o)
unfolding counts_call
counts_few none = inr (omega arith)
counts_few (some t) = inl refl

pub step_few : (o : Option Tree) (p : Key) (l : Option Key) (out : ℕ) → FewTold 1 (step_call o p l out)
unfolding step_call step_told
step_few none p l out = inr (omega arith)
step_few (some t) p l out = few_if 1 (fits p) _ _ (inr (omega arith)) (few_if 1 (last_fits l) _ _ (inr (omega arith)) (told (step_t t p l)))
  where
    told : (x : Option Pair) → FewTold 1 (step_told out x)
    told none = inr (omega arith)
    told (some x) = few_if 1 (leb (length x.0) out) _ _ (inr (omega arith)) (inl refl)
