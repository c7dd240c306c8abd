-- The exported functions keep the same promises: any number returned but 0 means that every lent slice is as it was, and 0 that
-- the tree left is the definition's. (Results that a pointer lends keep their values where none is told: `Returns`.) Assumes nothing.
use mathlib.Core.Path.{◌≡◌, refl, sym, ◌∙◌}
use mathlib.Core.List.{List}
use mathlib.Core.Option.{Option, some}
use Prim.Native.Nat.{ℕ, zero, suc}
use Rattle.tree.specs.Key.{Key}
use Rattle.tree.specs.Map.{Pair}
use Rattle.tree.specs.Tree.{Tree, empty}
use Rattle.tree.specs.Calls.{Outcome, outcome_told, SplitOutcome, both_told, make_call, clear_call, insert_call, remove_call, split_call, read_call}
use Rattle.pool.specs.Lent.{Lent, tree_in, size_in, room_in}
use Rattle.pool.proofs.Outcomes.{refused_stays, make_leaves, Cleared, clear_leaves}
use Rattle.walk.specs.Walks.{step_of}
use Rattle.host.specs.Host.{Storing, Changes, Splits, key_written, NextGiven, Written}
use Rattle.promises.proofs.Calls.{InsertLeft, insert-leaves, RemoveLeft, remove-leaves, SplitLeft, split_leaves, ReadLeft, read_leaves}
use Rattle.promises.proofs.Refused.{BothStay, both-refused, OutputsStay, outputs_refused}

module _ {store : Storing} {r : ℕ} {rs rs' : List ℕ} {was is : Lent} where
  -- Any number but 0
  pub changes_refused : {o : Outcome} → Changes store o r rs rs' was is → ¬ (r ≡ 0) → is ≡ was
  changes_refused {o} p n = refused_stays o (outcome_told o) was is p.left (λ e. n (p.returns.number ∙ e))

  -- and 0
  pub make_exported : Changes store (make_call (size_in was)) r rs rs' was is → r ≡ 0 → tree_in is ≡ some empty
  make_exported p e = make_leaves (outcome_told (make_call (size_in was))) was is p.left (sym p.returns.number ∙ e)

  pub clear_exported : Changes store (clear_call (tree_in was)) r rs rs' was is → r ≡ 0 → Cleared was is
  clear_exported p e = clear_leaves (outcome_told (clear_call (tree_in was))) was is p.left (sym p.returns.number ∙ e)

  pub insert_exported : {key : Key} {number : ℕ}
      → Changes store (insert_call (tree_in was) (room_in was) key number) r rs rs' was is
      → r ≡ 0 → InsertLeft key number was is
  insert_exported {key} {number} p e = insert-leaves key number _ was is p.left (sym p.returns.number ∙ e)

  pub remove_exported : {key : Key} → Changes store (remove_call (tree_in was) key) r rs rs' was is → r ≡ 0
      → RemoveLeft key was is
  remove_exported {key} p e = remove-leaves key _ was is p.left (sym p.returns.number ∙ e)

  pub read_exported : {s ns : List ℕ} → Changes store (read_call (size_in was) s ns) r rs rs' was is → r ≡ 0
      → ReadLeft s ns was is
  read_exported {s} {ns} p e = read_leaves s ns _ was is p.left (sym p.returns.number ∙ e)

-- Split: the slices of both pools
pub splits_refused : {r : ℕ} {was was₂ is is₂ : Lent} (o : SplitOutcome) → Splits o r was was₂ is is₂ → ¬ (r ≡ 0) → BothStay was was₂ is is₂
splits_refused {r} {was} {was₂} {is} {is₂} o p n = both-refused was was₂ is is₂ o (both_told o) p.left (λ e. n (p.returns.number ∙ e))

pub split_exported : {r : ℕ} {was was₂ is is₂ : Lent} {prefix : Key} → Splits (split_call (tree_in was) (size_in was₂) prefix) r was was₂ is is₂ → r ≡ 0 → SplitLeft prefix was was₂ is is₂
split_exported {r} {was} {was₂} {is} {is₂} {prefix} p e = split_leaves prefix _ was was₂ is is₂ p.left (sym p.returns.number ∙ e)

-- A walk's step: the output. Write: both outputs
key-kept : (n : ℕ) (x : Option Pair) (out : List ℕ) → ¬ (n ≡ 0) → key_written n x out ≡ out
unfolding key_written
key-kept zero x out h = absurd (h refl)
key-kept (suc n) x out h = refl

pub next-refused : {o : Option Tree} {p : Key} {l : Option Key} {r : ℕ} {rs rs' out out' : List ℕ} → NextGiven o p l r rs rs' out out' → ¬ (r ≡ 0) → out' ≡ out
next-refused {o} {p} {l} {r} {rs} {rs'} {out} x n = x.bytes ∙ key-kept r (step_of o p l) out n

pub written_refused : {o : Option Tree} {r : ℕ} {rs rs' tree numbers tree' numbers' : List ℕ} → Written o r rs rs' tree numbers tree' numbers' → ¬ (r ≡ 0)
    → OutputsStay tree numbers tree' numbers'
written_refused p n = outputs_refused p.left (λ e. n (p.returns.number ∙ e))
