-- The contract of an exported call decides the number, each result, and what is left in the lent slices. Assumes nothing.
use mathlib.Core.Path.{◌≡◌, sym, ap, ◌∙◌}
use mathlib.Core.List.{List}
use mathlib.Core.Option.{Option}
use Prim.Native.Nat.{ℕ}
use Rattle.tree.specs.Key.{Key}
use Rattle.tree.specs.Tree.{Tree}
use Rattle.tree.specs.Told.{Told}
use Rattle.tree.specs.Calls.{Outcome, outcome_told, SplitOutcome, both_told}
use Rattle.pool.specs.Lent.{Lent, tree_in}
use Rattle.pool.specs.Post.{Does}
use Rattle.pool.proofs.Decided.{outcome_decides}
use Rattle.split.proofs.Decided.{both_decide}
use Rattle.walk.specs.Walks.{step_of}
use Rattle.writer.proofs.Decided.{decided}
use Rattle.host.specs.Host.{Storing, Returns, Changes, Splits, key_written, NextGiven, Written}

-- Two returns agree in the number and in each result.
pub record Same (r s : ℕ) (xs ys : List ℕ) : Type 0 where
  pub number : r ≡ s
  pub values : xs ≡ ys

pub returns_decided : {store : Storing} {told : Told} {r s : ℕ} {rs xs ys : List ℕ} → Returns store told r rs xs
    → Returns store told s rs ys → Same r s xs ys
returns_decided p q = record { number = p.number ∙ sym q.number; values = p.values ∙ sym q.values }

-- A changing call: the tree left behind too, and with any number but 0 every lent word and byte
pub record SameChange (r s : ℕ) (xs ys : List ℕ) (is is' : Lent) : Type 0 where
  pub returned : Same r s xs ys
  pub tree : tree_in is ≡ tree_in is'
  pub kept : ¬ (r ≡ 0) → is ≡ is'

left_decided : (o : Outcome) (was is is' : Lent) {r s : ℕ} {xs ys : List ℕ} → Same r s xs ys → r ≡ (outcome_told o).number → Does o (outcome_told o) was is → Does o (outcome_told o) was is'
    → SameChange r s xs ys is is'
left_decided o was is is' e f p q =
    let d = outcome_decides was is is' (outcome_told o) (outcome_told o) o p q in
    record { returned = e; tree = d.tree; kept = λ n. d.kept (λ z. n (f ∙ z)) }

pub changes_decided : {store : Storing} {was is is' : Lent} {o : Outcome} {r s : ℕ} {rs xs ys : List ℕ}
    → Changes store o r rs xs was is → Changes store o s rs ys was is' → SameChange r s xs ys is is'
changes_decided {store} {was} {is} {is'} {o} p q =
    left_decided o was is is' (returns_decided p.returns q.returns) p.returns.number p.left q.left

-- Split: the number, and both trees; with any number but 0 every word and byte of both pools
pub record SameTrees (r s : ℕ) (is is₂ is' is₂' : Lent) : Type 0 where
  pub number : r ≡ s
  pub left : tree_in is ≡ tree_in is'
  pub detached : tree_in is₂ ≡ tree_in is₂'
  pub kept : ¬ (r ≡ 0) → is ≡ is'
  pub kept₂ : ¬ (r ≡ 0) → is₂ ≡ is₂'

pub splits_decided : {was was₂ is is₂ is' is₂' : Lent} {r s : ℕ} (o : SplitOutcome) → Splits o r was was₂ is is₂ → Splits o s was was₂ is' is₂' → SameTrees r s is is₂ is' is₂'
splits_decided {was} {was₂} {is} {is₂} {is'} {is₂'} o p q =
    let d = both_decide was was₂ is is₂ is' is₂' (both_told o) (both_told o) o p.left q.left in
    let f = p.returns.number in
    record {
      number = f ∙ sym q.returns.number;
      left = d.left;
      detached = d.detached;
      kept = λ n. d.kept (λ z. n (f ∙ z));
      kept₂ = λ n. d.kept₂ (λ z. n (f ∙ z));
    }

-- A walk's step: every byte of the output too
pub next_decided : {t : Option Tree} {p : Key} {l : Option Key} {r s : ℕ} {rs xs ys out a b : List ℕ} → NextGiven t p l r rs xs out a → NextGiven t p l s rs ys out b
    → Same r s xs ys × (a ≡ b)
next_decided {t} {p} {l} {r} {s} {rs} {xs} {ys} {out} {a} {b} x y =
    let e = returns_decided x.returns y.returns in
    (e, x.bytes ∙ ap (λ (n : ℕ). key_written n (step_of t p l) out) e.number ∙ sym y.bytes)

-- The writer: every byte and number of both outputs too
pub written_decided : {o : Option Tree} {r s : ℕ} {rs xs ys tree numbers a b c d : List ℕ} → Written o r rs xs tree numbers a b → Written o s rs ys tree numbers c d
    → Same r s xs ys × (a ≡ c) × (b ≡ d)
written_decided p q = let e = decided p.left q.left in (returns_decided p.returns q.returns, e.tree, e.numbers)
