-- Split's contract decides its answer and what is left in both pools. Assumes nothing.
use mathlib.Core.Path.{◌≡◌, sym, ap, ◌∙◌}
use Rattle.tree.specs.Key.{Key}
use Rattle.std.specs.Prelude.{⊤}
use Rattle.tree.specs.Told.{Told, Answer, bare_told}
use Rattle.tree.specs.Calls.{SplitOutcome, refuses_both, leaves_both, split_call}
use Rattle.tree.proofs.OneAnswer.{bare_one}
use Rattle.pool.specs.Lent.{Lent, tree_in, size_in}
use Rattle.pool.proofs.Decided.{lent_same}
use Rattle.split.specs.Post.{DoesBoth, SplitAllows}

-- Two results agree: in what is told, and in the trees left behind; with any number but 0 in every lent word and byte.
pub record Agree (x y : Told) (is is₂ is' is₂' : Lent) : Type 0 where
  pub told : x ≡ y
  pub left : tree_in is ≡ tree_in is'
  pub detached : tree_in is₂ ≡ tree_in is₂'
  pub kept : ¬ (x.number ≡ 0) → is ≡ is'
  pub kept₂ : ¬ (x.number ≡ 0) → is₂ ≡ is₂'

pub both_decide : (was was₂ is is₂ is' is₂' : Lent) (x y : Told) (o : SplitOutcome) → DoesBoth o x was was₂ is is₂ → DoesBoth o y was was₂ is' is₂'
    → Agree x y is is₂ is' is₂'
both_decide was was₂ is is₂ is' is₂' x y (refuses_both z) p q =
    let same : is ≡ is' = lent_same (p.words ∙ sym q.words) (p.labels ∙ sym q.labels) in
    let same₂ : is₂ ≡ is₂' = lent_same (p.words₂ ∙ sym q.words₂) (p.labels₂ ∙ sym q.labels₂) in
    record { told = p.said ∙ sym q.said; left = ap tree_in same; detached = ap tree_in same₂; kept = λ n. same; kept₂ = λ n. same₂ }
both_decide was was₂ is is₂ is' is₂' x y (leaves_both d u) p q =
    let done : x.number ≡ 0 = ap (λ (z : Told). z.number) p.said in
    record {
      told = p.said ∙ sym q.said;
      left = p.tree ∙ sym q.tree;
      detached = p.tree₂ ∙ sym q.tree₂;
      kept = λ n. absurd (n done);
      kept₂ = λ n. absurd (n done);
    }

-- And so does the code's answer.
pub record Decided (a b : Answer ⊤) (is is₂ is' is₂' : Lent) : Type 0 where
  pub answer : a ≡ b
  pub agree : Agree (bare_told a) (bare_told b) is is₂ is' is₂'

pub split_determined : (prefix : Key) (was was₂ is is₂ is' is₂' : Lent) (a b : Answer ⊤) → SplitAllows prefix a was was₂ is is₂ → SplitAllows prefix b was was₂ is' is₂'
    → Decided a b is is₂ is' is₂'
split_determined prefix was was₂ is is₂ is' is₂' a b p q =
    let e = both_decide was was₂ is is₂ is' is₂' (bare_told a) (bare_told b) (split_call (tree_in was) (size_in was₂) prefix) p q in
    record { answer = bare_one a b e.told; agree = e }
