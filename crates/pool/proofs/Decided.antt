-- The contracts of make, clear, counts, is_pool and slots_of decide the answer and what is left behind: two results that
-- they allow agree. Assumes nothing.
use mathlib.Core.Path.{◌≡◌, refl, sym, ap, ◌∙◌}
use mathlib.Core.Bool.{Bool, true, false}
use mathlib.Core.Option.{Option}
use Prim.Native.Nat.{ℕ}
use Rattle.std.specs.Prelude.{Some, None, ⊤}
use Rattle.std.specs.Prelude.{Option as Maybe}
use Rattle.tree.specs.Told.{Told, Answer, bare_told}
use Rattle.tree.specs.Calls.{Outcome, refuses, leaves, make_call, clear_call}
use Rattle.tree.specs.declared.Counted.{Counted}
use Rattle.tree.proofs.Judge.{never}
use Rattle.tree.proofs.OneAnswer.{bare_one, counted_one}
use Rattle.pool.specs.Lent.{Lent, tree_in, size_in}
use Rattle.pool.specs.Rule.{Says}
use Rattle.pool.specs.Fields.{sized_of}
use Rattle.pool.specs.Post.{Does, MakeAllows, ClearAllows, CountsAllows}

-- Two moments with the same words and bytes are one.
pub lent_same : {l m : Lent} → l.words ≡ m.words → l.labels ≡ m.labels → l ≡ m
lent_same e f = λ i. record { words = e i; labels = f i }

-- Two results of a changing call agree: in what is told, and in the tree and the slots left behind; with any number but 0 in
-- every lent word and byte.
pub record Agree (x y : Told) (is is' : Lent) : Type 0 where
  pub told : x ≡ y
  pub tree : tree_in is ≡ tree_in is'
  pub slots : size_in is ≡ size_in is'
  pub kept : ¬ (x.number ≡ 0) → is ≡ is'

-- An outcome fixes all of it, for every changing call.
pub outcome_decides : (was is is' : Lent) (x y : Told) (o : Outcome) → Does o x was is → Does o y was is' → Agree x y is is'
outcome_decides was is is' x y (refuses z) p q =
    let same : is ≡ is' = lent_same (p.words ∙ sym q.words) (p.labels ∙ sym q.labels) in
    record { told = p.said ∙ sym q.said; tree = ap tree_in same; slots = ap size_in same; kept = λ n. same }
outcome_decides was is is' x y (leaves vs t) p q =
    record {
      told = p.said ∙ sym q.said;
      tree = p.tree ∙ sym q.tree;
      slots = p.slots ∙ sym q.slots;
      kept = λ n. absurd (n (ap (λ (z : Told). z.number) p.said));
    }

-- The same with the answers of the code, each of which tells what no other tells
pub record Decided {A : Type 0} (told : A → Told) (a b : A) (is is' : Lent) : Type 0 where
  pub answer : a ≡ b
  pub tree : tree_in is ≡ tree_in is'
  pub slots : size_in is ≡ size_in is'
  pub kept : ¬ ((told a).number ≡ 0) → is ≡ is'

pub answer_decides : {A : Type 0} (told : A → Told) → ((a b : A) → told a ≡ told b → a ≡ b) → (was is is' : Lent) (o : Outcome) (a b : A)
    → Does o (told a) was is → Does o (told b) was is' → Decided told a b is is'
answer_decides told one was is is' o a b p q =
    let e = outcome_decides was is is' (told a) (told b) o p q in
    record { answer = one a b e.told; tree = e.tree; slots = e.slots; kept = e.kept }

pub make_determined : (was is is' : Lent) (a b : Answer ⊤) → MakeAllows a was is → MakeAllows b was is' → Decided bare_told a b is is'
make_determined was is is' = answer_decides bare_told bare_one was is is' (make_call (size_in was))

pub clear_determined : (was is is' : Lent) (a b : Answer ⊤) → ClearAllows a was is → ClearAllows b was is' → Decided bare_told a b is is'
clear_determined was is is' = answer_decides bare_told bare_one was is is' (clear_call (tree_in was))

pub counts_determined : (was : Lent) (a b : Answer Counted) → CountsAllows a was → CountsAllows b was → a ≡ b
counts_determined was a b p q = counted_one a b (p ∙ sym q)

-- A test says one thing.
pub says_one : {P : Type 0} (a b : Bool) → Says a P → Says b P → a ≡ b
says_one true true p q = refl
says_one true false p q = absurd (q.no refl (p.yes refl))
says_one false true p q = absurd (p.no refl (q.yes refl))
says_one false false p q = refl

pub slots_determined : {o : Option ℕ} (a b : Maybe ℕ) → sized_of a ≡ o → sized_of b ≡ o → a ≡ b
slots_determined (Some m) (Some n) p q = ap Some (cc)
slots_determined (Some m) None p q = never (cc)
slots_determined None (Some n) p q = never (cc)
slots_determined None None p q = refl
