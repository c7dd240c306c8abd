-- The writer's contract decides its answer and both outputs. Assumes nothing.
use mathlib.Core.Path.{◌≡◌, sym, ap, ◌∙◌}
use mathlib.Core.List.{List}
use mathlib.Core.Option.{Option}
use Prim.Native.Nat.{ℕ}
use Rattle.tree.specs.Tree.{Tree}
use Rattle.tree.specs.Told.{Told, Answer}
use Rattle.tree.specs.Image.{image_t, numbers_t}
use Rattle.tree.specs.declared.Written.{Written}
use Rattle.tree.proofs.OneAnswer.{written_one}
use Rattle.pool.specs.Lent.{Lent}
use Rattle.writer.specs.Post.{after, Writes, WriteAllows}

-- Two results that it allows agree.
pub record Same (x y : Told) (a b c d : List ℕ) : Type 0 where
  pub told : x ≡ y
  pub tree : a ≡ c
  pub numbers : b ≡ d

pub decided : {o : Option Tree} {x y : Told} {tree numbers a b c d : List ℕ} → Writes o x tree numbers a b → Writes o y tree numbers c d → Same x y a b c d
decided {o} {x} {y} {tree} {numbers} {a} {b} {c} {d} p q =
    let e : x ≡ y = p.said ∙ sym q.said in
    record {
      told = e;
      tree = p.bytes ∙ ap (λ (z : Told). after o z.number image_t tree) e ∙ sym q.bytes;
      numbers = p.nums ∙ ap (λ (z : Told). after o z.number numbers_t numbers) e ∙ sym q.nums;
    }

-- And so does the code's answer.
pub record Determined (r s : Answer Written) (a b c d : List ℕ) : Type 0 where
  pub answer : r ≡ s
  pub tree : a ≡ c
  pub numbers : b ≡ d

pub write_determined : (was : Lent) (r s : Answer Written) {tree numbers a b c d : List ℕ} → WriteAllows r was tree numbers a b → WriteAllows s was tree numbers c d → Determined r s a b c d
write_determined was r s p q = let e = decided p q in record { answer = written_one r s e.told; tree = e.tree; numbers = e.numbers }
