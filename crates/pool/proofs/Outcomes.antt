-- What a number told says of a changing call: 0 that it is done and left its tree, any other that nothing lent has changed.
-- Assumes nothing.
use mathlib.Core.Path.{◌≡◌, refl, sym, ap, ◌∙◌}
use mathlib.Core.List.{List}
use mathlib.Core.Option.{some}
use Prim.Native.Nat.{ℕ}
use Rattle.tree.specs.Tree.{Tree, empty}
use Rattle.tree.specs.Remove.{clear_t}
use Rattle.tree.specs.Told.{Told, done}
use Rattle.tree.specs.Calls.{Outcome, refuses, leaves, make_call, clear_call}
use Rattle.tree.proofs.Refusals.{Honest, make_honest, clear_honest}
use Rattle.tree.proofs.Accepted.{make_accepted, clear_accepted}
use Rattle.pool.specs.Lent.{Lent, tree_in, size_in}
use Rattle.pool.specs.Post.{Does}
use Rattle.pool.proofs.Decided.{lent_same}

number_of : {x y : Told} → x ≡ y → x.number ≡ y.number
number_of e = ap (λ (z : Told). z.number) e

-- Of every outcome: with any number but 0 every lent word and byte is as it was.
pub refused_stays : (o : Outcome) (told : Told) (was is : Lent) → Does o told was is → ¬ (told.number ≡ 0) → is ≡ was
refused_stays (refuses x) told was is d n = lent_same d.words d.labels
refused_stays (leaves vs t) told was is d n = absurd (n (number_of d.said))

-- With 0 the call has left its tree, in as many slots, if its refusals never tell 0.
pub record LeftBy (o : Outcome) (told : Told) (was is : Lent) : Type 0 where
  pub values : List ℕ
  pub tree : Tree
  pub outcome : o ≡ leaves values tree
  pub said : told ≡ done values
  pub left : tree_in is ≡ some tree
  pub size : size_in is ≡ size_in was

pub done-leaves : (o : Outcome) (told : Told) (was is : Lent) → Honest o → Does o told was is → told.number ≡ 0 → LeftBy o told was is
done-leaves (refuses x) told was is h d e = absurd (h (sym (number_of d.said) ∙ e))
done-leaves (leaves vs t) told was is h d e = record { values = vs; tree = t; outcome = refl; said = d.said; left = d.tree; size = d.slots }

-- Make and clear leave the empty tree; clear had a pool to begin with.
pub make_leaves : (told : Told) (was is : Lent) → Does (make_call (size_in was)) told was is → told.number ≡ 0 → tree_in is ≡ some empty
make_leaves told was is d e =
    let x = done-leaves (make_call (size_in was)) told was is (make_honest (size_in was)) d e in
    x.left ∙ ap (λ (t : Tree). some t) (make_accepted (size_in was) x.outcome).left

pub record Cleared (was is : Lent) : Type 0 where
  pub tree : Tree
  pub held : tree_in was ≡ some tree
  pub left : tree_in is ≡ some (clear_t tree)

pub clear_leaves : (told : Told) (was is : Lent) → Does (clear_call (tree_in was)) told was is → told.number ≡ 0 → Cleared was is
clear_leaves told was is d e =
    let x = done-leaves (clear_call (tree_in was)) told was is (clear_honest (tree_in was)) d e in
    let c = clear_accepted (tree_in was) x.outcome in
    record { tree = c.tree; held = c.held; left = x.left ∙ ap (λ (t : Tree). some t) c.left }
