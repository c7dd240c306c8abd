-- What each changing call has done where it tells 0: the tree that was there, that there was room, and the tree that is left.
-- `told` is what a call of Rattle or an exported one tells. Assumes nothing.
use mathlib.Core.Path.{◌≡◌, refl, sym, ap, ◌∙◌}
use mathlib.Core.List.{List}
use mathlib.Core.Option.{some}
use Prim.Native.Nat.{ℕ, ◌≤◌}
use lib.ListN.{length}
use Rattle.tree.specs.Key.{Key, key_max}
use Rattle.tree.specs.Tree.{Tree, nodes_t}
use Rattle.tree.specs.Insert.{insert_t}
use Rattle.tree.specs.Remove.{remove_t}
use Rattle.tree.specs.Split.{halves, split_t}
use Rattle.tree.specs.Reader.{ok, read_t}
use Rattle.tree.specs.Told.{Told}
use Rattle.tree.specs.Calls.{SplitOutcome, refuses_both, leaves_both, insert_call, remove_call, split_call, read_call}
use Rattle.tree.proofs.Refusals.{HonestBoth, insert_honest, remove_honest, split_honest, read_honest}
use Rattle.tree.proofs.Accepted.{insert-accepted, remove-accepted, split_accepted, read_accepted}
use Rattle.pool.specs.Lent.{Lent, tree_in, size_in, room_in}
use Rattle.pool.specs.Post.{Does}
use Rattle.pool.proofs.Outcomes.{done-leaves}
use Rattle.split.specs.Post.{DoesBoth}
use Rattle.promises.specs.Pools.{Accepted}

pub record InsertLeft (key : Key) (number : ℕ) (was is : Lent) : Type 0 where
  pub tree : Tree
  pub held : tree_in was ≡ some tree
  pub short : length key ≤ key_max
  pub room : nodes_t (insert_t tree key number) ≤ room_in was
  pub left : tree_in is ≡ some (insert_t tree key number)
  pub size : size_in is ≡ size_in was

pub insert-leaves : (key : Key) (number : ℕ) (told : Told) (was is : Lent) → Does (insert_call (tree_in was) (room_in was) key number) told was is → Accepted told
    → InsertLeft key number was is
insert-leaves key number told was is d e =
    let o = insert_call (tree_in was) (room_in was) key number in
    let x = done-leaves o told was is (insert_honest (tree_in was) (room_in was) key number) d e in
    let a = insert-accepted (tree_in was) (room_in was) key number x.outcome in
    record { tree = a.tree; held = a.held; short = a.short; room = a.room; left = x.left ∙ ap (λ (t : Tree). some t) a.left; size = x.size }

pub record RemoveLeft (key : Key) (was is : Lent) : Type 0 where
  pub tree : Tree
  pub held : tree_in was ≡ some tree
  pub rest : Tree
  pub removed : remove_t tree key ≡ some rest
  pub left : tree_in is ≡ some rest
  pub size : size_in is ≡ size_in was

pub remove-leaves : (key : Key) (told : Told) (was is : Lent) → Does (remove_call (tree_in was) key) told was is → Accepted told → RemoveLeft key was is
remove-leaves key told was is d e =
    let x = done-leaves (remove_call (tree_in was) key) told was is (remove_honest (tree_in was) key) d e in
    let a = remove-accepted (tree_in was) key x.outcome in
    record { tree = a.tree; held = a.held; rest = x.tree; removed = a.left; left = x.left; size = x.size }

pub record SplitLeft (prefix : Key) (was was₂ is is₂ : Lent) : Type 0 where
  pub tree : Tree
  pub held : tree_in was ≡ some tree
  pub size : ℕ
  pub sized : size_in was₂ ≡ some size
  pub detached : Tree
  pub rest : Tree
  pub parted : split_t tree prefix ≡ halves detached rest
  pub room : nodes_t detached ≤ size
  pub left : tree_in is ≡ some rest
  pub left₂ : tree_in is₂ ≡ some detached

pub split_leaves : (prefix : Key) (told : Told) (was was₂ is is₂ : Lent) → DoesBoth (split_call (tree_in was) (size_in was₂) prefix) told was was₂ is is₂ → Accepted told
    → SplitLeft prefix was was₂ is is₂
split_leaves prefix told was was₂ is is₂ d e = by (split_call (tree_in was) (size_in was₂) prefix) refl (split_honest (tree_in was) (size_in was₂) prefix) d
  where
    by : (o : SplitOutcome) → split_call (tree_in was) (size_in was₂) prefix ≡ o → HonestBoth o → DoesBoth o told was was₂ is is₂ → SplitLeft prefix was was₂ is is₂
    by (refuses_both x) q h d = absurd (h (ap (λ (z : Told). z.number) (sym d.said) ∙ e))
    by (leaves_both x u) q h d =
        let a = split_accepted (tree_in was) (size_in was₂) prefix q in
        record {
          tree = a.tree;
          held = a.held;
          size = a.size;
          sized = a.sized;
          detached = x;
          rest = u;
          parted = a.parted;
          room = a.room;
          left = d.tree;
          left₂ = d.tree₂;
        }

pub record ReadLeft (s ns : List ℕ) (was is : Lent) : Type 0 where
  pub size : ℕ
  pub sized : size_in was ≡ some size
  pub tree : Tree
  pub read : read_t s ns size ≡ ok tree
  pub left : tree_in is ≡ some tree

pub read_leaves : (s ns : List ℕ) (told : Told) (was is : Lent) → Does (read_call (size_in was) s ns) told was is → Accepted told → ReadLeft s ns was is
read_leaves s ns told was is d e =
    let x = done-leaves (read_call (size_in was) s ns) told was is (read_honest (size_in was) s ns) d e in
    let a = read_accepted (size_in was) s ns x.outcome in
    record { size = a.size; sized = a.sized; tree = x.tree; read = a.read; left = x.left }
