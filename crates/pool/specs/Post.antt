-- What a changing call leaves in the two lent slices, ws and bs before, vs and cs after; and the contracts of make, clear and
-- counts.
use Rattle.std.specs.Prelude.{◌≡◌, List, ℕ, ⊤}
use Rattle.std.proofs.Math.Option.{some}
use Rattle.tree.specs.Tree.{Tree}
use Rattle.tree.specs.Told.{Told, done, Answer, bare_told, counted_told}
use Rattle.tree.specs.Calls.{Outcome, refuses, leaves, make_call, clear_call, counts_call}
use Rattle.tree.specs.declared.Counted.{Counted}
use Rattle.pool.specs.Pool.{pool_tree, slots_of}
use Rattle.pool.specs.Lent.{Lent, tree_in, size_in}

-- A refusal changes no lent byte or word.
pub record Stays (told x : Told) (ws bs vs cs : List ℕ) : Type 0 where
  pub said : told ≡ x
  pub words : vs ≡ ws
  pub labels : cs ≡ bs

-- A call that is done tells 0 with these values, and leaves a pool of the same slots with the tree t.
pub record Leaves (told : Told) (values : List ℕ) (t : Tree) (ws bs vs cs : List ℕ) : Type 0 where
  pub said : told ≡ done values
  pub tree : pool_tree vs cs ≡ some t
  pub slots : slots_of vs cs ≡ slots_of ws bs

abbrev pub Meets : Outcome → Told → (ws bs vs cs : List ℕ) → Type 0
Meets (refuses x) told ws bs vs cs = Stays told x ws bs vs cs
Meets (leaves values t) told ws bs vs cs = Leaves told values t ws bs vs cs

-- What a call tells and leaves between two moments is its outcome.
abbrev pub Does : Outcome → Told → (was is : Lent) → Type 0
Does o told was is = Meets o told was.words was.labels is.words is.labels

-- What the public calls of this crate allow: an answer, and the slices that they leave
abbrev pub MakeAllows : Answer ⊤ → (was is : Lent) → Type 0
MakeAllows r was is = Does (make_call (size_in was)) (bare_told r) was is

abbrev pub ClearAllows : Answer ⊤ → (was is : Lent) → Type 0
ClearAllows r was is = Does (clear_call (tree_in was)) (bare_told r) was is

abbrev pub CountsAllows : Answer Counted → Lent → Type 0
CountsAllows r was = counted_told r ≡ counts_call (tree_in was)
