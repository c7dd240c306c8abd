-- What split leaves in the four lent slices: ws, bs and ws₂, bs₂ before, vs, cs and vs₂, cs₂ after; and its contract.
use Rattle.std.specs.Prelude.{◌≡◌, List, [], ℕ, ⊤}
use Rattle.std.proofs.Math.Option.{some}
use Rattle.tree.specs.Tree.{Tree}
use Rattle.tree.specs.Key.{Key}
use Rattle.tree.specs.Told.{Told, done, Answer, bare_told}
use Rattle.tree.specs.Calls.{SplitOutcome, refuses_both, leaves_both, split_call}
use Rattle.pool.specs.Pool.{pool_tree, slots_of}
use Rattle.pool.specs.Lent.{Lent, tree_in, size_in}

-- A refusal changes no lent byte or word.
pub record StayBoth (told x : Told) (ws bs ws₂ bs₂ vs cs vs₂ cs₂ : List ℕ) : Type 0 where
  pub said : told ≡ x
  pub words : vs ≡ ws
  pub labels : cs ≡ bs
  pub words₂ : vs₂ ≡ ws₂
  pub labels₂ : cs₂ ≡ bs₂

-- A split that is done leaves what is left in the first pool and what is detached in the second, each of the same slots.
pub record LeaveBoth (told : Told) (detached left : Tree) (ws bs ws₂ bs₂ vs cs vs₂ cs₂ : List ℕ) : Type 0 where
  pub said : told ≡ done []
  pub tree : pool_tree vs cs ≡ some left
  pub tree₂ : pool_tree vs₂ cs₂ ≡ some detached
  pub slots : slots_of vs cs ≡ slots_of ws bs
  pub slots₂ : slots_of vs₂ cs₂ ≡ slots_of ws₂ bs₂

abbrev pub MeetBoth : SplitOutcome → Told → (ws bs ws₂ bs₂ vs cs vs₂ cs₂ : List ℕ) → Type 0
MeetBoth (refuses_both x) told ws bs ws₂ bs₂ vs cs vs₂ cs₂ = StayBoth told x ws bs ws₂ bs₂ vs cs vs₂ cs₂
MeetBoth (leaves_both d u) told ws bs ws₂ bs₂ vs cs vs₂ cs₂ = LeaveBoth told d u ws bs ws₂ bs₂ vs cs vs₂ cs₂

-- What a split tells and leaves in both pools between two moments is its outcome.
abbrev pub DoesBoth : SplitOutcome → Told → (was was₂ is is₂ : Lent) → Type 0
DoesBoth o told was was₂ is is₂ =
    MeetBoth o told was.words was.labels was₂.words was₂.labels is.words is.labels is₂.words is₂.labels

-- What split allows: an answer, and the slices of both pools that it leaves
abbrev pub SplitAllows : (prefix : Key) → Answer ⊤ → (was was₂ is is₂ : Lent) → Type 0
SplitAllows prefix r was was₂ is is₂ = DoesBoth (split_call (tree_in was) (size_in was₂) prefix) (bare_told r) was was₂ is is₂
