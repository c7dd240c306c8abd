-- The two lent slices of a pool at one moment: as a call is given them, or as it leaves them.
use Rattle.std.specs.Prelude.{List, ℕ}
use Rattle.std.proofs.Math.Option.{Option}
use Rattle.tree.specs.Tree.{Tree}
use Rattle.slots.specs.Layout.{slots_in}
use Rattle.pool.specs.Pool.{pool_tree, slots_of}

pub record Lent : Type 0 where
  pub words : List ℕ
  pub labels : List ℕ

abbrev pub lent : (labels words : List ℕ) → Lent
lent labels words = record { words = words; labels = labels }

-- The tree that they hold, or none where they are no pool
abbrev pub tree_in : Lent → Option Tree
tree_in l = pool_tree l.words l.labels

-- How many slots they have, or none where their lengths are wrong
abbrev pub size_in : Lent → Option ℕ
size_in l = slots_of l.words l.labels

-- How many slots a pool has
abbrev pub room_in : Lent → ℕ
room_in l = slots_in l.labels
