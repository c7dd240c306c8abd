-- The contract of insert.
use Rattle.std.specs.Prelude.{ℕ}
use Rattle.tree.specs.Key.{Key}
use Rattle.tree.specs.Told.{Answer, inserted_told}
use Rattle.tree.specs.Calls.{insert_call}
use Rattle.tree.specs.declared.Inserted.{Inserted}
use Rattle.pool.specs.Lent.{Lent, tree_in, room_in}
use Rattle.pool.specs.Post.{Does}

-- What insert allows: an answer, and the slices that it leaves
abbrev pub InsertAllows : Key → (number : ℕ) → Answer Inserted → (was is : Lent) → Type 0
InsertAllows key number r was is = Does (insert_call (tree_in was) (room_in was) key number) (inserted_told r) was is
