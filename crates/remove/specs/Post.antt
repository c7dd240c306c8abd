-- The contract of remove.
use Rattle.tree.specs.Key.{Key}
use Rattle.tree.specs.Told.{Answer, got_told}
use Rattle.tree.specs.Calls.{remove_call}
use Rattle.tree.specs.declared.Got.{Got}
use Rattle.pool.specs.Lent.{Lent, tree_in}
use Rattle.pool.specs.Post.{Does}

-- What remove allows: an answer, and the slices that it leaves
abbrev pub RemoveAllows : Key → Answer Got → (was is : Lent) → Type 0
RemoveAllows key r was is = Does (remove_call (tree_in was) key) (got_told r) was is
