-- Remove's contract decides its answer and what is left behind. Assumes nothing.
use Rattle.tree.specs.Key.{Key}
use Rattle.tree.specs.Told.{Answer, got_told}
use Rattle.tree.specs.Calls.{remove_call}
use Rattle.tree.specs.declared.Got.{Got}
use Rattle.tree.proofs.OneAnswer.{got_one}
use Rattle.pool.specs.Lent.{Lent, tree_in}
use Rattle.pool.proofs.Decided.{Decided, answer_decides}
use Rattle.remove.specs.Post.{RemoveAllows}

pub remove_determined : (key : Key) (was is is' : Lent) (a b : Answer Got) → RemoveAllows key a was is → RemoveAllows key b was is' → Decided got_told a b is is'
remove_determined key was is is' = answer_decides got_told got_one was is is' (remove_call (tree_in was) key)
