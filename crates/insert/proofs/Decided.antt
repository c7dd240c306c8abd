-- Insert's contract decides its answer and what is left behind. Assumes nothing.
use Prim.Native.Nat.{ℕ}
use Rattle.tree.specs.Key.{Key}
use Rattle.tree.specs.Told.{inserted_told}
use Rattle.tree.specs.Calls.{insert_call}
use Rattle.tree.specs.Told.{Answer}
use Rattle.tree.specs.declared.Inserted.{Inserted}
use Rattle.tree.proofs.OneAnswer.{inserted_one}
use Rattle.pool.specs.Lent.{Lent, tree_in, room_in}
use Rattle.pool.proofs.Decided.{Decided, answer_decides}
use Rattle.insert.specs.Post.{InsertAllows}

pub insert_determined : (key : Key) (number : ℕ) (was is is' : Lent) (a b : Answer Inserted) → InsertAllows key number a was is → InsertAllows key number b was is'
    → Decided inserted_told a b is is'
insert_determined key number was is is' = answer_decides inserted_told inserted_one was is is' (insert_call (tree_in was) (room_in was) key number)
