-- One change of one key by a public call that tells 0: an insert of a key of at most 255 bytes, or a remove.
use Rattle.std.specs.Prelude.{ℕ}
use Rattle.tree.specs.Key.{Key}
use Rattle.tree.specs.Told.{Answer, inserted_told, got_told}
use Rattle.tree.specs.declared.Inserted.{Inserted}
use Rattle.tree.specs.declared.Got.{Got}
use Rattle.pool.specs.Lent.{Lent}
use Rattle.insert.specs.Post.{InsertAllows}
use Rattle.remove.specs.Post.{RemoveAllows}
use Rattle.order.specs.Built.{Short}
use Rattle.promises.specs.Pools.{Accepted}

pub data Change : Type 0 where
  insert : (key : Key) (number : ℕ) → Change
  remove : (key : Key) → Change

abbrev pub key_of : Change → Key
key_of (insert key number) = key
key_of (remove key) = key

pub record InsertedBy (key : Key) (number : ℕ) (was is : Lent) : Type 0 where
  pub answer : Answer Inserted
  pub short : Short key
  pub allowed : InsertAllows key number answer was is
  pub accepted : Accepted (inserted_told answer)

pub record RemovedBy (key : Key) (was is : Lent) : Type 0 where
  pub answer : Answer Got
  pub allowed : RemoveAllows key answer was is
  pub accepted : Accepted (got_told answer)

-- The change is accepted, and leaves these slices.
abbrev pub ChangedBy : Change → (was is : Lent) → Type 0
ChangedBy (insert key number) was is = InsertedBy key number was is
ChangedBy (remove key) was is = RemovedBy key was is
