-- The contracts of the three searches.
use Rattle.std.specs.Prelude.{◌≡◌}
use Rattle.tree.specs.Key.{Key}
use Rattle.tree.specs.Told.{Answer, got_told, prefixed_told, sharing_told}
use Rattle.tree.specs.Calls.{get_call, longest_call, shared_call}
use Rattle.tree.specs.declared.Got.{Got}
use Rattle.tree.specs.declared.Prefixed.{Prefixed}
use Rattle.tree.specs.declared.Sharing.{Sharing}
use Rattle.pool.specs.Lent.{Lent, tree_in}

-- What each allows as its answer
abbrev pub GetAllows : Key → Answer Got → Lent → Type 0
GetAllows key r was = got_told r ≡ get_call (tree_in was) key

abbrev pub LongestAllows : Key → Answer Prefixed → Lent → Type 0
LongestAllows query r was = prefixed_told r ≡ longest_call (tree_in was) query

abbrev pub SharedAllows : Key → Answer Sharing → Lent → Type 0
SharedAllows query r was = sharing_told r ≡ shared_call (tree_in was) query
