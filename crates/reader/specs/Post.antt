-- The contract of read.
use Rattle.std.specs.Prelude.{List, ℕ, ⊤}
use Rattle.tree.specs.Told.{Answer, bare_told}
use Rattle.tree.specs.Calls.{read_call}
use Rattle.pool.specs.Lent.{Lent, size_in}
use Rattle.pool.specs.Post.{Does}

-- What read allows of the image s with the numbers ns: an answer, and the slices that it leaves
abbrev pub ReadAllows : (s ns : List ℕ) → Answer ⊤ → (was is : Lent) → Type 0
ReadAllows s ns r was is = Does (read_call (size_in was) s ns) (bare_told r) was is
