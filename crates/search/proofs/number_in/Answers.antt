-- `search::number_in` meets its contract. Assumes nothing.
use Rattle.tree.specs.Calls.{number_told}
use Rattle.search.proofs.number_in.Goals as goal

pub returns-in-Some : goal.returns-in-Some
unfolding number_told
returns-in-Some c = rw (← c.in-Some.ensures)

pub returns-in-None : goal.returns-in-None
unfolding number_told
returns-in-None c = rw (← c.in-None.ensures)
