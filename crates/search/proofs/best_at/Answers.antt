-- `search::best_at` meets its contract. Assumes nothing.
use Rattle.tree.specs.Search.{met}
use Rattle.search.proofs.best_at.Goals as goal

pub returns-in-Some : goal.returns-in-Some
unfolding met
returns-in-Some c = rw (← c.in-Some.ensures)

pub returns-in-None : goal.returns-in-None
unfolding met
returns-in-None c = rw (← c.in-None.ensures)
