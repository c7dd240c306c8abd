-- `search::longest_in` meets its contract: the descent keeps the longest prefix. Assumes nothing.
use mathlib.Core.Path.{refl}
use Rattle.std.specs.Prelude.{None}
use Rattle.tree.specs.Calls.{longest_told}
use Rattle.search.proofs.Answers.{Known, knows, longest-is, best_longest}
use Rattle.search.proofs.longest_in.Goals as goal
use Rattle.search.proofs.longest_in.Goals.{After-descend-d}

-- what is known behind the descent
known : (c : goal.After-descend-d) → Known c.args.pool.now.words c.args.pool.now.labels c.args.query.now c.descend-d.result
known c = knows c.descend-d.ensures

pub returns-in-None : goal.returns-in-None
unfolding longest_told
returns-in-None c = longest-is (known (goal.at.returns-in-None c).After-descend-d) None c.in-None.is _ refl

pub returns-in-Some : goal.returns-in-Some
returns-in-Some c = best_longest (known (goal.at.returns-in-Some c).After-descend-d) _ c.in-Some.is
