-- `search::shared_in` meets its contract, by where the descent has come to. Assumes nothing.
use mathlib.Core.Path.{refl}
use native.Mathlib.Omega.{arith}
use Rattle.tree.specs.Key.{key_max}
use Rattle.search.specs.declared.Stop.{Stop}
use Rattle.search.proofs.Answers.{Known, knows, shared_at, shared-is, shared-within, spent_shared}
use Rattle.search.proofs.shared_in.Goals as goal
use Rattle.search.proofs.shared_in.Goals.{After-descend-d}

-- what is known behind the descent
known : (c : goal.After-descend-d) → Known c.args.pool.now.words c.args.pool.now.labels c.args.query.now c.descend-d.result
known c = knows c.descend-d.ensures

pub overflow_add-length : goal.overflow_add-length
unfolding shared_at key_max
overflow_add-length c =
    let w = known (goal.at.overflow_add-length c).After-descend-d in
    omega (arith, w.short, shared-within w (Stop.Fork _) c.in-Fork.is)

pub returns-in-Root : goal.returns-in-Root
returns-in-Root c = rw c.query.view_is (spent_shared (known (goal.at.returns-in-Root c).After-descend-d) c.in-Root.is)

pub returns-in-Gap : goal.returns-in-Gap
unfolding shared_at
returns-in-Gap c = shared-is (known (goal.at.returns-in-Gap c).After-descend-d) Stop.Gap c.in-Gap.is _ refl

pub returns-in-Fork : goal.returns-in-Fork
unfolding shared_at
returns-in-Fork c = shared-is (known (goal.at.returns-in-Fork c).After-descend-d) (Stop.Fork _) c.in-Fork.is _ refl
