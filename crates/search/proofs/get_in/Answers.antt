-- `search::get_in` meets its contract, by where the descent has come to. Assumes nothing.
use mathlib.Core.Path.{ap}
use mathlib.Core.Logic.{inl, inr}
use Rattle.pool.specs.Lent.{Lent}
use Rattle.search.proofs.Answers.{Known, knows, arrived_slot, arrived_got, missed_got}
use Rattle.search.proofs.get_in.Goals as goal
use Rattle.search.proofs.get_in.Goals.{After-descend-d}

-- what is known behind the descent
known : (c : goal.After-descend-d) → Known c.args.pool.now.words c.args.pool.now.labels c.args.key.now c.descend-d.result
known c = knows c.descend-d.ensures

pub number_in-requires : goal.number_in-requires
number_in-requires c =
    let words = ap (λ (l : Lent). l.words) c.pool.view_is in
    rw words (arrived_slot (known (goal.at.number_in-requires c).After-descend-d) c.in-Root.is)

pub returns-in-Root : goal.returns-in-Root
returns-in-Root c =
    let words = ap (λ (l : Lent). l.words) c.pool.view_is in
    arrived_got (known (goal.at.returns-in-Root c).After-descend-d) c.in-Root.is _ (rw words at c.number_in.ensures)

pub returns-in-Gap : goal.returns-in-Gap
returns-in-Gap c = missed_got (known (goal.at.returns-in-Gap c).After-descend-d) (inl c.in-Gap.is)

pub returns-in-Inside : goal.returns-in-Inside
returns-in-Inside c = missed_got (known (goal.at.returns-in-Inside c).After-descend-d) (inr c.in-Inside.is)
