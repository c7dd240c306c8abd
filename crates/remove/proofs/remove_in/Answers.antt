-- `remove::remove_in` meets its contract, by where the search has ended. Assumes nothing.
use mathlib.Core.Logic.{inl, inr}
use Rattle.search.proofs.Answers.{knows}
use Rattle.remove.proofs.Taken.{found, elsewhere}
use Rattle.remove.proofs.remove_in.Goals as goal

pub take_number-requires : goal.take_number-requires
take_number-requires c = found (knows c.requires) c.in-Root.is

pub returns-in-Root : goal.returns-in-Root
unfolding found
returns-in-Root c = c.take_number.ensures (found (knows c.requires) c.in-Root.is)

pub returns-in-Inside : goal.returns-in-Inside
returns-in-Inside c = elsewhere (knows c.requires) (inr (inl (_, c.in-Inside.is)))

pub returns-in-Gap : goal.returns-in-Gap
returns-in-Gap c = elsewhere (knows c.requires) (elim c.in-Gap.is [ inl e ↦ inl e | inr e ↦ inr (inr e) ])
