-- `pool::is_pool` meets its contract. Assumes nothing.
use mathlib.Core.Path.{sym, ◌∙◌}
use Rattle.tree.proofs.Order.{none-some}
use Rattle.pool.proofs.Test.{says_no}
use Rattle.pool.proofs.Decode.{lengths-right}
use Rattle.pool.proofs.Decode.{slots_of_lem as right_slots}
use Rattle.pool.proofs.is_pool.Goals as goal

pub tree_ok-requires : goal.tree_ok-requires
tree_ok-requires c = lengths-right _ _ _ (sym (rw c.in-Some.is at c.slots_of.ensures))

pub returns-in-None : goal.returns-in-None
returns-in-None c =
    let e = rw c.in-None.is at c.slots_of.ensures in
    says_no (λ r. none-some r.slots (e ∙ right_slots _ _ _ r.lengths))
