-- `pool::node_ok` meets its contract. Assumes nothing.
use native.Mathlib.Omega.{arith}
use Rattle.pool.proofs.Test.{says_no, says_same}
use Rattle.pool.proofs.Ruled.{children_at}
use Rattle.tree.specs.Key.{key_max}
use Rattle.pool.proofs.node_ok.Goals as goal

pub returns : goal.returns
returns c =
    unfold key_max in
    (says_same
    (λ k. record { has = omega arith; deep = omega arith; span = omega arith; inside = omega arith; kids = children_at (omega arith) (omega arith) k })
    (λ f. children_at (omega arith) (omega arith) f.kids)
    c.children_ok.ensures)

pub returns-then-base-gt-KEY_MAX : goal.returns-then-base-gt-KEY_MAX
returns-then-base-gt-KEY_MAX c = unfold key_max in says_no (λ f. omega arith)
