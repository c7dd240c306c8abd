-- `pool::children_ok` meets its contract: the rest of the chain is right where the whole is. Assumes nothing.
use native.Mathlib.Omega.{arith}
use Rattle.pool.specs.Rule.{done, child}
use Rattle.pool.proofs.Test.{says_yes, says_no}
use Rattle.pool.proofs.Kin.{first-child, later_children, children_from}
use Rattle.pool.proofs.children_ok.Goals as goal

pub returns-then-not-child_ok : goal.returns-then-not-child_ok
returns-then-not-child_ok c =
    says_no (λ k. c.child_ok.ensures.no (c.if-not-child_ok.true) (first-child c.loop-c-test.true (c.loop-c.invariant.rest k)))

pub loop-c-preserved : goal.loop-c-preserved
loop-c-preserved c =
    let f = c.child_ok.ensures.yes (c.if-not-child_ok.false) in
    let w = c.loop-c.invariant in
    let t = c.loop-c-test.true in
    record {
      within = omega (arith, f);
      whole = λ k. w.whole (child f (children_from (omega arith) (omega arith) k));
      rest = λ k. children_from (omega arith) (omega arith) (later_children t (w.rest k));
    }

pub returns : goal.returns
returns c = says_yes (c.loop-c.invariant.whole (done (omega arith)))
