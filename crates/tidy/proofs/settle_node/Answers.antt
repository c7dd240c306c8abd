-- `tidy::settle_node` meets its contract, by the children that are left. Assumes nothing.
use native.Mathlib.Omega.{arith}
use Rattle.tidy.proofs.Sparse.{sparse_hops}
use Rattle.tidy.proofs.Settle.{numbered_stays, unnumbered, told_nothing, told_one, told_more, childless_goes, several_stay, child-below}
use Rattle.tidy.proofs.settle_node.Goals as goal

pub returns-then-has_at-gt0 : goal.returns-then-has_at-gt0
returns-then-has_at-gt0 c = λ s b l w kids r. numbered_stays (omega (arith, c.has_at.ensures.0)) r

pub kids_of-requires-clause-hops : goal.kids_of-requires-clause-hops
kids_of-requires-clause-hops c = sparse_hops c.requires.ripe.kids_are

pub take_in-requires : goal.take_in-requires
take_in-requires c =
    let p = c.requires in
    child-below p (told_one _ _ _ _ _ _ (c.kids_of.ensures _ _ _ _ _ _ p.ripe) _ c.in-One.is)

pub returns-in-Nothing : goal.returns-in-Nothing
returns-in-Nothing c =
    λ s b l w kids r.
    unnumbered (omega (arith, c.has_at.ensures.0))
    (λ q. childless_goes _ q c.requires.labels (told_nothing _ _ _ _ _ _ (c.kids_of.ensures _ _ _ _ _ _ q) c.in-Nothing.is) (c.open_gap.ensures _)) r

pub returns-in-One : goal.returns-in-One
returns-in-One c =
    λ s b l w kids r.
    unnumbered (omega (arith, c.has_at.ensures.0))
    (λ q. c.take_in.ensures s b l kids q (told_one _ _ _ _ _ _ (c.kids_of.ensures _ _ _ _ _ _ q) _ c.in-One.is) c.requires.labels) r

pub returns-in-More : goal.returns-in-More
returns-in-More c =
    λ s b l w kids r.
    unnumbered (omega (arith, c.has_at.ensures.0)) (λ q. several_stay q (told_more _ _ _ _ _ _ (c.kids_of.ensures _ _ _ _ _ _ q) c.in-More.is)) r
