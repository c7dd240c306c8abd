-- `line::many` meets its contract: each turn takes one number. Assumes nothing.
use Rattle.std.proofs.Common.{arith, ◌≡◌, ◌+◌, drop, length-set}
use Rattle.line.specs.Spelling.{index_of}
use Rattle.line.proofs.Lists.{listing_bad, listing_last, listing_step, behind_comma}
use Rattle.line.proofs.many.Goals as goal

pub returns-in_err-out : goal.returns-in_err-out
returns-in_err-out c =
    rw c.from_residual.ensures (listing_bad (rw (c.split_at.ensures.front, c.find.ensures.0) at c.in_err-out.ensures) c.loop-k.invariant)

pub returns-in_default : goal.returns-in_default
returns-in_default c =
    let n = rw (c.split_at.ensures.front, c.find.ensures.0) at c.in_ok-out.ensures in
    let e = c.in_default.ensures in
    (simp length-set (omega arith), listing_last (omega arith) (omega arith) n c.loop-k.invariant)

pub loop-k-preserved : goal.loop-k-preserved
loop-k-preserved c =
    let d = c.loop-k.rest.now in
    let n = rw (c.split_at.ensures.front, c.find.ensures.0) at c.in_ok-out.ensures in
    let cases = c.in-Some.ensures.cases in
    let more : c.in-Some.more.now ≡ drop (index_of 44 d + 1) d = behind_comma d c.find.ensures.0 c.split_at.ensures.back cases.0 in
    rw more (listing_step (omega arith) (omega arith) n c.loop-k.invariant)
