-- The cycle `reader::check_node`, `reader::check_kids` meets its contracts. Assumes nothing.
use Prim.Native.Nat.{ℕ}
use native.Mathlib.Omega.{arith}
use Rattle.std.proofs.lemmas.Result.{err_from_is_err_and}
use Rattle.reader.proofs.Tests.{below-is}
use Rattle.reader.proofs.Walk.{Passed, node-passed, node-broken, node-leaf, node-deep, stop-broken, stop-last, go_on}
use Rattle.reader.proofs.+check_kids_check_node.Goals as goal
use Rattle.reader.proofs.+check_kids_check_node.Goals.{check_node-In_ok-test_record}

pub check_kids-returns-in_err-next : goal.check_kids-returns-in_err-next
check_kids-returns-in_err-next t c =
    let p = err_from_is_err_and c.from_residual.result c.from_residual.ensures.1 in
    rw (p.1, p.2) (c.loop-next.invariant.whole _ (stop-broken _ _ _ _ _ _ c.in_err-next.ensures))

pub check_kids-returns-then-not-has_sibling : goal.check_kids-returns-then-not-has_sibling
check_kids-returns-then-not-has_sibling t c =
    c.loop-next.invariant.whole _
    (stop-last _ _ _ _ _ _ c.in_ok-next.ensures (rw c.if-not-has_sibling.true at c.has_sibling.ensures))

pub check_kids-bounds-tree-at-in-loop-next : goal.check_kids-bounds-tree-at-in-loop-next
check_kids-bounds-tree-at-in-loop-next t c =
    let d = below-is c.args.level.0 (omega arith) in
    omega (arith, c.in_ok-next.ensures.within)

pub check_kids-loop-next-preserved : goal.check_kids-loop-next-preserved
check_kids-loop-next-preserved t c =
    let p = c.in_ok-next.ensures in
    let w = p.within in
    record {
      forth = omega arith;
      inside = omega arith;
      few = omega arith;
      whole = λ x h.
          c.loop-next.invariant.whole x
          (go_on _ _ _ _ _ _ x p (λ e. let one = rw c.if-not-has_sibling.false at c.has_sibling.ensures in omega (arith, e, one)) (rw c.from-least.ensures at h));
    }

-- a record that passed its tests
passed : (t : ℕ) (c : check_node-In_ok-test_record t) → Passed c.args.tree.now c.args.level.0 c.args.path c.args.from
passed t c = node-passed c.args.tree.now c.args.level.0 c.args.least c.args.path c.args.from c.in_ok-test_record.ensures

pub check_node-returns-in_err-test_record : goal.check_node-returns-in_err-test_record
check_node-returns-in_err-test_record t c =
    let p = err_from_is_err_and c.from_residual.result c.from_residual.ensures.1 in
    rw (p.1, p.2) (node-broken _ _ _ _ _ _ c.in_err-test_record.ensures)

pub check_node-bounds-tree-at : goal.check_node-bounds-tree-at
check_node-bounds-tree-at t c = let o = passed t (goal.at.check_node-bounds-tree-at t c).In_ok-test_record in omega arith

pub check_node-bounds-tree-at-2 : goal.check_node-bounds-tree-at-2
check_node-bounds-tree-at-2 t c = let o = passed t (goal.at.check_node-bounds-tree-at-2 t c).In_ok-test_record in omega arith

pub check_node-overflow_sub-past : goal.check_node-overflow_sub-past
check_node-overflow_sub-past t c = let o = passed t (goal.at.check_node-overflow_sub-past t c).In_ok-test_record in omega arith

pub check_node-bounds-tree-at-3 : goal.check_node-bounds-tree-at-3
check_node-bounds-tree-at-3 t c = let o = passed t (goal.at.check_node-bounds-tree-at-3 t c).In_ok-test_record in omega arith

pub check_node-returns-then-not-has_child : goal.check_node-returns-then-not-has_child
check_node-returns-then-not-has_child t c =
    rw (c.from-len.ensures, c.has_number.ensures.0)
    (node-leaf _ _ _ _ _ c.in_ok-test_record.ensures (rw c.if-not-has_child.true at c.has_child.ensures) (omega arith))

pub check_node-check_kids-requires : goal.check_node-check_kids-requires
check_node-check_kids-requires t c = let o = passed t (goal.at.check_node-check_kids-requires t c).In_ok-test_record in omega arith

pub check_node-returns : goal.check_node-returns
check_node-returns t c =
    let q = rw (c.from-len.ensures, c.has_number.ensures.0) at c.check_kids.ensures in
    node-deep _ _ _ _ _ _ c.in_ok-test_record.ensures (λ z. let one = rw c.if-not-has_child.false at c.has_child.ensures in omega (arith, z, one)) q
