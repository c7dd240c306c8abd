-- `reader::check_root` meets its contract: the root's record, and behind it its children, where it has any. Assumes nothing.
use mathlib.Core.Path.{◌≡◌, refl}
use native.Mathlib.Omega.{arith}
use lib.ListN.{get_or}
use Rattle.std.proofs.lemmas.Result.{err_from_is_err_and}
use Rattle.flags.proofs.Judged.{below_root}
use Rattle.reader.specs.Check.{start}
use Rattle.reader.proofs.Walk.{Passed, node-passed, node-broken, node-leaf, node-deep}
use Rattle.reader.proofs.check_root.Goals as goal
use Rattle.reader.proofs.check_root.Goals.{In_ok-test_root}

-- a root that passed its tests
passed : (c : In_ok-test_root) → Passed c.args.tree.now 0 0 (start c.args.numbers)
passed c = node-passed c.args.tree.now 0 0 0 (start c.args.numbers) c.in_ok-test_root.ensures

bare : (c : In_ok-test_root) → get_or c.args.tree.now 1 0 ≡ 0
bare c =
    let r = below_root 0 refl in
    let o = passed c in
    omega arith

pub returns-in_err-test_root : goal.returns-in_err-test_root
returns-in_err-test_root c =
    let p = err_from_is_err_and c.from_residual.result c.from_residual.ensures.1 in
    rw (p.1, p.2) (node-broken _ _ _ _ _ _ c.in_err-test_root.ensures)

pub bounds-tree-0 : goal.bounds-tree-0
bounds-tree-0 c = let o = passed (goal.at.bounds-tree-0 c).In_ok-test_root in omega arith

pub overflow_sub-past : goal.overflow_sub-past
overflow_sub-past c = let o = passed (goal.at.overflow_sub-past c).In_ok-test_root in omega arith

pub bounds-tree-0-2 : goal.bounds-tree-0-2
bounds-tree-0-2 c = let o = passed (goal.at.bounds-tree-0-2 c).In_ok-test_root in omega arith

pub returns-then-not-has_child : goal.returns-then-not-has_child
returns-then-not-has_child c =
    let e = c.in_ok-test_root.ensures in
    let z = bare (goal.at.returns-then-not-has_child c).In_ok-test_root in
    let leaf = node-leaf c.args.tree.now 0 0 0 (start c.args.numbers) e (rw c.if-not-has_child.true at c.has_child.ensures) (omega arith) in
    rw (c.has_number.ensures.0) (rw z at leaf)

pub check_kids-requires : goal.check_kids-requires
check_kids-requires c = let o = passed (goal.at.check_kids-requires c).In_ok-test_root in omega arith

pub returns : goal.returns
returns c =
    let e = c.in_ok-test_root.ensures in
    let z = bare (goal.at.returns c).In_ok-test_root in
    let q = rw c.has_number.ensures.0 at c.check_kids.ensures in
    node-deep c.args.tree.now 0 0 0 (start c.args.numbers) _ e (λ h. let one = rw c.if-not-has_child.false at c.has_child.ensures in omega (arith, h, one)) (rw z q)
