-- `reader::test_body` meets its contract: the tests before each return have passed. Assumes nothing.
use mathlib.Core.Path.{sym}
use native.Mathlib.Omega.{arith}
use Rattle.tree.specs.Key.{key_max}
use Rattle.tree.proofs.Judge.{passed}
use Rattle.reader.proofs.Tests.{broken-at, below-is}
use Rattle.reader.proofs.test_body.Goals.{else-has-eq0-via-then-has-eq0+else-not-has_child, else-has-eq0-via-else-has-eq0}
use Rattle.reader.proofs.test_body.Goals as goal

pub returns-then-from-least : goal.returns-then-from-least
returns-then-from-least c = broken-at _ 0 tt (omega arith)

pub returns-then-path-from-gt-KEY_MAX : goal.returns-then-path-from-gt-KEY_MAX
unfolding key_max
returns-then-path-from-gt-KEY_MAX c = broken-at _ 1 (omega arith) (omega arith)

pub returns-then-not-has_child : goal.returns-then-not-has_child
unfolding key_max
returns-then-not-has_child c =
    let d = below-is c.args.level.0 (omega arith) in
    let none = rw c.if-not-has_child.true at c.has_child.ensures in
    broken-at _ 2 (omega arith) (omega arith)

-- A node that is left has a number, or children, or both.
pub returns-then-from-has : goal.returns-then-from-has
unfolding key_max
returns-then-from-has c =
    let d = below-is c.args.level.0 (omega arith) in
    elim c.else-has-eq0.branch [
      | else-has-eq0-via-then-has-eq0+else-not-has_child w ↦
          let one = rw w.if-not-has_child.false at w.has_child.ensures in
          broken-at _ 3 (omega arith) (omega arith)
      | else-has-eq0-via-else-has-eq0 w ↦ broken-at _ 3 (omega arith) (omega arith)
    ]

pub returns : goal.returns
unfolding key_max
returns c =
    let d = below-is c.args.level.0 (omega arith) in
    elim c.else-has-eq0.branch [
      | else-has-eq0-via-then-has-eq0+else-not-has_child w ↦
          let one = rw w.if-not-has_child.false at w.has_child.ensures in
          sym (passed _ (omega arith))
      | else-has-eq0-via-else-has-eq0 w ↦ sym (passed _ (omega arith))
    ]
