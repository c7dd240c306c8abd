-- `reader::test_head` meets its contract: the tests before each return have passed. Assumes nothing.
use mathlib.Core.Path.{sym, ◌∙◌}
use native.Mathlib.Omega.{arith}
use lib.ListN.{take}
use Rattle.tree.proofs.Judge.{All, passed}
use Rattle.reader.specs.Check.{head_rules}
use Rattle.reader.proofs.Tests.{snoc, broken-at, all_sound, below-is, flags-broken}
use Rattle.reader.proofs.test_head.Goals as goal
use Rattle.reader.proofs.test_head.Goals.{Else-len-lt1, Else-not-flags_sound, Else-level_at-level}

-- The tests passed so far
past_flags : (c : Else-not-flags_sound) → All (take 6 (head_rules c.args.tree.now c.args.level.0 c.args.at))
past_flags c = (omega arith, all_sound _ (sym c.flags_sound.ensures ∙ c.if-not-flags_sound.false))

past_level : (c : Else-level_at-level)
    → All (take 6 (head_rules c.args.tree.now c.args.level.0 c.args.at))
    → All (take 7 (head_rules c.args.tree.now c.args.level.0 c.args.at))
past_level c h = snoc (head_rules c.args.tree.now c.args.level.0 c.args.at) 6 h (omega arith)

past-length : (c : Else-len-lt1)
    → All (take 7 (head_rules c.args.tree.now c.args.level.0 c.args.at))
    → All (take 9 (head_rules c.args.tree.now c.args.level.0 c.args.at))
past-length c h =
    let d = below-is c.args.level.0 (omega arith) in
    let rules = head_rules c.args.tree.now c.args.level.0 c.args.at in
    snoc rules 8 (snoc rules 7 h (omega arith)) (omega arith)

pub returns-then-room-lt4 : goal.returns-then-room-lt4
returns-then-room-lt4 c = broken-at _ 0 tt (omega arith)

pub returns-then-not-flags_sound : goal.returns-then-not-flags_sound
returns-then-not-flags_sound c =
    let a = c.args in
    flags-broken a.tree.now 0 a.level.0 0 0 a.at (omega arith) (sym c.flags_sound.ensures ∙ c.if-not-flags_sound.true)

pub returns-then-level_at-level : goal.returns-then-level_at-level
returns-then-level_at-level c =
    broken-at _ 6 (past_flags (goal.at.returns-then-level_at-level c).Else-not-flags_sound) (λ e. c.if-level_at-level.true (omega arith))

pub returns-then-len-lt1 : goal.returns-then-len-lt1
returns-then-len-lt1 c =
    let d = below-is c.args.level.0 (omega arith) in
    let at = goal.at.returns-then-len-lt1 c in
    broken-at _ 7 (past_level at.Else-level_at-level (past_flags at.Else-not-flags_sound)) (omega arith)

pub returns-then-room-len : goal.returns-then-room-len
returns-then-room-len c =
    let at = goal.at.returns-then-room-len c in
    broken-at _ 9 (past-length at.Else-len-lt1 (past_level at.Else-level_at-level (past_flags at.Else-not-flags_sound))) (omega arith)

pub returns : goal.returns
returns c =
    let at = goal.at.returns c in
    sym (passed _ (snoc (head_rules c.args.tree.now c.args.level.0 c.args.at) 9
    (past-length at.Else-len-lt1 (past_level at.Else-level_at-level (past_flags at.Else-not-flags_sound))) (omega arith)))
