-- `reader::test_root` meets its contract: the tests before each return have passed, and those that are not made hold of any
-- root. Assumes nothing.
use mathlib.Core.List.{List}
use mathlib.Core.Path.{refl, sym, ◌∙◌}
use Prim.Native.Nat.{ℕ}
use native.Mathlib.Omega.{arith}
use lib.ListN.{take}
use Rattle.tree.specs.Key.{key_max}
use Rattle.tree.specs.Reader.{Rule}
use Rattle.tree.proofs.Judge.{All, passed}
use Rattle.flags.proofs.Judged.{below_root}
use Rattle.reader.specs.Check.{count_rules}
use Rattle.reader.proofs.Tests.{snoc, broken-at, all_sound, flags-broken, record_stop}
use Rattle.reader.proofs.test_root.Goals as goal
use Rattle.reader.proofs.test_root.Goals.{Else-not-flags_sound, Else-tree-gt0, Else-level_at-ne0}

abbrev table : List ℕ → ℕ → List Rule
table s numbers = count_rules s numbers 0 0 0 0

-- The tests passed so far
past_flags : (c : Else-not-flags_sound) → All (take 6 (table c.args.tree.now c.args.numbers))
past_flags c = (omega arith, all_sound _ (sym c.flags_sound.ensures ∙ c.if-not-flags_sound.false))

past_level : (c : Else-level_at-ne0) → All (take 6 (table c.args.tree.now c.args.numbers)) → All (take 7 (table c.args.tree.now c.args.numbers))
past_level c h = snoc (table c.args.tree.now c.args.numbers) 6 h (omega arith)

past-length : (c : Else-tree-gt0) → All (take 7 (table c.args.tree.now c.args.numbers)) → All (take 13 (table c.args.tree.now c.args.numbers))
unfolding key_max
past-length c h =
    let r = below_root 0 refl in
    let rules = table c.args.tree.now c.args.numbers in
    let at_most = snoc rules 8 (snoc rules 7 h (omega arith)) (omega arith) in
    snoc rules 12 (snoc rules 11 (snoc rules 10 (snoc rules 9 at_most (omega arith)) (omega arith)) (omega arith)) (omega arith)

pub returns-then-tree-lt4 : goal.returns-then-tree-lt4
returns-then-tree-lt4 c = broken-at _ 0 tt (omega arith)

pub returns-then-not-flags_sound : goal.returns-then-not-flags_sound
returns-then-not-flags_sound c =
    let a = c.args in
    record_stop a.tree.now a.numbers 0 0 0 0
    (sym (flags-broken a.tree.now 0 0 0 0 0 (omega arith) (sym c.flags_sound.ensures ∙ c.if-not-flags_sound.true)))

pub returns-then-level_at-ne0 : goal.returns-then-level_at-ne0
returns-then-level_at-ne0 c =
    broken-at _ 6 (past_flags (goal.at.returns-then-level_at-ne0 c).Else-not-flags_sound) (λ e. c.if-level_at-ne0.true (omega arith))

pub returns-then-tree-gt0 : goal.returns-then-tree-gt0
returns-then-tree-gt0 c =
    let r = below_root 0 refl in
    let rules = table c.args.tree.now c.args.numbers in
    let at = goal.at.returns-then-tree-gt0 c in
    broken-at _ 8 (snoc rules 7 (past_level at.Else-level_at-ne0 (past_flags at.Else-not-flags_sound)) (omega arith)) (omega arith)

pub returns-then-numbers-has_number : goal.returns-then-numbers-has_number
returns-then-numbers-has_number c =
    let at = goal.at.returns-then-numbers-has_number c in
    broken-at _ 13 (past-length at.Else-tree-gt0 (past_level at.Else-level_at-ne0 (past_flags at.Else-not-flags_sound))) (omega arith)

pub returns : goal.returns
returns c =
    let at = goal.at.returns c in
    sym (passed _ (snoc (table c.args.tree.now c.args.numbers) 13
    (past-length at.Else-tree-gt0 (past_level at.Else-level_at-ne0 (past_flags at.Else-not-flags_sound))) (omega arith)))
