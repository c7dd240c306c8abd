-- `flags::flags_sound` meets its contract. Assumes nothing.
use native.Mathlib.Omega.{arith}
use Rattle.tree.specs.Told.{refusal}
use Rattle.tree.proofs.ReaderRules.{Allocated}
use Rattle.flags.proofs.Judged.{all_pass, one_fails, below_root, below_other}
use Rattle.flags.proofs.Pairs.{none_two, two_breaks, rules_hold}
use Rattle.flags.proofs.flags_sound.Goals as goal
use Rattle.flags.proofs.flags_sound.Goals.{Else-f-eq2-3}

-- behind the tests of the pairs the byte keeps the rules for itself
allocated : (c : Else-f-eq2-3) → Allocated c.args.f
allocated c =
    none_two _ (omega (arith, c.if-f-gt63.false)) c.if-f-eq2.false c.if-f-eq2-2.false c.if-f-eq2-3.false

pub returns-then-f-gt63 : goal.returns-then-f-gt63
returns-then-f-gt63 c = one_fails _ (λ h. omega (arith, h.0, c.if-f-gt63.true))

pub returns-then-f-eq2 : goal.returns-then-f-eq2
returns-then-f-eq2 c = one_fails _ (λ h. (two_breaks _ _ (refusal 7) h).0 c.if-f-eq2.true)

pub returns-then-f-eq2-2 : goal.returns-then-f-eq2-2
returns-then-f-eq2-2 c = one_fails _ (λ h. (two_breaks _ _ (refusal 7) h).1 c.if-f-eq2-2.true)

pub returns-then-f-eq2-3 : goal.returns-then-f-eq2-3
returns-then-f-eq2-3 c = one_fails _ (λ h. (two_breaks _ _ (refusal 7) h).2 c.if-f-eq2-3.true)

pub returns-then-level-ne0 : goal.returns-then-level-ne0
returns-then-level-ne0 c =
    let one = below_other c.args.level.0 c.if-level-ne0.true in
    all_pass _ (rules_hold _ _ (refusal 7) (allocated (goal.at.returns-then-level-ne0 c).Else-f-eq2-3) (omega (arith, one)))

-- On the root the code asks for a sibling.
pub returns-then-has_sibling : goal.returns-then-has_sibling
returns-then-has_sibling c =
    let none = below_root c.args.level.0 c.if-level-ne0.false in
    let has = rw c.if-has_sibling.true at c.has_sibling.ensures in
    one_fails _ (λ h. omega (arith, h.1.1.1.1.0, none, has))

pub returns : goal.returns
returns c =
    let none = below_root c.args.level.0 c.if-level-ne0.false in
    let has = rw c.if-has_sibling.false at c.has_sibling.ensures in
    all_pass _ (rules_hold _ _ (refusal 7) (allocated (goal.at.returns c).Else-f-eq2-3) (omega (arith, none, has)))
