-- `walk::is_due` meets its contract: the key starts with the prefix or not, and the last key decides. Assumes nothing.
use mathlib.Core.Path.{sym, ◌∙◌}
use Rattle.walk.proofs.Due.{past_cmp, due-off, due-on, past-fresh}
use Rattle.walk.proofs.is_due.Goals as goal

pub returns-then-not-starts_with : goal.returns-then-not-starts_with
returns-then-not-starts_with c = sym (due-off _ _ _ c.if-not-starts_with.ensures.value)

pub returns-in-Some : goal.returns-in-Some
returns-in-Some c =
    rw c.in-Some.is (c.is_lt.ensures ∙ past_cmp _ _ _ c.cmp.ensures ∙ sym (due-on _ _ _ c.if-not-starts_with.ensures.value))

pub returns-in-None : goal.returns-in-None
returns-in-None c = rw c.in-None.is (sym (due-on _ _ _ c.if-not-starts_with.ensures.value ∙ past-fresh _))
