-- `slots::put::put_head` meets its contract: four fields are set, one after another. Assumes nothing.
use mathlib.Core.Path.{◌≡◌, ap, ◌∙◌}
use Rattle.std.specs.Int.{from_bool}
use Rattle.slots.specs.Bare.{stored_of, number_word}
use Rattle.tree.specs.Tree.{keys_w}
use Rattle.tree.specs.declared.RuleNo.{RuleNo}
use Rattle.slots.proofs.Slots.{fields_set, stored_has, stored_number}
use Rattle.slots.proofs.put.put_head.Goals as goal

pub returns : goal.returns
returns c =
    let has : c.from.result ≡ keys_w (stored_of c.args.stored) = c.from.ensures ∙ ap from_bool c.is_some.ensures ∙ stored_has c.args.stored in
    let number : c.unwrap_or.result.0 ≡ number_word (stored_of c.args.stored) = ap (λ (v : RuleNo). v.0) c.unwrap_or.ensures ∙ stored_number c.args.stored in
    rw (← has, ← number) (fields_set _ _ _ _ _ _ _ _ _ _ c.set_start.ensures c.set_len.ensures c.set_has.ensures c.set_number.ensures)
