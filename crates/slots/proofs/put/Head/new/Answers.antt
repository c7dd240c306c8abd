-- `Head::new` meets its contract: a missing number is told by two zeros. Assumes nothing.
use mathlib.Core.Path.{refl, ap, ◌∙◌}
use Rattle.std.specs.Int.{from_bool}
use Rattle.tree.specs.declared.RuleNo.{RuleNo}
use Rattle.slots.proofs.Slots.{stored_has, stored_number}
use Rattle.slots.proofs.put.Head.new.Goals as goal

pub returns : goal.returns
returns c = record {
  start_is = refl;
  len_is = refl;
  has-is = c.from.ensures ∙ ap from_bool c.is_some.ensures ∙ stored_has c.args.stored;
  number_is = ap (λ (v : RuleNo). v.0) c.unwrap_or.ensures ∙ stored_number c.args.stored;
  span-is = refl;
}
