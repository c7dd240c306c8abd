-- `reader::read` meets its contract: the lengths, the check, and only then the fill. Assumes nothing.
use mathlib.Core.Path.{refl, sym}
use Rattle.std.proofs.lemmas.Result.{err_from_is_err_and}
use Rattle.tree.proofs.Exits.{was-some, was-none}
use Rattle.reader.proofs.Answers.{not_pool, not_image, fill_due}
use Rattle.reader.proofs.read.Goals as goal

pub returns-in_err-slots : goal.returns-in_err-slots
returns-in_err-slots c =
    let p = err_from_is_err_and c.from_residual.result c.from_residual.ensures.1 in
    let w = was-none c.slots_of.result _ c.in_err-slots.ensures.value in
    rw (p.1, p.2, w.refusal) (not_pool _ _ _ _ (sym (rw w.none at c.slots_of.ensures)))

pub returns-in_err-check : goal.returns-in_err-check
returns-in_err-check c =
    let p = err_from_is_err_and c.from_residual-in_err-check.result c.from_residual-in_err-check.ensures.1 in
    let w = was-some c.slots_of.result _ c.in_ok-slots.ensures.value in
    rw (p.1, p.2) (not_image _ _ _ _ _ (sym (rw w at c.slots_of.ensures)) _ (c.in_err-check.ensures c.args.numbers.now refl))

pub fill_tree-requires : goal.fill_tree-requires
fill_tree-requires c =
    let w = was-some c.slots_of.result _ c.in_ok-slots.ensures.value in
    fill_due _ _ _ _ _ (sym (rw w at c.slots_of.ensures)) _ (c.in_ok-check.ensures c.args.numbers.now refl)
