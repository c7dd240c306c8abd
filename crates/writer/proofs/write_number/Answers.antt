-- `writer::write_number` meets its contract: a number is put where the slot has one. Assumes nothing.
use mathlib.Core.Path.{◌∙◌, sym}
use Rattle.writer.proofs.Totals.{number-none, number_put, number-room}
use Rattle.writer.proofs.write_number.Goals as goal

pub returns-then-has_at-eq0 : goal.returns-then-has_at-eq0
returns-then-has_at-eq0 c =
    let a = c.args in
    number-none a.words.now a.out.now a.slot.0 a.at (sym c.has_at.ensures.0 ∙ c.if-has_at-eq0.true)

pub bounds-out-at : goal.bounds-out-at
bounds-out-at c =
    let a = c.args in
    number-room a.words.now a.out.now a.slot.0 a.at (λ e. c.if-has_at-eq0.false (c.has_at.ensures.0 ∙ e)) c.requires.1

pub returns : goal.returns
returns c =
    let a = c.args in
    number_put a.words.now a.out.now a.slot.0 a.at _ (λ e. c.if-has_at-eq0.false (c.has_at.ensures.0 ∙ e)) c.number_at.ensures
