-- `reader::fill::fill_slot` meets its contract: the slot has what the record says. Assumes nothing.
use mathlib.Core.Path.{ap}
use Prim.Native.Nat.{ℕ, ◌+◌}
use native.Mathlib.Omega.{arith}
use lib.ListN.{take, drop}
use Rattle.reader.proofs.Fills.{due_words, due_keys, slot_read}
use Rattle.reader.proofs.fill.fill_slot.Goals as goal

pub returns : goal.returns
returns c =
    let e = c.number_due-number.ensures in
    let v = due_words c.number_due-number.result c.has_number-has.result _ e in
    slot_read c.args.tree.now c.args.numbers.now _ _ _ _ _ c.args.from _ _ _ _ _ c.from-len.ensures (due_keys _ _ _ e (omega arith)) (rw c.unwrap_or.ensures v)
    (rw c.has_number-has.ensures.0 at e) (ap (λ (n : ℕ). take n (drop (c.args.from.at + 4) c.args.tree.now)) (omega arith)) c.put_slot.ensures
