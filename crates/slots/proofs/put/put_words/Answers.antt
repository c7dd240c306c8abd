-- `slots::put::put_words` meets its contract: five fields are set, one after another. Assumes nothing.
use Rattle.slots.proofs.Slots.{fields_set}
use Rattle.slots.proofs.Puts.{words-set}
use Rattle.slots.proofs.put.put_words.Goals as goal

pub returns : goal.returns
returns c =
    words-set _ _ _ _ _
    (fields_set _ _ _ _ _ _ _ _ _ _ c.set_start.ensures c.set_len.ensures c.set_has.ensures
    c.set_number.ensures) c.set_span.ensures
