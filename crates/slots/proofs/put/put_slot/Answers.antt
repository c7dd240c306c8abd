-- `slots::put::put_slot` meets its contract: the slot has its record, and the others keep theirs. Assumes nothing.
use Rattle.slots.proofs.Puts.{slot-put}
use Rattle.slots.proofs.put.put_slot.Goals as goal

pub returns : goal.returns
returns c =
    let given = c.requires in
    slot-put _ _ _ _ _ _ _ given.label_len_bound.0 given.label_len_bound.1 given.words_in.0 c.put_words.ensures
    c.put_label.ensures
