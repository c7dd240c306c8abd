-- `slots::put::put_label` meets its contract: the label stands in the place of as many bytes. Assumes nothing.
use Rattle.slots.proofs.Puts.{label-put}
use Rattle.slots.proofs.put.put_label.Goals as goal

pub returns : goal.returns
returns c = label-put _ _ _ _ c.requires.0 c.requires.1 c.copy.ensures
