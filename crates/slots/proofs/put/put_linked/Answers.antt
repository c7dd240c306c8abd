-- `slots::put::put_linked` meets its contract: a slot put is a slot filled. Assumes nothing.
use Rattle.slots.proofs.Puts.{slot-filled}
use Rattle.slots.proofs.put.put_linked.Goals as goal

pub returns : goal.returns
returns c = slot-filled _ _ _ _ _ _ _ _ _ _ c.new-head.ensures c.put_slot.ensures
