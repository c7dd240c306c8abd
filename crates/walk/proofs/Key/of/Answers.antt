-- `walk::Key::of` meets its contract: the bytes are copied where they fit, and their length is kept. Assumes nothing.
use mathlib.Core.Path.{refl}
use Rattle.walk.proofs.Padded.{keeps_all, keeps_length}
use Rattle.walk.proofs.Key.of.Goals as goal

pub returns-then-len-le-KEY_MAX : goal.returns-then-len-le-KEY_MAX
returns-then-len-le-KEY_MAX c = keeps_all _ _ refl _ c.copy.ensures refl

pub returns-else-len-le-KEY_MAX : goal.returns-else-len-le-KEY_MAX
returns-else-len-le-KEY_MAX c = keeps_length _ _ refl c.if-len-le-KEY_MAX.false
