-- `walk::Key::lend` meets its contract: the room is whole, and a key that is not too long lies within it. Assumes nothing.
use mathlib.Core.Path.{refl}
use native.Mathlib.Omega.{arith}
use Rattle.walk.proofs.Padded.{lent_not, lent_all}
use Rattle.walk.proofs.Key.lend.Goals as goal

pub returns-then-self-gt-KEY_MAX : goal.returns-then-self-gt-KEY_MAX
returns-then-self-gt-KEY_MAX c = (refl, lent_not _ c.if-self-gt-KEY_MAX.true)

pub returns : goal.returns
returns c = lent_all _ c.if-self-gt-KEY_MAX.false (omega arith)
