-- `walk::seek` meets its contract: its loop keeps what the slots ahead of it give. Assumes nothing.
use Rattle.walk.specs.Due.{lent_key}
use Rattle.walk.proofs.Sought.{Ahead}
use Rattle.walk.proofs.seek.Given as goal

abbrev pub invariant-loop-i : goal.invariant-loop-i
invariant-loop-i l = Ahead l.words l.labels l.prefix (lent_key l.last) l.n l.initial.path l.path l.i
