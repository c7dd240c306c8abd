-- `writer::follows` meets its contract. Assumes nothing.
use native.Mathlib.Omega.{arith}
use Rattle.writer.proofs.Rows.{follows_past, follows_start}
use Rattle.writer.proofs.follows.Goals as goal

pub returns-then-next-n : goal.returns-then-next-n
returns-then-next-n c = follows_past c.args.words.now c.args.slot.0 c.args.n (omega arith) c.if-next-n.true

pub returns : goal.returns
returns c =
    follows_start c.args.words.now c.args.slot.0 c.args.n (omega arith) c.if-next-n.false c.start_at.ensures.0 c.start_at-2.ensures.0
