-- `split::carried` meets its contract. Assumes nothing.
use mathlib.Core.Path.{refl}
use Rattle.split.proofs.Lifts.{carried-is}
use Rattle.split.proofs.carried.Goals as goal

pub returns : goal.returns
returns c =
    let a = c.args in
    carried-is a.words.now a.label.now a.from.0 a.start _ refl refl c.has_at.ensures.0 c.number_at.ensures c.span_at.ensures.0
