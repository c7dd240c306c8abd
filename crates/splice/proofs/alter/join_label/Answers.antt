-- `splice::alter::join_label` meets its contract. Assumes nothing.
use mathlib.Core.Path.{refl}
use native.Mathlib.Omega.{arith}
use Rattle.splice.proofs.Altered.{joined}
use borrow.Author.Rules.{rules}
use Rattle.splice.proofs.alter.join_label.Goals as goal

pub returns : goal.returns
returns c =
    let copied = c.copy_within.ensures in
    joined _ _ _ _ _ _ _ _ _ _ _ c.put_head.ensures (search rules) c.stored_at-stored.ensures (search rules) (omega arith) (omega arith) (omega arith) refl
