-- `print::spell` meets its contract: each turn spells one byte more. Assumes nothing.
use native.Mathlib.Omega.{arith}
use Rattle.print.proofs.Turns.{spell_step}
use Rattle.print.proofs.spell.Goals as goal

pub loop-n-preserved : goal.loop-n-preserved
loop-n-preserved c =
    spell_step _ _ _ _ c.glyph.result c.glyph-in-loop-n.result (omega arith) (omega arith) c.glyph.ensures c.glyph-in-loop-n.ensures c.loop-n.invariant
