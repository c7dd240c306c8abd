-- `line::digits` meets its contract: each turn reads one digit. Assumes nothing.
use Rattle.std.proofs.Common.{arith}
use Rattle.line.proofs.Turns.{valuing_none, valuing_step, value_over}
use Rattle.line.proofs.digits.Goals as goal

pub loop-b-init : goal.loop-b-init
loop-b-init c = valuing_none _

pub returns-in_err-checked_mul : goal.returns-in_err-checked_mul
returns-in_err-checked_mul c =
    rw c.from_residual-in_err-checked_mul.ensures (value_over _ _ _ c.in_ok-d.d (omega arith) c.loop-b.invariant c.in_ok-d.ensures.0 (omega (arith, c.in_err-checked_mul.ensures)))

pub returns-in_err-n : goal.returns-in_err-n
returns-in_err-n c =
    rw c.from_residual-in_err-n.ensures (value_over _ _ _ c.in_ok-d.d (omega arith) c.loop-b.invariant c.in_ok-d.ensures.0 (omega (arith, c.in_err-n.ensures, c.in_ok-checked_mul.ensures, c.from.ensures)))

pub loop-b-preserved : goal.loop-b-preserved
loop-b-preserved c =
    valuing_step _ c.loop-b.n _ c.in_ok-d.d _ (omega arith) c.in_ok-d.ensures.0 (omega arith) (omega (arith, c.in_ok-n.ensures, c.in_ok-checked_mul.ensures, c.from.ensures))
    (omega (arith, c.in_ok-n.ensures)) c.loop-b.invariant
