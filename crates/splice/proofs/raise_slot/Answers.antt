-- `splice::raise_slot` meets its contract. Assumes nothing.
use Prim.Native.Nat.{◌+◌}
use native.Mathlib.Omega.{arith}
use Rattle.splice.proofs.Spans.{raise_grow}
use Rattle.splice.proofs.raise_slot.Goals as goal

pub returns : goal.returns
returns c =
    raise_grow _ _ _ _ _ _ c.span_at-span.ensures.0 (omega arith) c.requires.3 _
    (c.start_at.result + c.len_at.result) _ (omega arith) (omega arith) (omega arith) c.start_at-2.ensures.0
    (omega arith) c.set_span.ensures
