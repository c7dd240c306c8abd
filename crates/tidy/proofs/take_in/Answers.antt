-- `tidy::take_in` meets its contract. Assumes nothing.
use native.Mathlib.Omega.{arith}
use Rattle.tidy.proofs.Settle.{long_stays, only_joins}
use Rattle.tidy.proofs.take_in.Goals as goal

pub returns-then-len_at-gt-LABEL_MAX : goal.returns-then-len_at-gt-LABEL_MAX
returns-then-len_at-gt-LABEL_MAX c = λ s b l kids r k in_b. long_stays r k (omega (arith, c.len_at-2.ensures.0, c.len_at.ensures.0))

pub returns : goal.returns
returns c =
    λ s b l kids r k in_b. only_joins r k in_b _ _ _ (omega (arith, c.len_at-2.ensures.0, c.len_at.ensures.0)) c.join_label.ensures (c.open_gap.ensures _)
