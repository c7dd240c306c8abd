-- `pool::slots_of` meets its contract. Assumes nothing.
use mathlib.Core.Path.{sym}
use native.Mathlib.Omega.{arith}
use Rattle.pool.proofs.Decode.{no-slots}
use Rattle.pool.proofs.Decode.{slots_of_lem as right_slots}
use Rattle.pool.proofs.slots_of.Goals as goal

pub returns-then-slots-lt1 : goal.returns-then-slots-lt1
returns-then-slots-lt1 c = sym (no-slots _ _ (λ s l. omega (arith, l)))

pub returns-then-slots-gt-SLOTS_MAX : goal.returns-then-slots-gt-SLOTS_MAX
returns-then-slots-gt-SLOTS_MAX c = sym (no-slots _ _ (λ s l. omega (arith, l)))

pub returns-then-labels-slots : goal.returns-then-labels-slots
returns-then-labels-slots c = sym (no-slots _ _ (λ s l. omega (arith, l)))

pub returns-then-words-slots : goal.returns-then-words-slots
returns-then-words-slots c = sym (no-slots _ _ (λ s l. omega (arith, l)))

pub returns : goal.returns
returns c = sym (right_slots _ _ _ (omega arith))
