-- `insert::set_number` meets its contract. Assumes nothing.
use mathlib.Core.List.{List}
use Prim.Native.Nat.{ℕ}
use native.Mathlib.Omega.{arith}
use Rattle.pool.specs.Rule.{PoolRule}
use Rattle.insert.specs.Splices.{set_bares, Placed}
use Rattle.insert.proofs.Room.{told_set, number_placed}
use Rattle.insert.proofs.set_number.Goals as goal
use Rattle.insert.proofs.set_number.Goals.{After-keep_front}

-- the number stands in its slot
named : (c : After-keep_front)
    → let a = c.args in
    let ws = a.words.now in
    let vs = c.keep_front.new.words in
    (bs : List ℕ) → PoolRule ws bs → Placed ws bs vs bs a.at.0 1 (set_bares ws bs a.at.0 a.number.0)
named c =
    let f = c.keep_front.ensures in
    let len = c.len_at-len.ensures.0 in
    λ bs r.
    number_placed _ bs _ _ _ _ len r (omega arith) (omega arith) (f.0 bs (omega (arith, r.lengths, r.room))) f.1

pub returns-clause-placed : goal.returns-clause-placed
returns-clause-placed c = named (goal.at.returns-clause-placed c).After-keep_front

pub returns-clause-told : goal.returns-clause-told
returns-clause-told c = told_set _ _ c.stored_at-old.ensures
