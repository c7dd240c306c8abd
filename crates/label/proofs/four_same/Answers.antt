-- `label::four_same` meets its contract: two numbers of four bytes are the same where the bytes are. Assumes nothing.
use Prim.Native.Nat.{ℕ, ◌<◌}
use native.Mathlib.Omega.{arith}
use lib.ListN.{get_or}
use Rattle.label.proofs.Eights.{four_same}
use Rattle.label.proofs.four_same.Goals as goal

pub returns : goal.returns
returns c =
    let lent = c.args in
    let k = lent.k.now in
    let l = lent.l.now in
    let bytes_k : (j : ℕ) → get_or k j 0 < 256 = λ j. omega (arith, c.type_inv.k j) in
    let bytes-l : (j : ℕ) → get_or l j 0 < 256 = λ j. omega (arith, c.type_inv.l j) in
    cc (four_same k l bytes_k bytes-l lent.i (omega arith) (omega arith))
