-- `flags::flag_byte` meets its contract. Assumes nothing.
use native.Mathlib.Omega.{arith}
use Rattle.flags.specs.Flags.{flag_byte}
use Rattle.flags.proofs.flag_byte.Goals as goal

pub returns : goal.returns
returns c = unfold flag_byte in omega arith
