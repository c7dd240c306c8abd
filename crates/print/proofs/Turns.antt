-- A turn of the loop that spells bytes. Assumes nothing.
use Rattle.std.proofs.Common.{◌≡◌, ℕ, ◌+◌, ◌*◌, ◌/◌, ◌%◌, ◌<◌, ◌≤◌, arith, List, length, get_or, set, length-set}
use Rattle.std.proofs.lemmas.Grind.{common_steps}
use Rattle.print.specs.Hex.{hex_digit_ascii, Spelling}

pub spell_step : (s was out : List ℕ) (n h l : ℕ) → n < length s → 2 * n + 2 ≤ length out → h ≡ hex_digit_ascii (get_or s n 0 / 16)
    → l ≡ hex_digit_ascii (get_or s n 0 % 16) → Spelling s was out n → Spelling s was (set (set out (2 * n) h) (2 * n + 1) l) (n + 1)
spell_step s was out n h l more room eh el was_so =
    record {
      within = omega arith;
      room = simp length-set (omega arith);
      len = simp length-set was_so.len;
      high = λ i at. grind (arith, common_steps, was_so.high i);
      low = λ i at. grind (arith, common_steps, was_so.low i);
      kept = λ i at. grind (arith, common_steps, was_so.kept i);
    }
