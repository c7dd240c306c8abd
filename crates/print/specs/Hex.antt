-- Bytes as hex text. Assumes nothing.
use Rattle.std.specs.Prelude.{◌≡◌, List, ℕ, ◌+◌, ◌*◌, ◌/◌, ◌%◌, ◌≤◌, ◌<◌, length, get_or, cond, nat_lt}

-- The character of a hex digit: `0` to `9`, then `a` to `f`
abbrev pub hex_digit_ascii : ℕ → ℕ
hex_digit_ascii d = cond (nat_lt d 10) (48 + d) (87 + d)

-- out is was with two hex digits for each of the first n bytes of s at its front.
pub record Spelling (s was out : List ℕ) (n : ℕ) : Type 0 where
  pub within : n ≤ length s
  pub room : 2 * n ≤ length out
  pub len : length out ≡ length was
  pub high : (i : ℕ) → i < n → get_or out (2 * i) 0 ≡ hex_digit_ascii (get_or s i 0 / 16)
  pub low : (i : ℕ) → i < n → get_or out (2 * i + 1) 0 ≡ hex_digit_ascii (get_or s i 0 % 16)
  pub kept : (i : ℕ) → 2 * n ≤ i → get_or out i 0 ≡ get_or was i 0

-- So many bytes are spelt as there are, or as there is room for.
abbrev pub Spelt : List ℕ → List ℕ → List ℕ → ℕ → Type 0
Spelt s was out n = Spelling s was out n × (n < length s → length out < 2 * n + 2)
