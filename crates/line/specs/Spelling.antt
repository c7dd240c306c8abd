-- What the words of a line stand for. Assumes nothing.
use Rattle.std.specs.Prelude.{◌≡◌, List, [], ◌∷◌, cond, nat_eq, ◌⊎◌, ℕ, zero, suc, ◌+◌, ◌-◌, ◌*◌, ◌/◌, ◌≤◌, ◌<◌, length, get_or, take, drop, ltb, Option, Some, None}

-- where the first b of a run stands, or the run's length where none does
unfoldable pub index_of : ℕ → List ℕ → ℕ
index_of b [] = 0
index_of b (x ∷ s) = cond (nat_eq x b) 0 (suc (index_of b s))

-- The first word of s ends at its first space, or with s.
pub record FirstWord (s : List ℕ) (n : ℕ) : Type 0 where
  pub within : n ≤ length s
  pub first : n ≡ index_of 32 s

-- The value of a hex digit, `0` to `9` and `a` to `f`; 16 for any other byte
unfoldable pub nibble : ℕ → ℕ
nibble b = cond (ltb b 48) 16 (cond (ltb b 58) (b - 48) (cond (ltb b 97) 16 (cond (ltb b 103) (b - 87) 16)))

-- The value of a byte that is a hex digit; none for any other byte
abbrev pub NibbleOf : Option ℕ → ℕ → Type 0
NibbleOf (Some d) b = (d ≡ nibble b) × (d < 16)
NibbleOf None b = nibble b ≡ 16

-- An even number of hex digits
pub record Digits (s : List ℕ) : Type 0 where
  pub even : 2 * (length s / 2) ≡ length s
  pub each : (i : ℕ) → i < length s → nibble (get_or s i 0) < 16

-- The first n bytes of out are those that s spells, two digits each. What stands behind them may be anything.
pub record Hexed (s out : List ℕ) (n : ℕ) : Type 0 where
  pub digits : Digits s
  pub twice : 2 * n ≡ length s
  pub room : n ≤ length out
  pub each : (i : ℕ) → i < n → get_or out i 0 ≡ 16 * nibble (get_or s (2 * i) 0) + nibble (get_or s (2 * i + 1) 0)

-- Hex digits are taken wherever there is room for what they spell.
abbrev pub HexTaken : Option ℕ → List ℕ → List ℕ → Type 0
HexTaken (Some n) s out = Hexed s out n
HexTaken None s out = Digits s → length s ≤ 2 * length out → ⊥

-- The word for nothing, `-`
abbrev pub dash : List ℕ
dash = 45 ∷ []

-- A key, a prefix or the bytes of an image: `-`, or hex digits
abbrev pub KeyTaken : Option ℕ → List ℕ → List ℕ → Type 0
KeyTaken (Some n) s out = ((s ≡ dash) × (n ≡ 0)) ⊎ ((0 < length s) × Hexed s out n)
KeyTaken None s out = (s ≡ dash → ⊥) × (0 < length s → Digits s → length s ≤ 2 * length out → ⊥)

-- The number that the first n digits of s spell
unfoldable pub value : List ℕ → ℕ → ℕ
value s zero = 0
value s (suc n) = 10 * value s n + nibble (get_or s n 0)

-- Decimal digits of a number of 64 bits
pub record Decimal (s : List ℕ) : Type 0 where
  pub each : (i : ℕ) → i < length s → nibble (get_or s i 0) < 10
  pub fits : value s (length s) < 18446744073709551616

abbrev pub DecimalTaken : Option ℕ → List ℕ → Type 0
DecimalTaken (Some n) s = Decimal s × (n ≡ value s (length s))
DecimalTaken None s = Decimal s → ⊥

-- A number: decimal digits, one at least, the first no zero unless it is the only one
pub record Number (s : List ℕ) : Type 0 where
  pub some : 0 < length s
  pub plain : get_or s 0 0 ≡ 48 → length s ≤ 1
  pub decimal : Decimal s

abbrev pub NumberTaken : Option ℕ → List ℕ → Type 0
NumberTaken (Some n) s = Number s × (n ≡ value s (length s))
NumberTaken None s = Number s → ⊥

-- The first word of a list: up to the first comma, or all of it
abbrev pub first_of : List ℕ → List ℕ
first_of s = take (index_of 44 s) s

-- s is a list of the numbers ns, joined by commas.
pub data Listed : List ℕ → List ℕ → Type 0 where
  last : {s : List ℕ} → index_of 44 s ≡ length s → Number (first_of s) → Listed s (value (first_of s) (length (first_of s)) ∷ [])
  more : {s ns : List ℕ} → index_of 44 s < length s → Number (first_of s) → Listed (drop (index_of 44 s + 1) s) ns
      → Listed s (value (first_of s) (length (first_of s)) ∷ ns)

-- A list is taken wherever there is room for its numbers.
abbrev pub ManyTaken : Option ℕ → List ℕ → List ℕ → Type 0
ManyTaken (Some k) s out = (k ≤ length out) × Listed s (take k out)
ManyTaken None s out = (ns : List ℕ) → Listed s ns → length ns ≤ length out → ⊥

-- The numbers of an image: `-`, or a list
abbrev pub ListTaken : Option ℕ → List ℕ → List ℕ → Type 0
ListTaken (Some k) s out = ((s ≡ dash) × (k ≡ 0)) ⊎ ((k ≤ length out) × Listed s (take k out))
ListTaken None s out = (s ≡ dash → ⊥) × ((ns : List ℕ) → Listed s ns → length ns ≤ length out → ⊥)
