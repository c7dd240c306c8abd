-- A turn of each loop over the letters of a word. Assumes nothing.
use Rattle.std.proofs.Common.{◌≡◌, refl, ℕ, zero, suc, ◌+◌, ◌-◌, ◌*◌, ◌<◌, ◌≤◌, add-zero, add-one, add-suc, arith, List, length, get_or}
use Rattle.line.specs.Spelling.{nibble, value, Decimal}

-- The first i bytes are there, and the digits that spell them are digits.
pub record Hexing (s was out : List ℕ) (i : ℕ) : Type 0 where
  pub len : length out ≡ length was
  pub below : (j : ℕ) → j < 2 * i → nibble (get_or s j 0) < 16
  pub each : (j : ℕ) → j < i → get_or out j 0 ≡ 16 * nibble (get_or s (2 * j) 0) + nibble (get_or s (2 * j + 1) 0)

-- One digit more, and what is spelt never falls.
value-more : (s : List ℕ) (i : ℕ) → value s (i + 1) ≡ 10 * value s i + nibble (get_or s i 0)
unfolding value
value-more s i = rw add-one refl

value_grows : (s : List ℕ) (i k : ℕ) → value s i ≤ value s (i + k)
unfolding value
value_grows s i zero = rw add-zero (omega arith)
value_grows s i (suc k) = rw add-suc (omega (arith, value_grows s i k))

-- n is what the first i digits spell.
pub record Valuing (s : List ℕ) (n i : ℕ) : Type 0 where
  pub within : i ≤ length s
  pub each : (j : ℕ) → j < i → nibble (get_or s j 0) < 10
  pub so : n ≡ value s i
  pub small : n < 18446744073709551616

pub valuing_none : (s : List ℕ) → Valuing s 0 0
unfolding value
valuing_none s = record { within = omega arith; each = λ j h. absurd (omega arith); so = refl; small = omega arith }

pub valuing_step : (s : List ℕ) (n i d m : ℕ) → i < length s → d ≡ nibble (get_or s i 0) → d < 10 → m ≡ 10 * n + d
    → m < 18446744073709551616 → Valuing s n i → Valuing s m (i + 1)
valuing_step s n i d m room ed bd em bm was =
    record {
      within = omega arith;
      each = λ j b. grind (arith, was.each j);
      so = omega (arith, value-more s i, was.so);
      small = bm;
    }

-- One digit more is too much: no number of 64 bits is spelt.
pub value_over : (s : List ℕ) (n i d : ℕ) → i < length s → Valuing s n i → d ≡ nibble (get_or s i 0) → 18446744073709551616 ≤ 10 * n + d → Decimal s → ⊥
value_over s n i d h was e over t =
    let all : i + 1 + (length s - (i + 1)) ≡ length s = omega arith in
    omega (arith, t.fits, value-more s i, rw all at (value_grows s (i + 1) (length s - (i + 1))), was.so)
