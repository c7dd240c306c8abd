-- Bytes as a number, and what the library's moves within a slice leave, place by place.
use Rattle.std.specs.Prelude.{◌≡◌, List, length, get_or}
use Prim.Native.Nat.{ℕ, ◌+◌, ◌*◌, ◌≤◌, ◌<◌}

-- the four and the eight bytes at i as one number, the first the lowest
abbrev pub four_at : List ℕ → ℕ → ℕ
four_at b i = get_or b i 0 + 256 * (get_or b (i + 1) 0 + 256 * (get_or b (i + 2) 0 + 256 * get_or b (i + 3) 0))

abbrev pub eight_at : List ℕ → ℕ → ℕ
eight_at b i = four_at b i + 4294967296 * four_at b (i + 4)

-- vs is ws with the places from .. to also standing k places higher; what is not written over stays.
pub record MovedUp (ws vs : List ℕ) (from to k : ℕ) : Type 0 where
  pub len : length vs ≡ length ws
  pub low : (j : ℕ) → j < from + k → get_or vs j 0 ≡ get_or ws j 0
  pub mid : (j : ℕ) → from ≤ j → j < to → get_or vs (j + k) 0 ≡ get_or ws j 0
  pub high : (j : ℕ) → to + k ≤ j → get_or vs j 0 ≡ get_or ws j 0

-- vs is ws with the places from .. to also standing k places lower; what is not written over stays.
pub record MovedDown (ws vs : List ℕ) (from to k : ℕ) : Type 0 where
  pub len : length vs ≡ length ws
  pub low : (j : ℕ) → j + k < from → get_or vs j 0 ≡ get_or ws j 0
  pub mid : (j : ℕ) → from ≤ j + k → j + k < to → get_or vs j 0 ≡ get_or ws (j + k) 0
  pub high : (j : ℕ) → to ≤ j + k → get_or vs j 0 ≡ get_or ws j 0
