-- What is kept of a line and of a chunk. Assumes nothing.
use Rattle.std.specs.Prelude.{◌≡◌, List, ◌++◌, ℕ, ◌+◌, ◌≤◌, ◌<◌, length, take, drop}

-- More bytes stand behind the n that have come. A line that is too long counts one more than its room has, and keeps its front.
pub record Keeps (line : List ℕ) (n : ℕ) (more : List ℕ) (r : ℕ) (line' : List ℕ) : Type 0 where
  pub fits : n + length more ≤ length line → (r ≡ n + length more) × (line' ≡ take n line ++ (more ++ drop (n + length more) line))
  pub over : length line < n + length more → (r ≡ length line + 1) × (line' ≡ line)

-- The bytes of a chunk from `at` to `got` are still to be taken; a chunk has 4,096.
pub record Unread (at got : ℕ) : Type 0 where
  pub order : at ≤ got
  pub room : got ≤ 4096
