-- The flag byte: written from what a node has, judged by the reader's tests.
use Rattle.std.specs.Prelude.{◌≡◌, Bool, true, false, ℕ, ◌+◌}
use Rattle.tree.specs.Reader.{Tested, broken, sound}

-- both bits of a pair, or neither
abbrev pub pair : Bool → ℕ → ℕ
pair true n = n
pair false n = 0

unfoldable pub flag_byte : (number child sibling : Bool) → ℕ
flag_byte number child sibling = pair number (1 + 2) + pair child (4 + 8) + pair sibling (16 + 32)

abbrev pub passes : Tested → Bool
passes sound = true
passes (broken x) = false

-- What a bit says: it is set, or not.
abbrev pub Bit : Bool → ℕ → Type 0
Bit true n = n ≡ 1
Bit false n = n ≡ 0
