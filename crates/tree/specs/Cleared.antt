-- The bytes of an image with the allocated bits that stand alone cleared: the old software leaves such bits behind
-- where it took something out, and the writer never sets one. A definition on byte strings alone.
use Rattle.std.specs.Prelude.{List, [], ◌∷◌, ℕ, zero, suc, ◌+◌, ◌*◌, ◌-◌, ◌/◌, ◌%◌}

-- The allocated bits of a flag byte that stand alone, each without its initialised one
unfoldable pub lone : ℕ → ℕ
lone f = (f % 2 - f / 2 % 2) + 4 * (f / 4 % 2 - f / 8 % 2) + 16 * (f / 16 % 2 - f / 32 % 2)

unfoldable pub cleared_flag : ℕ → ℕ
cleared_flag f = f - lone f

-- From record to record, by the lengths. So many bytes of a label are kept; then a record begins: its flags are
-- cleared, its length and its two bytes of level are kept. Fewer than four bytes at the end stay as they are.
unfoldable pub cleared_from : (label : ℕ) → List ℕ → List ℕ
cleared_from label [] = []
cleared_from (suc label) (b ∷ s) = b ∷ cleared_from label s
cleared_from zero (f ∷ []) = f ∷ []
cleared_from zero (f ∷ m ∷ []) = f ∷ m ∷ []
cleared_from zero (f ∷ m ∷ h ∷ []) = f ∷ m ∷ h ∷ []
cleared_from zero (f ∷ m ∷ h ∷ l ∷ s) = cleared_flag f ∷ m ∷ h ∷ l ∷ cleared_from m s

abbrev pub cleared : List ℕ → List ℕ
cleared s = cleared_from 0 s
