-- What the writer's parts write and count, by the words and label bytes of a pool.
use Rattle.std.specs.Prelude.{List, [], ◌∷◌, ◌++◌, Bool, true, false, ℕ, zero, suc, ◌+◌, ◌/◌, ◌%◌, ◌≤◌, ◌<◌, length, ltb, eqb}
use Rattle.tree.specs.Image.{numbers_w}
use Rattle.flags.specs.Flags.{flag_byte}
use Rattle.slots.specs.Layout.{words_for, start_of, len_of, has_of, span_of, label_of, num_at}

-- The record of slot c: flags, label length, level high byte, level low byte, label
unfoldable pub record_at : (ws bs : List ℕ) (c level : ℕ) (sibling : Bool) → List ℕ
record_at ws bs c level sibling =
    flag_byte (ltb 0 (has_of ws c)) (ltb 1 (span_of ws c)) sibling ∷ len_of ws c ∷ (level / 256) ∷ (level % 256) ∷ label_of ws bs c

-- Whether the slot behind the span of slot c, of n slots, starts where slot c does
unfoldable pub follows_at : (ws : List ℕ) (c n : ℕ) → Bool
follows_at ws c n = elim (ltb (c + span_of ws c) n) [ true ↦ eqb (start_of ws (c + span_of ws c)) (start_of ws c) | false ↦ false ]

-- Slot c of n slots, all of them within the words
pub record Followed (ws : List ℕ) (c n : ℕ) : Type 0 where
  pub used : c < n
  pub words : words_for n ≤ length ws

-- How many bytes the records of the first n slots have
unfoldable pub record_sum : List ℕ → ℕ → ℕ
record_sum ws zero = 0
record_sum ws (suc n) = record_sum ws n + (4 + len_of ws n)

-- The numbers of the first n slots
unfoldable pub numbers_in : List ℕ → ℕ → List ℕ
numbers_in ws zero = []
numbers_in ws (suc n) = numbers_in ws n ++ numbers_w (num_at ws n) []
