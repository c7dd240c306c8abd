-- What counts of a pool. All else in the lent slices is free (docs/POOL.md): words 1 to 7, what stands in free slots and behind a
-- label's length, each slot's unused words, and the number of a slot that has none.
use Rattle.std.specs.Prelude.{◌≡◌, ℕ, ◌<◌}
use Rattle.slots.specs.Layout.{nodes_of}
use Rattle.slots.specs.Records.{rec_at}
use Rattle.pool.specs.Lent.{Lent, size_in}

-- The same number of slots, the same number in use, and in each of those the same start, length, span and label, and the same
-- number or none
pub record SameSlots (l m : Lent) : Type 0 where
  pub size : size_in l ≡ size_in m
  pub nodes : nodes_of l.words ≡ nodes_of m.words
  pub slots : (i : ℕ) → i < nodes_of l.words → rec_at l.words l.labels i ≡ rec_at m.words m.labels i
