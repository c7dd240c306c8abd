-- What a search for a key tells of how far it looked: with 0 and with 3 how many nodes, as the last value, and those
-- are few; with any other number nothing.
use Rattle.std.specs.Prelude.{◌≡◌, List, [], ◌∷◌, ◌++◌, ◌⊎◌, ℕ, ◌+◌, ◌*◌, ◌≤◌, length}
use Rattle.tree.specs.Key.{Key}
use Rattle.tree.specs.Told.{Told}

-- 0 or 3 is told.
abbrev pub Searched : Told → Type 0
Searched told = (told.number ≡ 0) ⊎ (told.number ≡ 3)

pub record FewLast (most : ℕ) (told : Told) : Type 0 where
  pub ahead : List ℕ
  pub looked : ℕ
  pub last : told.values ≡ ahead ++ looked ∷ []
  pub few : looked ≤ most

pub record LooksFew (key : Key) (told : Told) : Type 0 where
  pub counted : Searched told → FewLast (1 + 256 * length key) told
  pub silent : ¬ Searched told → told.values ≡ []
