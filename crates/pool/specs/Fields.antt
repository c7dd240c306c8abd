-- What the small functions of the pool read and write.
use Rattle.std.specs.Prelude.{List, ℕ, zero, suc, ◌+◌, set, Some, None}
use Rattle.std.specs.Prelude.{Option as Maybe}
use Rattle.std.proofs.Math.Option.{Option, none, some}
use Rattle.slots.specs.Layout.{nodes_word, has_of}
use Rattle.slots.specs.declared.put.Head.{Head}
use Rattle.slots.specs.Put.{words_put}

-- the code's answer as a number that may be missing
abbrev pub sized_of : Maybe ℕ → Option ℕ
sized_of (Some n) = some n
sized_of None = none

-- how many of the first n slots have a number
unfoldable pub has_sum : List ℕ → ℕ → ℕ
has_sum ws zero = 0
has_sum ws (suc n) = has_sum ws n + has_of ws n

-- the root of the empty tree: no path, no label, no number, alone in its span
abbrev pub fresh_root : Head
fresh_root = record { start = 0; len = 0; has = 0; number = record { 0 = 0 }; span = 1 }

-- the words with that slot in use and no other
unfoldable pub emptied : List ℕ → List ℕ
emptied ws = words_put (set ws nodes_word 1) 0 fresh_root
