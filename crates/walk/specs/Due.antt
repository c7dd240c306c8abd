-- Which keys a walk may give, and what looking for the next one finds.
use Rattle.std.specs.Prelude.{◌≡◌, List, Bool, true, false, ℕ, ◌+◌, ◌≤◌, length, take, Some, None}
use Rattle.std.specs.Prelude.{Option as Maybe}
use Rattle.std.specs.Borrow.{Bor}
use Rattle.std.proofs.Math.Option.{Option, none, some}
use Rattle.std.proofs.lemmas.List.Edits.{sets}
use Rattle.tree.specs.Key.{Key, strip}
use Rattle.tree.specs.Map.{Pair, past}
use Rattle.tree.specs.Tree.{Tree}
use Rattle.tree.specs.Walk.{step_t}
use Rattle.tree.specs.declared.Stepped.{Stepped}
use Rattle.slots.specs.Layout.{WordsIn, RoomIn, start_of, len_of, label_of}
use Rattle.pool.specs.Pool.{pool_tree}

-- The last key given, if any was, as the code lends it
abbrev pub lent_key : Maybe (Bor (List ℕ)) → Option Key
lent_key (Some l) = some l.now
lent_key None = none

-- A key that starts with the prefix and comes after the last one given
unfoldable pub due : (prefix : Key) (last : Option Key) → Key → Bool
due p l k = elim (strip p k) [ none ↦ false | some r ↦ past l k ]

-- The answer for a slot with this mark: it gives a key exactly if it has a number.
abbrev pub GivesKey : Bool → (has : ℕ) → Type 0
GivesKey true has = 1 ≤ has
GivesKey false has = has ≡ 0

-- The path with the label of slot i laid behind the bytes above it
unfoldable pub laid : (ws bs path : List ℕ) → ℕ → List ℕ
laid ws bs path i = sets path (start_of ws i) (label_of ws bs i)

-- Slot i within the words and labels, whose key has room in the path
pub record LayRoom (ws bs path : List ℕ) (i : ℕ) : Type 0 where
  pub words : WordsIn ws i
  pub labels : RoomIn bs i
  pub short : len_of ws i ≤ 255
  pub deep : start_of ws i + len_of ws i ≤ length path

-- Its label has been laid, and its key has so many bytes.
pub record Laid (ws bs path : List ℕ) (i : ℕ) (path' : List ℕ) (len : ℕ) : Type 0 where
  pub bytes : path' ≡ laid ws bs path i
  pub end : len ≡ start_of ws i + len_of ws i

-- The key stands at the front of the path.
abbrev pub found_of : Maybe Stepped → List ℕ → Option Pair
found_of (Some x) path = some (take x.length path, x.number.0)
found_of None path = none

abbrev pub found_end : Maybe Stepped → ℕ
found_end (Some x) = x.length
found_end None = 0

-- The path holds the key of the walk's next step.
pub record Sought (ws bs : List ℕ) (p : Key) (l : Option Key) (r : Maybe Stepped) (path : List ℕ) : Type 0 where
  pub found : (t : Tree) → pool_tree ws bs ≡ some t → step_t t p l ≡ found_of r path
  pub inside : found_end r ≤ length path
