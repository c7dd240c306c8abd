-- The finite map from keys to numbers: the list of its pairs, ascending by key. Nothing here knows of a tree.
use Rattle.std.specs.Prelude.{◌≡◌, List, [], ◌∷◌, Bool, true, false, length}
use Rattle.std.proofs.Math.Option.{Option, none, some}
use Prim.Native.Nat.{ℕ, max, compare, Ordering}
use Rattle.tree.specs.Key.{Key, order, strip, common}

-- What a key may lead to
abbrev pub Num : Type 0
Num = Option ℕ

abbrev pub Pair : Type 0
Pair = Key × ℕ

abbrev pub Pairs : Type 0
Pairs = List Pair

-- Every key of a list has a property.
abbrev pub AllKeys : (Key → Type 0) → Pairs → Type 0
AllKeys P [] = Unit {0}
AllKeys P (x ∷ m) = P x.0 × AllKeys P m

-- q comes before k.
abbrev pub Before : Key → Key → Type 0
Before q k = order q k ≡ Ordering.lt

-- Strictly ascending: each key comes before all behind it.
abbrev pub Ascending : Pairs → Type 0
Ascending [] = Unit {0}
Ascending (x ∷ m) = AllKeys (Before x.0) m × Ascending m

-- The number at exactly the key
unfoldable pub lookup : Pairs → Key → Num
lookup [] k = none
lookup (x ∷ m) k = elim (order k x.0) [ Ordering.lt ↦ lookup m k | Ordering.eq ↦ some x.1 | Ordering.gt ↦ lookup m k ]

-- The map with the number v at the key k
unfoldable pub put : Key → ℕ → Pairs → Pairs
put k v [] = (k, v) ∷ []
put k v (x ∷ m) = elim (order k x.0) [ Ordering.lt ↦ (k, v) ∷ x ∷ m | Ordering.eq ↦ (k, v) ∷ m | Ordering.gt ↦ x ∷ put k v m ]

-- The map without the key k
unfoldable pub erase : Key → Pairs → Pairs
erase k [] = []
erase k (x ∷ m) = elim (order k x.0) [ Ordering.lt ↦ x ∷ erase k m | Ordering.eq ↦ erase k m | Ordering.gt ↦ x ∷ erase k m ]

-- Every key that starts with the prefix, prefix taken off
unfoldable pub starting_with : Key → Pairs → Pairs
starting_with p [] = []
starting_with p (x ∷ m) = elim (strip p x.0) [ none ↦ starting_with p m | some r ↦ (r, x.1) ∷ starting_with p m ]

-- and every other key
unfoldable pub not_starting_with : Key → Pairs → Pairs
not_starting_with p [] = []
not_starting_with p (x ∷ m) = elim (strip p x.0) [ none ↦ x ∷ not_starting_with p m | some r ↦ not_starting_with p m ]

-- The longer of a stored prefix (its length and number) and another, if there is another
unfoldable pub longer : ℕ × ℕ → Option (ℕ × ℕ) → Option (ℕ × ℕ)
longer a none = some a
longer a (some b) = elim (compare a.0 b.0) [ Ordering.lt ↦ some b | Ordering.eq ↦ some a | Ordering.gt ↦ some a ]

-- Length and number of the longest stored key that starts the query
unfoldable pub longest : Pairs → Key → Option (ℕ × ℕ)
longest [] q = none
longest (x ∷ m) q = elim (strip x.0 q) [ none ↦ longest m q | some r ↦ longer (length x.0, x.1) (longest m q) ]

-- The greatest number of leading bytes that the query shares with any stored key, 0 for the empty map
unfoldable pub shared : Pairs → Key → ℕ
shared [] q = 0
shared (x ∷ m) q = max (common x.0 q) (shared m q)

-- Whether k is greater than the last key given; every key is, if none was given.
unfoldable pub past : Option Key → Key → Bool
past none k = true
past (some l) k = elim (order l k) [ Ordering.lt ↦ true | Ordering.eq ↦ false | Ordering.gt ↦ false ]

-- The smallest stored key that starts with the prefix and is greater than the last one given, with its number:
-- the pairs ascend, so it is the first such.
unfoldable pub next : Pairs → (prefix : Key) (last : Option Key) → Option Pair
next [] p l = none
next (x ∷ m) p l =
    elim (strip p x.0) [
      | none ↦ next m p l
      | some r ↦ elim (past l x.0) [ true ↦ some x | false ↦ next m p l ]
    ]

-- How many keys it holds
abbrev pub size : Pairs → ℕ
size m = length m
