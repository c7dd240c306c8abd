-- What each public call tells and leaves, for every input. A pool counts by the tree that it holds: none where it is no
-- pool. Of a pool to be made, read into or split into only its number of slots counts: none where its lengths are wrong.
-- The order of the refusals is 1, 2, 3, 4, 5. A search tells last how many nodes it looked at, with 0 and with 3;
-- insert and remove tell it of the tree as it was before.
use Rattle.std.specs.Prelude.{List, [], ◌∷◌, Bool, true, false, ℕ, length, leb}
use Rattle.std.proofs.Math.Option.{Option, none, some}
use Rattle.tree.specs.Key.{Key, key_max}
use Rattle.tree.specs.Map.{Num, Pair}
use Rattle.tree.specs.Tree.{Tree, empty, nodes_t, keys_t}
use Rattle.tree.specs.Search.{get_t, longest_t, shared_t, looked_t}
use Rattle.tree.specs.Insert.{insert_t}
use Rattle.tree.specs.Remove.{remove_t, clear_t}
use Rattle.tree.specs.Split.{Halves, absent, halves, split_t}
use Rattle.tree.specs.Walk.{step_t}
use Rattle.tree.specs.Image.{image_t, numbers_t, numbers_w}
use Rattle.tree.specs.Reader.{Verdict, refused_with, ok, read_t}
use Rattle.tree.specs.Told.{Told, done, refusal, refusal_at}

-- A call that changes a pool either refuses, and every lent byte and word stays, or is done: then it tells 0 with these
-- values, and leaves a tree.
pub data Outcome : Type 0 where
  refuses : Told → Outcome
  leaves : (values : List ℕ) → Tree → Outcome

abbrev pub outcome_told : Outcome → Told
outcome_told (refuses x) = x
outcome_told (leaves vs t) = done vs

-- A split leaves two, and tells nothing besides.
pub data SplitOutcome : Type 0 where
  refuses_both : Told → SplitOutcome
  leaves_both : (detached left : Tree) → SplitOutcome

abbrev pub both_told : SplitOutcome → Told
both_told (refuses_both x) = x
both_told (leaves_both d u) = done []

-- 2 for a key over 4,096 bytes
unfoldable pub fits : Key → Bool
fits k = leb (length k) key_max

unfoldable pub make_call : (slots : Option ℕ) → Outcome
make_call none = refuses (refusal 1)
make_call (some s) = leaves [] empty

unfoldable pub clear_call : Option Tree → Outcome
clear_call none = refuses (refusal 1)
clear_call (some t) = leaves [] (clear_t t)

unfoldable pub counts_call : Option Tree → Told
counts_call none = refusal 1
counts_call (some t) = done (keys_t t ∷ nodes_t t ∷ [])

unfoldable pub number_told : (looked : ℕ) → Num → Told
number_told looked none = refusal_at 3 looked
number_told looked (some v) = done (v ∷ looked ∷ [])

unfoldable pub get_call : Option Tree → Key → Told
get_call none k = refusal 1
get_call (some t) k = elim (fits k) [ false ↦ refusal 2 | true ↦ number_told (looked_t t k) (get_t t k) ]

unfoldable pub longest_told : (looked : ℕ) → Option (ℕ × ℕ) → Told
longest_told looked none = refusal_at 3 looked
longest_told looked (some p) = done (p.0 ∷ p.1 ∷ looked ∷ [])

unfoldable pub longest_call : Option Tree → Key → Told
longest_call none q = refusal 1
longest_call (some t) q = elim (fits q) [ false ↦ refusal 2 | true ↦ longest_told (looked_t t q) (longest_t t q) ]

unfoldable pub shared_call : Option Tree → Key → Told
shared_call none q = refusal 1
shared_call (some t) q = elim (fits q) [ false ↦ refusal 2 | true ↦ done (shared_t t q ∷ looked_t t q ∷ []) ]

-- No room: the resulting tree needs more nodes than the pool has slots.
unfoldable pub insert_call : Option Tree → (slots : ℕ) → Key → ℕ → Outcome
insert_call none slots k v = refuses (refusal 1)
insert_call (some t) slots k v =
    elim (fits k) [
      | false ↦ refuses (refusal 2)
      | true ↦
          elim (leb (nodes_t (insert_t t k v)) slots) [
            | false ↦ refuses (refusal 4)
            | true ↦ leaves (numbers_w (get_t t k) (looked_t t k ∷ [])) (insert_t t k v)
          ]
    ]

unfoldable pub remove_told : (looked : ℕ) → Num → Option Tree → Outcome
remove_told looked w none = refuses (refusal_at 3 looked)
remove_told looked w (some u) = leaves (numbers_w w (looked ∷ [])) u

unfoldable pub remove_call : Option Tree → Key → Outcome
remove_call none k = refuses (refusal 1)
remove_call (some t) k =
    elim (fits k) [ false ↦ refuses (refusal 2) | true ↦ remove_told (looked_t t k) (get_t t k) (remove_t t k) ]

unfoldable pub split_told : (slots : ℕ) → Halves → SplitOutcome
split_told slots absent = refuses_both (refusal 3)
split_told slots (halves d u) = elim (leb (nodes_t d) slots) [ false ↦ refuses_both (refusal 4) | true ↦ leaves_both d u ]

-- Split tests the first pool, then the second pool's lengths, then the rest. No room speaks of the second pool.
unfoldable pub split_call : Option Tree → (slots : Option ℕ) → Key → SplitOutcome
split_call none slots p = refuses_both (refusal 1)
split_call (some t) none p = refuses_both (refusal 1)
split_call (some t) (some slots) p = elim (fits p) [ false ↦ refuses_both (refusal 2) | true ↦ split_told slots (split_t t p) ]

unfoldable pub last_fits : Option Key → Bool
last_fits none = true
last_fits (some l) = fits l

unfoldable pub step_told : (out : ℕ) → Option Pair → Told
step_told out none = refusal 3
step_told out (some x) = elim (leb (length x.0) out) [ false ↦ refusal_at 5 (length x.0) | true ↦ done (length x.0 ∷ x.1 ∷ []) ]

-- A walk's step into an output of `out` bytes
unfoldable pub step_call : Option Tree → (prefix : Key) (last : Option Key) (out : ℕ) → Told
step_call none p l out = refusal 1
step_call (some t) p l out =
    elim (fits p) [
      | false ↦ refusal 2
      | true ↦ elim (last_fits l) [ false ↦ refusal 2 | true ↦ step_told out (step_t t p l) ]
    ]

unfoldable pub both : Bool → Bool → Bool
both true b = b
both false b = false

-- The writer, into outputs of so many bytes and so many numbers
unfoldable pub write_call : Option Tree → (bytes numbers : ℕ) → Told
write_call none bytes numbers = refusal 1
write_call (some t) bytes numbers =
    let b = length (image_t t) in
    let n = length (numbers_t t) in
    elim (both (leb b bytes) (leb n numbers)) [ false ↦ record { number = 5; values = b ∷ n ∷ [] } | true ↦ done (b ∷ n ∷ []) ]

unfoldable pub read_told : Verdict → Outcome
read_told (refused_with x) = refuses x
read_told (ok t) = leaves [] t

unfoldable pub read_call : (slots : Option ℕ) (s ns : List ℕ) → Outcome
read_call none s ns = refuses (refusal 1)
read_call (some slots) s ns = read_told (read_t s ns slots)
