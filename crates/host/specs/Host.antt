-- What an exported call returns and leaves. The call's answer is told as document 01's number, which is returned, and the
-- values besides, which go to the results that the caller lends by pointer.
use Rattle.std.specs.Prelude.{◌≡◌, List, [], ◌∷◌, ℕ, zero, suc, length, get_or}
use Rattle.std.proofs.Math.Option.{Option, none, some}
use Rattle.tree.specs.Key.{Key}
use Rattle.tree.specs.Map.{Pair}
use Rattle.tree.specs.Tree.{Tree}
use Rattle.tree.specs.Told.{Told}
use Rattle.tree.specs.Calls.{Outcome, outcome_told, SplitOutcome, both_told, step_call, write_call}
use Rattle.pool.specs.Lent.{Lent}
use Rattle.pool.specs.Post.{Does}
use Rattle.split.specs.Post.{DoesBoth}
use Rattle.writer.specs.Post.{front, Writes}
use Rattle.walk.specs.Walks.{step_of}

-- The value told at place i, or what stood there where none is told
abbrev pub given : Told → (i kept : ℕ) → ℕ
given told i kept = get_or told.values i kept

-- Of two results the one holds the first value told, the other the second; each keeps what it held where there is none.
pub record GivesTwo (told : Told) (a b a' b' : ℕ) : Type 0 where
  pub first : a' ≡ given told 0 a
  pub second : b' ≡ given told 1 b

-- Results after the values are stored in them; a result that no value is told for stays.
abbrev pub Storing : Type 0
Storing = (values results : List ℕ) → List ℕ

-- The values are written over the first results.
unfoldable pub over : Storing
over [] rs = rs
over (v ∷ vs) [] = []
over (v ∷ vs) (r ∷ rs) = v ∷ over vs rs

-- A search tells last how many nodes it looked at: that goes to the last result, what is told before it over the first.
abbrev pub over_last : Storing
over_last [] rs = rs
over_last (v ∷ vs) [] = []
over_last (v ∷ []) (r ∷ []) = v ∷ []
over_last (v ∷ []) (r ∷ s ∷ rs) = r ∷ over_last (v ∷ []) (s ∷ rs)
over_last (v ∷ w ∷ vs) (r ∷ rs) = v ∷ over_last (w ∷ vs) rs

-- An insert that is done also says, in the first result, how many values it tells before that count: 1 or 0, whether
-- there was an old number.
abbrev pub over_flagged : Storing
over_flagged [] rs = rs
over_flagged (v ∷ vs) rs = over_last (length vs ∷ v ∷ vs) rs

-- Two results, or three, hold the values of a list.
pub record HoldTwo (xs : List ℕ) (a b : ℕ) : Type 0 where
  pub first : a ≡ get_or xs 0 0
  pub second : b ≡ get_or xs 1 0

pub record HoldThree (xs : List ℕ) (a b c : ℕ) : Type 0 where
  pub first : a ≡ get_or xs 0 0
  pub second : b ≡ get_or xs 1 0
  pub third : c ≡ get_or xs 2 0

-- The number is returned, and the results hold what is told besides.
pub record Returns (store : Storing) (told : Told) (r : ℕ) (results results' : List ℕ) : Type 0 where
  pub number : r ≡ told.number
  pub values : results' ≡ store told.values results

-- A call that changes a pool also leaves the two lent slices as the call's outcome says.
pub record Changes (store : Storing) (o : Outcome) (r : ℕ) (results results' : List ℕ) (was is : Lent) : Type 0 where
  pub returns : Returns store (outcome_told o) r results results'
  pub left : Does o (outcome_told o) was is

pub record Splits (o : SplitOutcome) (r : ℕ) (was was₂ is is₂ : Lent) : Type 0 where
  pub returns : Returns over (both_told o) r [] []
  pub left : DoesBoth o (both_told o) was was₂ is is₂

-- The last key of a walk whose state is lent: none where `begun` is 0, whatever the slice holds
unfoldable pub last_given : (begun : ℕ) → Key → Option Key
last_given zero l = none
last_given (suc n) l = some l

-- With 0 the key stands at the front of the output; with any other number the output is what it was.
unfoldable pub key_written : (number : ℕ) → Option Pair → List ℕ → List ℕ
key_written zero (some x) out = front x.0 out
key_written zero none out = out
key_written (suc n) x out = out

pub record NextGiven (o : Option Tree) (p : Key) (l : Option Key) (r : ℕ) (results results' out out' : List ℕ) : Type 0 where
  pub returns : Returns over (step_call o p l (length out)) r results results'
  pub bytes : out' ≡ key_written r (step_of o p l) out

pub record Written (o : Option Tree) (r : ℕ) (results results' tree numbers tree' numbers' : List ℕ) : Type 0 where
  pub returns : Returns over (write_call o (length tree) (length numbers)) r results results'
  pub left : Writes o (write_call o (length tree) (length numbers)) tree numbers tree' numbers'
