-- The walk: what it stands for, and what a step gives and leaves.
use Rattle.std.specs.Prelude.{◌≡◌, List, ◌++◌, true, false, ℕ, zero, suc, ◌≤◌, ◌<◌, length, take, replicate, Some, None, Ok, Err}
use Rattle.std.specs.Prelude.{Option as Maybe}
use Rattle.std.specs.Borrow.{Bor}
use Rattle.std.proofs.Math.Option.{Option, none, some}
use Rattle.tree.specs.Key.{Key, key_max}
use Rattle.tree.specs.Map.{Pair}
use Rattle.tree.specs.Tree.{Tree}
use Rattle.tree.specs.Walk.{step_t}
use Rattle.tree.specs.Told.{Answer, stepped_told}
use Rattle.tree.specs.declared.Refusal.{Refusal}
use Rattle.tree.specs.declared.Stepped.{Stepped}
use Rattle.tree.specs.Calls.{last_fits, step_call}
use Rattle.pool.specs.Lent.{Lent, tree_in}
use Rattle.writer.specs.Post.{front}
use Rattle.walk.specs.Due.{lent_key}
use Rattle.walk.specs.declared.Key.{Key as Kept}
use Rattle.walk.specs.declared.Walk.{Walk}
use Rattle.walk.specs.declared.Step.{Step}

-- The key of `len` bytes that an array with a claimed length stands for; bytes that the array lacks are 0.
unfoldable pub padded : (len : ℕ) → List ℕ → Key
padded len bs = take len (bs ++ replicate len 0)

-- The key that a key of the code stands for
abbrev pub key_of : Kept → Key
key_of k = padded k.len k.bytes

-- The code's key keeps a key. One over 4,096 bytes is not kept, but its length is.
pub record Keeps (k : Key) (r : Kept) : Type 0 where
  pub bytes : length k ≤ key_max → key_of r ≡ k
  pub len : length (key_of r) ≡ length k

-- Its bytes are lent if it is not too long.
abbrev pub Lends : Kept → Answer (Bor (List ℕ)) → Type 0
Lends k (Ok b) = (b.now ≡ key_of k) × (length (key_of k) ≤ key_max)
Lends k (Err e) = (e ≡ Refusal.TooLong) × (key_max < length (key_of k))

abbrev pub prefix_of : Walk → Key
prefix_of w = key_of w.prefix

-- The last key given; a new walk has given none.
abbrev pub last_key : Maybe Kept → Option Key
last_key (Some k) = some (key_of k)
last_key None = none

abbrev pub last_of : Walk → Option Key
last_of w = last_key w.last

-- A last key is lent if it is not too long, and none is where none was given.
abbrev pub LendsLast : Walk → Answer (Maybe (Bor (List ℕ))) → Type 0
LendsLast w (Ok o) = (lent_key o ≡ last_of w) × (last_fits (last_of w) ≡ true)
LendsLast w (Err e) = (e ≡ Refusal.TooLong) × (last_fits (last_of w) ≡ false)

-- The walk with another last key, n bytes at the front of an array
abbrev pub handed_on : Walk → (key : List ℕ) (n : ℕ) → Walk
handed_on w key n = record { prefix = w.prefix; last = Some (record { bytes = key; len = n }) }

-- A step by its answer, the key that it gives at the front of a path
abbrev pub stepped : Walk → Answer Stepped → (path : List ℕ) → Step
stepped w (Ok x) path = record { answer = Ok x; walk = handed_on w path x.length }
stepped w (Err e) path = record { answer = Err e; walk = w }

-- A new walk under a prefix has given none. A prefix over 4,096 bytes is not kept, but its length is: every step then gives 2.
pub record Begins (p : Key) (w : Walk) : Type 0 where
  pub prefix : length p ≤ key_max → prefix_of w ≡ p
  pub len : length (prefix_of w) ≡ length p
  pub fresh : last_of w ≡ none

-- A walk that goes on behind a key: the same prefix, and that key is the last one given. A key over 4,096 bytes is not kept, but
-- its length is.
pub record HandedIn (l : Key) (w w' : Walk) : Type 0 where
  pub prefix : prefix_of w' ≡ prefix_of w
  pub given : Key
  pub last : last_of w' ≡ some given
  pub len : length given ≡ length l
  pub kept : length l ≤ key_max → given ≡ l

-- A step that gives a key hands the walk on with it, and puts it at the front of the output; the rest stays.
pub record Gives (key : Key) (w w' : Walk) (out out' : List ℕ) : Type 0 where
  pub prefix : prefix_of w' ≡ prefix_of w
  pub last : last_of w' ≡ some key
  pub bytes : out' ≡ front key out

-- A refusal leaves the walk where it was, and the output.
pub record Stays (w w' : Walk) (out out' : List ℕ) : Type 0 where
  pub walk : w' ≡ w
  pub bytes : out' ≡ out

-- By the number told, and by the pair that the step comes to
abbrev pub Leaves : (number : ℕ) → Option Pair → (w w' : Walk) (out out' : List ℕ) → Type 0
Leaves zero (some x) w w' out out' = Gives x.0 w w' out out'
Leaves zero none w w' out out' = ⊥
Leaves (suc n) x w w' out out' = Stays w w' out out'

unfoldable pub step_of : Option Tree → (prefix : Key) (last : Option Key) → Option Pair
step_of none p l = none
step_of (some t) p l = step_t t p l

pub record Steps (o : Option Tree) (w : Walk) (r : Step) (out out' : List ℕ) : Type 0 where
  pub said : stepped_told r.answer ≡ step_call o (prefix_of w) (last_of w) (length out)
  pub left : Leaves (stepped_told r.answer).number (step_of o (prefix_of w) (last_of w)) w r.walk out out'

-- What a step allows: an answer with the walk handed on, and the output that it leaves
abbrev pub StepAllows : Walk → Step → Lent → (out out' : List ℕ) → Type 0
StepAllows w r was out out' = Steps (tree_in was) w r out out'
