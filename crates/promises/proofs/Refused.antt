-- Nothing changes on a refusal: where a call tells any number but 0, every lent slice is as it was. One law a call, from its
-- contract alone. Assumes nothing.
use Rattle.std.specs.Prelude.{⊤}
use mathlib.Core.Path.{◌≡◌, refl, ap, ◌∙◌}
use mathlib.Core.List.{List}
use mathlib.Core.Option.{Option, none, some}
use Prim.Native.Nat.{ℕ, zero, suc}
use Rattle.tree.specs.Key.{Key}
use Rattle.tree.specs.Map.{Pair}
use Rattle.tree.specs.Tree.{Tree}
use Rattle.tree.specs.Image.{image_t, numbers_t}
use Rattle.tree.specs.Told.{Answer, Told, bare_told, inserted_told, got_told, stepped_told, written_told}
use Rattle.tree.specs.Calls.{SplitOutcome, refuses_both, leaves_both, make_call, clear_call, insert_call, remove_call, split_call, read_call}
use Rattle.tree.specs.declared.Inserted.{Inserted}
use Rattle.tree.specs.declared.Got.{Got}
use Rattle.tree.specs.declared.Written.{Written}
use Rattle.pool.specs.Lent.{Lent, tree_in, size_in, room_in}
use Rattle.pool.specs.Post.{MakeAllows, ClearAllows}
use Rattle.pool.proofs.Decided.{lent_same}
use Rattle.pool.proofs.Outcomes.{refused_stays}
use Rattle.insert.specs.Post.{InsertAllows}
use Rattle.remove.specs.Post.{RemoveAllows}
use Rattle.split.specs.Post.{DoesBoth, SplitAllows}
use Rattle.reader.specs.Post.{ReadAllows}
use Rattle.writer.specs.Post.{after, Writes, WriteAllows}
use Rattle.walk.specs.declared.Walk.{Walk}
use Rattle.walk.specs.declared.Step.{Step}
use Rattle.walk.specs.Walks.{prefix_of, last_of, Leaves, step_of, StepAllows}
use Rattle.promises.specs.Pools.{Accepted}

module _ (was is : Lent) where
  pub make_refused : (r : Answer ⊤) → MakeAllows r was is → ¬ Accepted (bare_told r) → is ≡ was
  make_refused r = refused_stays (make_call (size_in was)) (bare_told r) was is

  pub clear_refused : (r : Answer ⊤) → ClearAllows r was is → ¬ Accepted (bare_told r) → is ≡ was
  clear_refused r = refused_stays (clear_call (tree_in was)) (bare_told r) was is

  pub insert-refused : (key : Key) (number : ℕ) (r : Answer Inserted) → InsertAllows key number r was is → ¬ Accepted (inserted_told r) → is ≡ was
  insert-refused key number r = refused_stays (insert_call (tree_in was) (room_in was) key number) (inserted_told r) was is

  pub remove-refused : (key : Key) (r : Answer Got) → RemoveAllows key r was is → ¬ Accepted (got_told r) → is ≡ was
  remove-refused key r = refused_stays (remove_call (tree_in was) key) (got_told r) was is

  pub read_refused : (s ns : List ℕ) (r : Answer ⊤) → ReadAllows s ns r was is → ¬ Accepted (bare_told r) → is ≡ was
  read_refused s ns r = refused_stays (read_call (size_in was) s ns) (bare_told r) was is

-- Split: the slices of both pools
pub record BothStay (was was₂ is is₂ : Lent) : Type 0 where
  pub first : is ≡ was
  pub second : is₂ ≡ was₂

pub both-refused : (was was₂ is is₂ : Lent) (o : SplitOutcome) (told : Told) → DoesBoth o told was was₂ is is₂ → ¬ Accepted told → BothStay was was₂ is is₂
both-refused was was₂ is is₂ (refuses_both x) told d n = record { first = lent_same d.words d.labels; second = lent_same d.words₂ d.labels₂ }
both-refused was was₂ is is₂ (leaves_both x u) told d n = absurd (n (ap (λ (z : Told). z.number) d.said))

pub split_refused : (was was₂ is is₂ : Lent) (prefix : Key) (r : Answer ⊤) → SplitAllows prefix r was was₂ is is₂ → ¬ Accepted (bare_told r) → BothStay was was₂ is is₂
split_refused was was₂ is is₂ prefix r = both-refused was was₂ is is₂ (split_call (tree_in was) (size_in was₂) prefix) (bare_told r)

-- A walk's step: the walk and the output
pub record WalkStays (w : Walk) (r : Step) (out out' : List ℕ) : Type 0 where
  pub walk : r.walk ≡ w
  pub bytes : out' ≡ out

pub step_refused : (was : Lent) (w : Walk) (r : Step) (out out' : List ℕ) → StepAllows w r was out out' → ¬ Accepted (stepped_told r.answer) → WalkStays w r out out'
step_refused was w r out out' s n = by (stepped_told r.answer).number (step_of (tree_in was) (prefix_of w) (last_of w)) refl s.left
  where
    by : (m : ℕ) (x : Option Pair) → (stepped_told r.answer).number ≡ m → Leaves m x w r.walk out out' → WalkStays w r out out'
    by zero x e l = absurd (n e)
    by (suc m) x e l = record { walk = l.walk; bytes = l.bytes }

-- Write: both outputs
pub record OutputsStay (tree numbers tree' numbers' : List ℕ) : Type 0 where
  pub bytes : tree' ≡ tree
  pub nums : numbers' ≡ numbers

after-refused : (o : Option Tree) (n : ℕ) (what : Tree → List ℕ) (out : List ℕ) → ¬ (n ≡ 0) → after o n what out ≡ out
unfolding after
after-refused none n what out h = refl
after-refused (some t) zero what out h = absurd (h refl)
after-refused (some t) (suc n) what out h = refl

pub outputs_refused : {o : Option Tree} {told : Told} {tree numbers tree' numbers' : List ℕ} → Writes o told tree numbers tree' numbers' → ¬ Accepted told
    → OutputsStay tree numbers tree' numbers'
outputs_refused {o} {told} {tree} {numbers} w n =
    record { bytes = w.bytes ∙ after-refused o told.number image_t tree n; nums = w.nums ∙ after-refused o told.number numbers_t numbers n }

pub write_refused : (was : Lent) (r : Answer Written) (tree numbers tree' numbers' : List ℕ) → WriteAllows r was tree numbers tree' numbers' → ¬ Accepted (written_told r)
    → OutputsStay tree numbers tree' numbers'
write_refused was r tree numbers tree' numbers' = outputs_refused
