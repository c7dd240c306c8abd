-- What a step tells and leaves, from what its tests said. Assumes nothing.
use mathlib.Core.Path.{◌≡◌, refl, ap, ◌∙◌}
use mathlib.Core.Bool.{true, false}
use mathlib.Core.List.{List, [], ◌∷◌, ◌++◌}
use mathlib.Core.Option.{Option, some}
use Prim.Native.Nat.{ℕ, suc, ◌≤◌, ◌<◌}
use native.Mathlib.Omega.{arith}
use lib.ListN.{length, take, drop}
use lib.Seq.{length-take-le}
use borrow.Author.Tests.{le-leb, lt-leb}
use Rattle.std.specs.Prelude.{Some, None, Ok, Err}
use Rattle.std.specs.Prelude.{Option as Maybe}
use Rattle.tree.specs.Key.{Key, key_max}
use Rattle.tree.specs.Map.{Pair}
use Rattle.tree.specs.Tree.{Tree}
use Rattle.tree.specs.Walk.{step_t}
use Rattle.tree.specs.Told.{done, refusal, refusal_at, refusal_told}
use Rattle.tree.specs.Calls.{fits, last_fits, step_told, step_call}
use Rattle.tree.specs.declared.Refusal.{Refusal}
use Rattle.tree.specs.declared.Stepped.{Stepped}
use Rattle.pool.specs.Pool.{pool_tree}
use Rattle.pool.specs.Rule.{PoolRule}
use Rattle.pool.proofs.Ruled.{rule-tree}
use Rattle.pool.proofs.Answers.{no-rule}
use Rattle.walk.specs.declared.Walk.{Walk}
use Rattle.walk.specs.declared.Step.{Step}
use Rattle.walk.specs.Due.{found_of, Sought}
use Rattle.walk.specs.Walks.{prefix_of, last_of, stepped, step_of, Steps}
use Rattle.walk.proofs.Padded.{padded-is}

pub fits-short : (k : Key) → length k ≤ key_max → fits k ≡ true
unfolding fits
fits-short k h = le-leb (length k) key_max h

pub fits_long : (k : Key) → key_max < length k → fits k ≡ false
unfolding fits
fits_long k h = lt-leb (length k) key_max h

-- The call's answer by its tests
module _ (t : Tree) (p : Key) (l : Option Key) (room : ℕ) where
  pub call_prefix : fits p ≡ false → refusal 2 ≡ step_call (some t) p l room
  unfolding step_call
  call_prefix e = rw (e, step_call)

  pub call_last : fits p ≡ true → last_fits l ≡ false → refusal 2 ≡ step_call (some t) p l room
  unfolding step_call
  call_last e f = rw (e, f, step_call)

  call_told : fits p ≡ true → last_fits l ≡ true → step_told room (step_t t p l) ≡ step_call (some t) p l room
  unfolding step_call
  call_told e f = rw (e, f, step_call)

told_short : (x : Pair) (room : ℕ) → room < length x.0 → refusal_at 5 (length x.0) ≡ step_told room (some x)
unfolding step_told
told_short x room h = rw (lt-leb (length x.0) room h, step_told)

told_done : (x : Pair) (room : ℕ) → length x.0 ≤ room → done (length x.0 ∷ x.1 ∷ []) ≡ step_told room (some x)
unfolding step_told
told_done x room h = rw (le-leb (length x.0) room h, step_told)

-- A refusal leaves the walk and the output.
abbrev pub halted : Walk → Refusal → Step
halted w e = record { answer = Err e; walk = w }

stays : {o : Option Tree} {w : Walk} {out : List ℕ} (e : Refusal) (n : ℕ) → (refusal_told e).number ≡ suc n
    → refusal_told e ≡ step_call o (prefix_of w) (last_of w) (length out) → Steps o w (halted w e) out out
stays e n s q = record { said = q; left = rw s (record { walk = refl; bytes = refl }) }

module _ {ws bs : List ℕ} (w : Walk) (out : List ℕ) where
  -- No pool
  pub step_refused : (PoolRule ws bs → ⊥) → Steps (pool_tree ws bs) w (halted w Refusal.NotPool) out out
  unfolding step_call
  step_refused h = stays Refusal.NotPool 0 refl (rw (no-rule ws bs h))

  -- A prefix or a last key that is too long
  pub step_prefix : PoolRule ws bs → key_max < length (prefix_of w) → Steps (pool_tree ws bs) w (halted w Refusal.TooLong) out out
  step_prefix rule h =
      let t = rule-tree ws bs rule in
      stays Refusal.TooLong 1 refl (rw t.1 (call_prefix t.0 (prefix_of w) (last_of w) (length out) (fits_long (prefix_of w) h)))

  pub step_last : PoolRule ws bs → length (prefix_of w) ≤ key_max → last_fits (last_of w) ≡ false
      → Steps (pool_tree ws bs) w (halted w Refusal.TooLong) out out
  step_last rule h l =
      let t = rule-tree ws bs rule in
      stays Refusal.TooLong 1 refl (rw t.1 (call_last t.0 (prefix_of w) (last_of w) (length out) (fits-short (prefix_of w) h) l))

-- The search was made: the prefix and the last key are not too long.
pub record Asked (ws bs : List ℕ) (w : Walk) : Type 0 where
  pub rule : PoolRule ws bs
  pub prefix : length (prefix_of w) ≤ key_max
  pub last : last_fits (last_of w) ≡ true

module _ {ws bs : List ℕ} {w : Walk} (a : Asked ws bs w) (out : List ℕ) {r : Maybe Stepped} {path : List ℕ} (s : Sought ws bs (prefix_of w) (last_of w) r path) where
  abbrev tree : Tree
  tree = (rule-tree ws bs a.rule).0

  is-tree : pool_tree ws bs ≡ some tree
  is-tree = (rule-tree ws bs a.rule).1

  given : step_t tree (prefix_of w) (last_of w) ≡ found_of r path
  given = s.found tree is-tree

  told : step_told (length out) (found_of r path) ≡ step_call (pool_tree ws bs) (prefix_of w) (last_of w) (length out)
  told =
      let p = fits-short (prefix_of w) a.prefix in
      rw (is-tree, ← given) (call_told tree (prefix_of w) (last_of w) (length out) p a.last)

  -- No key is left
  pub step_ended : r ≡ None → Steps (pool_tree ws bs) w (halted w Refusal.NoKey) out out
  unfolding step_told
  step_ended q = stays Refusal.NoKey 2 refl (rw q at told)

  module _ {x : Stepped} (q : r ≡ Some x) where
    abbrev key : Key
    key = take x.length path

    pub key-inside : x.length ≤ length path
    key-inside = (rw q at s).inside

    key-length : length key ≡ x.length
    key-length = length-take-le x.length path key-inside

    told_key : step_told (length out) (some (key, x.number.0)) ≡ step_call (pool_tree ws bs) (prefix_of w) (last_of w) (length out)
    told_key = rw q at told

    -- The key does not fit the output
    pub step_short : length out < x.length → Steps (pool_tree ws bs) w (halted w (Refusal.KeyShort x.length)) out out
    step_short h =
        stays (Refusal.KeyShort x.length) 4 refl
        (rw key-length at (told_short (key, x.number.0) (length out) (omega (arith, key-length))) ∙ told_key)

    -- It does: it is given.
    pub step_given : x.length ≤ length out → {xs : List ℕ} → xs ≡ key → Steps (pool_tree ws bs) w (stepped w (Ok x) path) out (xs ++ drop x.length out)
    unfolding step_of
    step_given h {xs} e =
        let g : step_t tree (prefix_of w) (last_of w) ≡ some (key, x.number.0) = rw q at given in
        record {
          said = rw key-length at (told_done (key, x.number.0) (length out) (omega (arith, key-length))) ∙ told_key;
          left = rw (is-tree, g) (record { prefix = refl; last = ap some (padded-is x.length path key-inside); bytes = rw (key-length, e) });
        }
