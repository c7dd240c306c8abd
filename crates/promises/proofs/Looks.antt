-- A search looks at few nodes, of the calls: get, longest stored prefix, shared length, insert and remove tell with 0
-- and with 3 how many, at most 1 + 256 times the key's length, and with any other number nothing. From their contracts
-- alone. Assumes nothing.
use mathlib.Core.Path.{◌≡◌, refl}
use mathlib.Core.List.{[]}
use mathlib.Core.Logic.{inl, inr}
use mathlib.Core.Option.{Option, none, some}
use Prim.Native.Nat.{ℕ, ◌+◌, ◌*◌, ◌≤◌}
use native.Mathlib.Omega.{arith}
use lib.ListN.{length}
use Rattle.tree.specs.Key.{Key, Bytes}
use Rattle.tree.specs.Tree.{Tree}
use Rattle.tree.specs.Search.{looked_t}
use Rattle.tree.specs.Told.{Answer, Told, refusal, got_told, inserted_told, prefixed_told, sharing_told}
use Rattle.tree.specs.Calls.{Outcome, refuses, leaves, outcome_told}
use Rattle.tree.specs.Calls.{get_call, longest_call, shared_call, insert_call, remove_call}
use Rattle.tree.specs.declared.Got.{Got}
use Rattle.tree.specs.declared.Inserted.{Inserted}
use Rattle.tree.specs.declared.Prefixed.{Prefixed}
use Rattle.tree.specs.declared.Sharing.{Sharing}
use Rattle.tree.proofs.LookedBound.{looked_bound}
use Rattle.tree.proofs.SearchTold.{LookedLast, with_0, with_3, untold, untold_1}
use Rattle.tree.proofs.SearchTold.{get_last, longest-last, shared_last, insert-last, remove-last}
use Rattle.pool.specs.Lent.{Lent, tree_in, room_in}
use Rattle.pool.specs.Post.{Does}
use Rattle.pool.proofs.Held.{tree-holds}
use Rattle.search.specs.Post.{GetAllows, LongestAllows, SharedAllows}
use Rattle.insert.specs.Post.{InsertAllows}
use Rattle.remove.specs.Post.{RemoveAllows}
use Rattle.promises.specs.Looks.{LooksFew}

-- A count that is told last and is small
few-last : (key : Key) (n : ℕ) (told : Told) → n ≤ 1 + 256 * length key → LookedLast n told → LooksFew key told
few-last key n told h (with_0 vs) =
    record {
      counted = λ s. record { ahead = vs; looked = n; last = refl; few = h };
      silent = λ no. absurd (no (inl refl));
    }
few-last key n told h with_3 =
    record {
      counted = λ s. record { ahead = []; looked = n; last = refl; few = h };
      silent = λ no. absurd (no (inr refl));
    }
few-last key n told h (untold m a b) =
    record { counted = λ s. elim s [ inl e ↦ absurd (a e) | inr e ↦ absurd (b e) ]; silent = λ no. refl }

-- What a changing call tells is its outcome's.
does_tell : (o : Outcome) (told : Told) (was is : Lent) → Does o told was is → told ≡ outcome_told o
does_tell (refuses x) told was is d = d.said
does_tell (leaves vs t) told was is d = d.said

-- A slice of bytes holds bytes. What is no pool is told 1; what is one holds a tree that is well formed.
module _ (was : Lent) (by : Bytes was.labels) (key : Key) where
  looks_few : (call : Option Tree → Told) → call none ≡ refusal 1
      → ((t : Tree) → LookedLast (looked_t t key) (call (some t)))
      → (told : Told) → told ≡ call (tree_in was) → LooksFew key told
  looks_few call none_is of told e = rw e (go (tree_in was) refl)
    where
      go : (o : Option Tree) → tree_in was ≡ o → LooksFew key (call o)
      go none q = rw none_is (few-last key 0 _ (omega arith) untold_1)
      go (some t) q = few-last key _ _ (looked_bound t (tree-holds was.words was.labels by t q).wf key) (of t)

  pub get_looks : (r : Answer Got) → GetAllows key r was → LooksFew key (got_told r)
  unfolding get_call
  get_looks r = looks_few (λ o. get_call o key) refl (λ t. get_last t key) (got_told r)

  pub longest_looks : (r : Answer Prefixed) → LongestAllows key r was → LooksFew key (prefixed_told r)
  unfolding longest_call
  longest_looks r = looks_few (λ o. longest_call o key) refl (λ t. longest-last t key) (prefixed_told r)

  pub shared_looks : (r : Answer Sharing) → SharedAllows key r was → LooksFew key (sharing_told r)
  unfolding shared_call
  shared_looks r = looks_few (λ o. shared_call o key) refl (λ t. shared_last t key) (sharing_told r)

  -- the calls that change a pool
  does_few : (call : Option Tree → Outcome) → outcome_told (call none) ≡ refusal 1
      → ((t : Tree) → LookedLast (looked_t t key) (outcome_told (call (some t)))) → (told : Told) (is : Lent)
      → Does (call (tree_in was)) told was is → LooksFew key told
  does_few call none_is of told is d =
      looks_few (λ o. outcome_told (call o)) none_is of told (does_tell (call (tree_in was)) told was is d)

  pub insert_looks : (number : ℕ) (r : Answer Inserted) (is : Lent) → InsertAllows key number r was is
      → LooksFew key (inserted_told r)
  unfolding insert_call
  insert_looks number r =
      let slots = room_in was in
      does_few (λ o. insert_call o slots key number) refl (λ t. insert-last t key slots number) (inserted_told r)

  pub remove_looks : (r : Answer Got) (is : Lent) → RemoveAllows key r was is → LooksFew key (got_told r)
  unfolding remove_call
  remove_looks r = does_few (λ o. remove_call o key) refl (λ t. remove-last t key) (got_told r)
