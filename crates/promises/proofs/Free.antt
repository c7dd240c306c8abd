-- No answer depends on what docs/POOL.md calls free: pools that agree in the rest get the same answers, and the same trees and
-- outputs are left. Of a pool that is made, read into or split into only its size counts. Assumes nothing.
use Rattle.std.specs.Prelude.{⊤}
use mathlib.Core.Path.{◌≡◌, refl, sym, ap, ◌∙◌}
use mathlib.Core.List.{List}
use mathlib.Core.Option.{Option, none, some}
use Prim.Native.Nat.{ℕ}
use native.Mathlib.Omega.{arith}
use Rattle.tree.specs.Key.{Key, Bytes}
use Rattle.tree.specs.Tree.{Tree}
use Rattle.tree.specs.Told.{Answer, Told, bare_told, inserted_told, got_told}
use Rattle.tree.specs.Calls.{Outcome, refuses, leaves, SplitOutcome, refuses_both, leaves_both, make_call, clear_call, counts_call, get_call, longest_call, shared_call, insert_call, remove_call, split_call, read_call}
use Rattle.tree.specs.declared.Counted.{Counted}
use Rattle.tree.specs.declared.Got.{Got}
use Rattle.tree.specs.declared.Prefixed.{Prefixed}
use Rattle.tree.specs.declared.Sharing.{Sharing}
use Rattle.tree.specs.declared.Inserted.{Inserted}
use Rattle.tree.specs.declared.Written.{Written}
use Rattle.tree.proofs.OneAnswer.{bare_one, counted_one, got_one, prefixed_one, sharing_one, inserted_one}
use Rattle.tree.proofs.Refusals.{Honest, HonestBoth, make_honest, split_honest, read_honest}
use Rattle.pool.specs.Lent.{Lent, tree_in, size_in, room_in}
use Rattle.pool.specs.Free.{SameSlots}
use Rattle.pool.specs.Post.{Does, MakeAllows, ClearAllows, CountsAllows}
use Rattle.pool.proofs.Decode.{lengths-right, treed}
use Rattle.pool.proofs.Free.{same-tree, outcome_alike}
use Rattle.search.specs.Post.{GetAllows, LongestAllows, SharedAllows}
use Rattle.insert.specs.Post.{InsertAllows}
use Rattle.remove.specs.Post.{RemoveAllows}
use Rattle.split.specs.Post.{DoesBoth, SplitAllows}
use Rattle.reader.specs.Post.{ReadAllows}
use Rattle.writer.specs.Post.{WriteAllows}
use Rattle.writer.proofs.Decided.{Determined, write_determined}
use Rattle.walk.specs.declared.Walk.{Walk}
use Rattle.walk.specs.declared.Step.{Step}
use Rattle.walk.specs.Walks.{StepAllows}
use Rattle.walk.proofs.Decided.{Same, step_determined}
use Rattle.promises.specs.Pools.{Accepted}

-- Pools of one size have as many slots.
same-room : (l m : Lent) (t : Tree) → tree_in l ≡ some t → size_in l ≡ size_in m → room_in l ≡ room_in m
same-room l m t e size =
    let x = treed l.words l.labels t e in
    let y = lengths-right m.words m.labels x.slots (sym size ∙ x.slots_are) in
    omega (arith, x.lengths.labels, y.labels)

-- The answer is one, and so is the tree left in as many slots.
pub record SameDone {A : Type 0} (a b : A) (is is' : Lent) : Type 0 where
  pub answer : a ≡ b
  pub tree : tree_in is ≡ tree_in is'
  pub size : size_in is ≡ size_in is'

module _ (l m : Lent) (by : Bytes l.labels) (by' : Bytes m.labels) (h : SameSlots l m) where
  tree_is : tree_in l ≡ tree_in m
  tree_is = same-tree by by' h

  -- The calls that change nothing
  pub counts_free : (a b : Answer Counted) → CountsAllows a l → CountsAllows b m → a ≡ b
  counts_free a b p q = counted_one a b (p ∙ ap counts_call tree_is ∙ sym q)

  module _ (key : Key) where
    pub get_free : (a b : Answer Got) → GetAllows key a l → GetAllows key b m → a ≡ b
    get_free a b p q = got_one a b (p ∙ ap (λ (o : Option Tree). get_call o key) tree_is ∙ sym q)

    pub longest_free : (a b : Answer Prefixed) → LongestAllows key a l → LongestAllows key b m → a ≡ b
    longest_free a b p q = prefixed_one a b (p ∙ ap (λ (o : Option Tree). longest_call o key) tree_is ∙ sym q)

    pub shared_free : (a b : Answer Sharing) → SharedAllows key a l → SharedAllows key b m → a ≡ b
    shared_free a b p q = sharing_one a b (p ∙ ap (λ (o : Option Tree). shared_call o key) tree_is ∙ sym q)

  pub step_free : (w : Walk) (r s : Step) (out a b : List ℕ) → StepAllows w r l out a → StepAllows w s m out b → Same r s a b
  step_free w r s out a b p q = step_determined p (rw tree_is q)

  pub write_free : (r s : Answer Written) {tree numbers a b c d : List ℕ} → WriteAllows r l tree numbers a b → WriteAllows s m tree numbers c d → Determined r s a b c d
  write_free r s p q = write_determined l r s p (rw tree_is q)

  -- The calls that change a pool
  module _ (is is' : Lent) where
    done_alike : {A : Type 0} (told : A → Told) → ((a b : A) → told a ≡ told b → a ≡ b) → (o : Outcome) (a b : A) → Does o (told a) l is → Does o (told b) m is' → SameDone a b is is'
    done_alike told one o a b p q =
        let e = outcome_alike l m is is' (told a) (told b) o tree_is h.size p q in
        record { answer = one a b e.told; tree = e.tree; size = e.size }

    pub clear_free : (a b : Answer ⊤) → ClearAllows a l is → ClearAllows b m is' → SameDone a b is is'
    clear_free a b p q = done_alike bare_told bare_one (clear_call (tree_in l)) a b p (rw tree_is q)

    pub remove_free : (key : Key) (a b : Answer Got) → RemoveAllows key a l is → RemoveAllows key b m is' → SameDone a b is is'
    remove_free key a b p q = done_alike got_told got_one (remove_call (tree_in l) key) a b p (rw tree_is q)

    -- Insert also goes by the number of slots, where there is a tree.
    pub insert_free : (key : Key) (number : ℕ) (a b : Answer Inserted) → InsertAllows key number a l is → InsertAllows key number b m is' → SameDone a b is is'
    unfolding insert_call
    insert_free key number a b p q = go (tree_in l) refl
      where
        go : (o : Option Tree) → tree_in l ≡ o → SameDone a b is is'
        go none e =
            let e' : tree_in m ≡ none = sym tree_is ∙ e in
            done_alike inserted_told inserted_one (insert_call none (room_in l) key number) a b (rw e at p) (rw e' at q)
        go (some t) e =
            let room : room_in l ≡ room_in m = same-room l m t e h.size in
            done_alike inserted_told inserted_one (insert_call (tree_in l) (room_in l) key number) a b p (rw (tree_is, room) q)

-- A pool that is made or read into: what it held does not count.
pub record SameFresh {A : Type 0} (told : A → Told) (a b : A) (is is' : Lent) : Type 0 where
  pub answer : a ≡ b
  pub tree : Accepted (told a) → tree_in is ≡ tree_in is'

module _ (l m is is' : Lent) (size : size_in l ≡ size_in m) where
  fresh_alike : {A : Type 0} (told : A → Told) → ((a b : A) → told a ≡ told b → a ≡ b) → (o : Outcome) → Honest o → (a b : A) → Does o (told a) l is → Does o (told b) m is'
      → SameFresh told a b is is'
  fresh_alike told one (refuses x) h a b p q =
      record { answer = one a b (p.said ∙ sym q.said); tree = λ e. absurd (h (ap (λ (z : Told). z.number) (sym p.said) ∙ e)) }
  fresh_alike told one (leaves vs t) h a b p q = record { answer = one a b (p.said ∙ sym q.said); tree = λ e. p.tree ∙ sym q.tree }

  pub make_free : (a b : Answer ⊤) → MakeAllows a l is → MakeAllows b m is' → SameFresh bare_told a b is is'
  make_free a b p q = fresh_alike bare_told bare_one (make_call (size_in l)) (make_honest (size_in l)) a b p (rw size q)

  pub read_free : (s ns : List ℕ) (a b : Answer ⊤) → ReadAllows s ns a l is → ReadAllows s ns b m is' → SameFresh bare_told a b is is'
  read_free s ns a b p q = fresh_alike bare_told bare_one (read_call (size_in l) s ns) (read_honest (size_in l) s ns) a b p (rw size q)

-- Split: the first pool by its tree, the second by its size
pub record SameHalves (a b : Answer ⊤) (is is₂ is' is₂' : Lent) : Type 0 where
  pub answer : a ≡ b
  pub left : tree_in is ≡ tree_in is'
  pub detached : Accepted (bare_told a) → tree_in is₂ ≡ tree_in is₂'

module _ (l m : Lent) (by : Bytes l.labels) (by' : Bytes m.labels) (h : SameSlots l m) (l₂ m₂ : Lent) (size : size_in l₂ ≡ size_in m₂) where
  halves_alike : (is is₂ is' is₂' : Lent) (o : SplitOutcome) → HonestBoth o → (a b : Answer ⊤) → DoesBoth o (bare_told a) l l₂ is is₂ → DoesBoth o (bare_told b) m m₂ is' is₂'
      → SameHalves a b is is₂ is' is₂'
  halves_alike is is₂ is' is₂' (refuses_both x) i a b p q =
      let same = same-tree by by' h in
      record {
        answer = bare_one a b (p.said ∙ sym q.said);
        left = cc (p.words, p.labels, q.words, q.labels);
        detached = λ e. absurd (i (ap (λ (z : Told). z.number) (sym p.said) ∙ e));
      }
  halves_alike is is₂ is' is₂' (leaves_both d u) i a b p q =
      record { answer = bare_one a b (p.said ∙ sym q.said); left = p.tree ∙ sym q.tree; detached = λ e. p.tree₂ ∙ sym q.tree₂ }

  pub split_free : (is is₂ is' is₂' : Lent) (prefix : Key) (a b : Answer ⊤) → SplitAllows prefix a l l₂ is is₂ → SplitAllows prefix b m m₂ is' is₂' → SameHalves a b is is₂ is' is₂'
  split_free is is₂ is' is₂' prefix a b p q =
      halves_alike is is₂ is' is₂' (split_call (tree_in l) (size_in l₂) prefix) (split_honest (tree_in l) (size_in l₂) prefix) a b p (rw (same-tree by by' h, size) q)
