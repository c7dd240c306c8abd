-- What the writer tells and leaves, from what its tests said. Assumes nothing.
use mathlib.Core.Path.{◌≡◌, refl, ap, ◌∙◌}
use mathlib.Core.List.{List, [], ◌∷◌}
use mathlib.Core.Bool.{Bool, true, false}
use mathlib.Core.Option.{some}
use Prim.Native.Nat.{ℕ, suc, ◌≤◌, ◌<◌}
use native.Mathlib.Omega.{arith}
use lib.ListN.{length}
use lib.Seq.{sets}
use lib.Dec.{leb}
use borrow.Author.Tests.{le-leb, lt-leb}
use Rattle.tree.specs.Key.{Bytes}
use Rattle.tree.specs.Tree.{Tree}
use Rattle.tree.specs.Image.{image_t, numbers_t}
use Rattle.tree.specs.Told.{done, refusal}
use Rattle.tree.specs.Calls.{both, write_call}
use Rattle.slots.specs.Layout.{nodes_of}
use Rattle.pool.specs.Pool.{pool_tree}
use Rattle.pool.specs.Rule.{PoolRule}
use Rattle.pool.specs.Fields.{has_sum}
use Rattle.pool.proofs.Ruled.{rule-tree}
use Rattle.pool.proofs.Stands.{Holds}
use Rattle.pool.proofs.Held.{tree-holds}
use Rattle.pool.proofs.Answers.{no-rule}
use Rattle.writer.specs.Post.{after, Writes}
use Rattle.writer.specs.Parts.{record_sum, numbers_in}
use Rattle.writer.specs.Runs.{TreeRoom, TreePut}
use Rattle.writer.proofs.Lists.{front-put}
use Rattle.writer.proofs.Totals.{image_sum, number_sum, numbers_are}

-- The call's answer by its tests
both_first : (x y : Bool) → x ≡ false → both x y ≡ false
unfolding both
both_first true y e = cc
both_first false y e = refl

both-second : (x y : Bool) → x ≡ true → both x y ≡ y
unfolding both
both-second true y e = refl
both-second false y e = cc

module _ (t : Tree) (room spare : ℕ) where
  abbrev lengths : List ℕ
  lengths = length (image_t t) ∷ length (numbers_t t) ∷ []

  answer-short : both (leb (length (image_t t)) room) (leb (length (numbers_t t)) spare) ≡ false
      → record { number = 5; values = lengths } ≡ write_call (some t) room spare
  unfolding write_call
  answer-short e = rw (e, write_call)

  answer-done : length (image_t t) ≤ room → length (numbers_t t) ≤ spare → done lengths ≡ write_call (some t) room spare
  unfolding write_call
  answer-done i j =
      let e = both-second (leb (length (image_t t)) room) (leb (length (numbers_t t)) spare) (le-leb (length (image_t t)) room i) in
      rw (e ∙ le-leb (length (numbers_t t)) spare j, write_call)

-- No pool: nothing is written.
pub write_refused : (ws bs tree numbers : List ℕ) → (PoolRule ws bs → ⊥) → Writes (pool_tree ws bs) (refusal 1) tree numbers tree numbers
unfolding write_call after
write_refused ws bs tree numbers h = rw (no-rule ws bs h) (record { said = refl; bytes = refl; nums = refl })

-- A pool of n nodes that holds a tree
pub record Known (ws bs : List ℕ) (n : ℕ) : Type 0 where
  pub tree : Tree
  pub is : pool_tree ws bs ≡ some tree
  pub holds : Holds ws bs tree
  pub nodes : n ≡ nodes_of ws

pub known : {ws bs : List ℕ} {n : ℕ} → PoolRule ws bs → Bytes bs → n ≡ nodes_of ws → Known ws bs n
known {ws} {bs} {n} r by e =
    let t = rule-tree ws bs r in
    record { tree = t.0; is = t.1; holds = tree-holds ws bs by t.0 t.1; nodes = e }

module _ {ws bs : List ℕ} {n : ℕ} (k : Known ws bs n) where
  bytes_are : {bytes : ℕ} → bytes ≡ record_sum ws n → bytes ≡ length (image_t k.tree)
  bytes_are e = e ∙ ap (record_sum ws) k.nodes ∙ image_sum ws bs k.tree k.holds

  keys_are : {keys : ℕ} → keys ≡ has_sum ws n → keys ≡ length (numbers_t k.tree)
  keys_are e = e ∙ ap (has_sum ws) k.nodes ∙ number_sum ws bs k.tree k.holds

  all_numbers : numbers_in ws n ≡ numbers_t k.tree
  all_numbers = ap (numbers_in ws) k.nodes ∙ numbers_are ws bs k.tree k.holds

  pub tree-room : (tree : List ℕ) {bytes : ℕ} → bytes ≡ record_sum ws n → bytes ≤ length tree → TreeRoom ws bs tree
  tree-room tree e h = record { tree = k.tree; holds = k.is; fits = omega (arith, bytes_are e) }

  pub numbers-counted : length (numbers_in ws n) ≡ has_sum ws n
  numbers-counted = omega (arith, keys_are refl, ap length all_numbers)

  -- a refusal leaves both outputs
  stays : (tree numbers : List ℕ) (m : ℕ) (vs : List ℕ) → record { number = suc m; values = vs } ≡ write_call (some k.tree) (length tree) (length numbers)
      → Writes (pool_tree ws bs) (record { number = suc m; values = vs }) tree numbers tree numbers
  unfolding after
  stays tree numbers m vs e = rw k.is (record { said = e; bytes = refl; nums = refl })

  module _ (tree numbers : List ℕ) {bytes keys : ℕ} (eb : bytes ≡ record_sum ws n) (ek : keys ≡ has_sum ws n) where
    told_lengths : bytes ∷ keys ∷ [] ≡ lengths k.tree (length tree) (length numbers)
    told_lengths = rw (bytes_are eb, keys_are ek)

    short : both (leb (length (image_t k.tree)) (length tree)) (leb (length (numbers_t k.tree)) (length numbers)) ≡ false
        → Writes (pool_tree ws bs) (record { number = 5; values = bytes ∷ keys ∷ [] }) tree numbers tree numbers
    short e = rw told_lengths (stays tree numbers 4 _ (answer-short k.tree (length tree) (length numbers) e))

    -- An output that is too short, the first or the second
    pub write_short_tree : length tree < bytes → Writes (pool_tree ws bs) (record { number = 5; values = bytes ∷ keys ∷ [] }) tree numbers tree numbers
    write_short_tree h =
        let i : length tree < length (image_t k.tree) = omega (arith, bytes_are eb) in
        short (both_first _ _ (lt-leb _ _ i))

    pub write_short_numbers : bytes ≤ length tree → length numbers < keys → Writes (pool_tree ws bs) (record { number = 5; values = bytes ∷ keys ∷ [] }) tree numbers tree numbers
    write_short_numbers h i =
        let b : length (image_t k.tree) ≤ length tree = omega (arith, bytes_are eb) in
        let j : length numbers < length (numbers_t k.tree) = omega (arith, keys_are ek) in
        short (both-second _ _ (le-leb _ _ b) ∙ lt-leb _ _ j)

    -- Both are written.
    pub write_done : bytes ≤ length tree → keys ≤ length numbers → {tree' numbers' : List ℕ} → TreePut ws bs tree tree'
        → numbers' ≡ sets numbers 0 (numbers_in ws n) → Writes (pool_tree ws bs) (done (bytes ∷ keys ∷ [])) tree numbers tree' numbers'
    unfolding after
    write_done h i {tree'} {numbers'} p q =
        let u = k.tree in
        let b : length (image_t u) ≤ length tree = omega (arith, bytes_are eb) in
        let j : length (numbers_t u) ≤ length numbers = omega (arith, keys_are ek) in
        let m : numbers' ≡ sets numbers 0 (numbers_t u) = q ∙ ap (sets numbers 0) all_numbers in
        rw (k.is, told_lengths)
        (record {
          said = answer-done u (length tree) (length numbers) b j;
          bytes = p u k.is ∙ front-put (image_t u) tree b;
          nums = m ∙ front-put (numbers_t u) numbers j;
        })
