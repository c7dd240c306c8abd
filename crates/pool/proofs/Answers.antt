-- What make, clear and counts answer and leave, from what their tests said. Assumes nothing.
use mathlib.Core.Path.{◌≡◌, refl, ap}
use mathlib.Core.List.{List, [], ◌∷◌}
use mathlib.Core.Option.{Option, none, some}
use Prim.Native.Nat.{ℕ, suc}
use native.Mathlib.Omega.{arith}
use lib.ListN.{get_or}
use mir.Syntax.{w8}
use mir.Val.{Fits}
use Rattle.tree.specs.Key.{Bytes}
use Rattle.tree.specs.Tree.{Tree}
use Rattle.tree.specs.Remove.{clear_t}
use Rattle.tree.specs.Told.{done, refusal}
use Rattle.tree.specs.Calls.{make_call, clear_call, counts_call}
use Rattle.slots.specs.Layout.{nodes_of}
use Rattle.pool.specs.Pool.{pool_tree, slots_of}
use Rattle.pool.specs.Rule.{PoolRule}
use Rattle.pool.specs.Post.{Meets}
use Rattle.pool.specs.Fields.{has_sum, emptied}
use Rattle.pool.proofs.Decode.{lengths-right}
use Rattle.pool.proofs.Ruled.{rule-tree, tree-rule}
use Rattle.pool.proofs.Held.{tree-holds}
use Rattle.pool.proofs.Sums.{sum_keys, emptied-tree, emptied-slots}

-- The bytes of a lent slice are below 256.
pub bytes_of : (bs : List ℕ) → ((i : ℕ) → Fits w8 (get_or bs i 0)) → Bytes bs
bytes_of [] h = tt
bytes_of (x ∷ bs) h = (omega (arith, h 0), bytes_of bs (λ i. h (suc i)))

-- Where the rule fails there is no tree.
pub no-rule : (ws bs : List ℕ) → (PoolRule ws bs → ⊥) → pool_tree ws bs ≡ none
no-rule ws bs h = go (pool_tree ws bs) refl
  where
    go : (o : Option Tree) → pool_tree ws bs ≡ o → pool_tree ws bs ≡ none
    go none e = e
    go (some t) e = absurd (h (tree-rule ws bs t e))

module _ (ws bs : List ℕ) where
  pub make_refused : slots_of ws bs ≡ none → Meets (make_call (slots_of ws bs)) (refusal 1) ws bs ws bs
  unfolding make_call
  make_refused e = rw e (record { said = refl; words = refl; labels = refl })

  pub make_done : (slots : ℕ) (vs : List ℕ) → slots_of ws bs ≡ some slots → vs ≡ emptied ws → Meets (make_call (slots_of ws bs)) (done []) ws bs vs bs
  unfolding make_call
  make_done slots vs e i =
      let l = lengths-right ws bs slots e in
      rw (e, i)
      (record { said = refl; tree = emptied-tree ws bs slots l; slots = emptied-slots ws bs slots l })

  pub clear_refused : (PoolRule ws bs → ⊥) → Meets (clear_call (pool_tree ws bs)) (refusal 1) ws bs ws bs
  unfolding clear_call
  clear_refused h = rw (no-rule ws bs h) (record { said = refl; words = refl; labels = refl })

  pub clear_done : (vs : List ℕ) → PoolRule ws bs → vs ≡ emptied ws → Meets (clear_call (pool_tree ws bs)) (done []) ws bs vs bs
  unfolding clear_call clear_t
  clear_done vs r i =
      let t = rule-tree ws bs r in
      rw (t.1, i)
      (record { said = refl; tree = emptied-tree ws bs r.slots r.lengths; slots = emptied-slots ws bs r.slots r.lengths })

  pub counts_refused : (PoolRule ws bs → ⊥) → refusal 1 ≡ counts_call (pool_tree ws bs)
  unfolding counts_call
  counts_refused h = rw (no-rule ws bs h)

  pub counts_done : PoolRule ws bs → Bytes bs → (keys nodes : ℕ) → keys ≡ has_sum ws nodes → nodes ≡ nodes_of ws
      → done (keys ∷ nodes ∷ []) ≡ counts_call (pool_tree ws bs)
  unfolding counts_call
  counts_done r by keys nodes ek en =
      let t = rule-tree ws bs r in
      let h = tree-holds ws bs by t.0 t.1 in
      rw t.1 (ap (λ (l : List ℕ). done l) (cc (ek, en, sum_keys ws bs t.0 h, h.nodes)))
