-- The whole tree: what the fill of the records is asked, and what they are with their count and their spans. Assumes nothing.
use mathlib.Core.Path.{◌≡◌, refl, ◌∙◌, subst}
use mathlib.Core.List.{List, []}
use Prim.Native.Nat.{ℕ, ◌+◌, ◌≤◌}
use native.Mathlib.Omega.{arith}
use lib.ListN.{length}
use Rattle.tree.specs.Key.{Bytes}
use Rattle.tree.specs.Tree.{nodes_t}
use Rattle.tree.specs.Told.{done}
use Rattle.tree.specs.Calls.{read_told, read_call}
use Rattle.tree.proofs.Loader.{Loads, read_accepts}
use Rattle.pool.specs.Pool.{slots_of}
use Rattle.pool.specs.Rule.{Lengths}
use Rattle.slots.specs.Bare.{bare_at, bares_from, bares_t}
use Rattle.splice.specs.Splice.{Linked, Settled}
use Rattle.pool.specs.Post.{Meets, Leaves}
use Rattle.pool.proofs.Decode.{lengths-right, lengths_stay, slots_stay}
use Rattle.slots.proofs.Runs.{run_ext}
use Rattle.splice.proofs.Bares.{Whole, whole-tree}
use Rattle.reader.specs.Fill.{ImageOf, RecordsDue, Bared, Recorded, FillDue}
use Rattle.slots.specs.Layout.{words_for}

module _ {s ns ws bs : List ℕ} (by : Bytes s) (d : FillDue s ns ws bs) where
  loads : Loads s ns d.slots d.tree
  loads = read_accepts s by ns d.slots d.tree d.accepted

  lengths : Lengths ws bs d.slots
  lengths = lengths-right ws bs d.slots d.sized

  known : ImageOf s ns d.tree
  known = record { image = loads.image; numbers = loads.numbers; wf = loads.wf }

  pub records_due : RecordsDue s ns ws bs
  records_due =
      let l = lengths in
      let f = loads.fits in
      record { tree = d.tree; known = known; room = omega arith }

  module _ {vs cs : List ℕ} {n : ℕ} (r : Recorded s ns ws bs vs cs n) where
    bared : Bared vs cs n d.tree
    bared = r.filled d.tree known

    pub settle-due : (words_for n ≤ length vs) × (n ≤ 16384)
    settle-due = omega (arith, bared.count, loads.fits, lengths, r.words)

    module _ {us : List ℕ} (e : Settled vs us n) where
      all : bares_from us cs 0 (nodes_t d.tree) ≡ bares_t d.tree
      all =
          run_ext (bare_at us cs) (bare_at vs cs) 0 0 (nodes_t d.tree) (λ i l. e.bares cs (0 + i))
          ∙ subst (λ (m : ℕ). bares_from vs cs 0 m ≡ bares_t d.tree) bared.count bared.bares

      pub filled : Meets (read_call (slots_of ws bs) s ns) (done []) ws bs us cs
      unfolding read_call read_told
      filled =
          let whole : Whole us cs d.tree d.slots =
          record {
            lengths = lengths_stay ws bs us cs d.slots (e.len ∙ r.words) r.labels lengths;
            nodes = e.nodes ∙ bared.count;
            room = loads.fits;
            bares = all;
            links = subst (λ (m : ℕ). Linked us 0 m) bared.count e.spans;
            wf = loads.wf;
          } in
          let l : Leaves (done []) [] d.tree ws bs us cs =
          record {
            said = refl;
            tree = whole-tree us cs d.tree d.slots whole;
            slots = slots_stay ws bs us cs d.slots (e.len ∙ r.words) r.labels lengths;
          } in
          rw (d.sized, read_call, d.accepted) l
