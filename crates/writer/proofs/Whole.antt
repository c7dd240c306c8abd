-- The root's record and the runs below it put the image of a pool's tree. Assumes nothing.
use mathlib.Core.Path.{◌≡◌, ap}
use mathlib.Core.List.{List}
use mathlib.Core.Bool.{false}
use Prim.Native.Nat.{ℕ, ◌+◌, ◌≤◌}
use native.Mathlib.Omega.{arith}
use lib.ListN.{length, length-append}
use Rattle.tree.specs.Key.{Bytes}
use Rattle.tree.specs.Tree.{Tree, nodes_f}
use Rattle.tree.specs.Image.{image_f, image_t}
use Rattle.slots.specs.Layout.{nodes_of}
use Rattle.slots.specs.Records.{root_rec}
use Rattle.pool.specs.Rule.{Within}
use Rattle.pool.proofs.Stands.{Holds, nodes_are, stands_recs}
use Rattle.pool.proofs.Held.{SlotIs, slot-is_rec, tree-holds}
use Rattle.writer.specs.Parts.{record_at}
use Rattle.writer.specs.Runs.{Run, Room, Put, RecordRoom, TreeRoom, RunPut, TreePut}
use Rattle.writer.proofs.Lists.{put-more, put_as, put-length}
use Rattle.writer.proofs.Flags.{root_record}

-- The children of a pool's root
root-run : (ws bs : List ℕ) (t : Tree) (n : ℕ) → Holds ws bs t → n ≡ nodes_of ws → Run ws bs 1 n 1 t.kids
root-run ws bs t n h e =
    record {
      path = 0;
      recs = stands_recs ws bs 0 t.kids 1 h.kids;
      ends = omega (arith, h.nodes, nodes_are t);
      wf = h.wf;
      shallow = omega arith;
    }

-- the slots in use lie within the buffers
pub all_within : (ws bs : List ℕ) (t : Tree) (n : ℕ) → Holds ws bs t → n ≤ nodes_of ws → Within ws bs n
all_within ws bs t n h i =
    let s = h.slots in
    record { words = omega (arith, h.lengths.words, h.room, h.nodes); labels = omega (arith, h.lengths.labels, h.room, h.nodes) }

image-size : (t : Tree) → length (image_t t) ≡ 4 + length (image_f 1 t.kids)
unfolding image_t
image-size t = omega arith

module _ {ws bs out : List ℕ} (by : Bytes bs) (room : TreeRoom ws bs out) where
  holds : Holds ws bs room.tree
  holds = tree-holds ws bs by room.tree room.holds

  pub words-there : 1 ≤ length ws
  words-there = omega (arith, holds.lengths.words)

  root : SlotIs ws bs 0 (root_rec room.tree.num (nodes_f room.tree.kids))
  root = slot-is_rec ws bs 0 (root_rec room.tree.num (nodes_f room.tree.kids)) holds.root

  pub root-room : RecordRoom ws bs 0 0 out 0
  root-room =
      record {
        within = record { words = omega (arith, holds.lengths.words, holds.lengths.least); labels = omega (arith, holds.lengths.labels, holds.lengths.least) };
        short = omega (arith, root.len);
        shallow = omega arith;
        fits = omega (arith, root.len, room.fits, image-size room.tree);
      }

  module _ {n : ℕ} (en : n ≡ nodes_of ws) {out₁ : List ℕ} {next : ℕ} (p : Put (record_at ws bs 0 0 false) out 0 out₁ next) where
    pub kids-room : Room ws bs 1 n 1 out₁ next
    kids-room =
        let l = simp length-append at (ap length (root_record ws bs room.tree holds)) in
        record {
          within = all_within ws bs room.tree n holds (omega arith);
          forest = room.tree.kids;
          run = root-run ws bs room.tree n holds en;
          fits = omega (arith, room.fits, put-length p, p.behind);
        }

    pub tree-put : {out₂ : List ℕ} {r : ℕ} → RunPut ws bs 1 n 1 out₁ next out₂ r → TreePut ws bs out out₂
    tree-put k t e =
        let h = tree-holds ws bs by t e in
        (put_as (root_record ws bs t h) (put-more p (k t.kids (root-run ws bs t n h en)))).bytes
