-- Past 255 bytes order does leave a trace: a key of 256 bytes and its first 10 bytes, in both orders, by computation.
-- Assumes nothing.
use mathlib.Core.Path.{◌≡◌, refl, sym, ap, ◌∙◌}
use mathlib.Core.List.{List, [], ◌∷◌}
use mathlib.Core.Option.{some, map}
use Prim.Native.Nat.{ℕ}
use native.Mathlib.Omega.{arith}
use lib.ListN.{length}
use Rattle.tree.specs.Key.{part, push, strip, pick}
use Rattle.tree.specs.Tree.{Tree, empty, room, labelled, own, pairs_f, pairs_t}
use Rattle.tree.specs.Search.{looks_f, looks_t, get_in, get_t}
use Rattle.tree.specs.Insert.{chain, leaf, beside, insert_f, insert_t}
use Rattle.tree.specs.Remove.{joins, settle, erase_f, erase_t, if_stored, remove_t}
use Rattle.tree.specs.Image.{flags_w, flags_f, flags, image_f, image_t}
use Rattle.tree.proofs.Find.{find_t}
use Rattle.tree.proofs.InsertFind.{insert_t_sem}
use Rattle.tree.proofs.MapOps.{upd_swap}
use Rattle.order.specs.Built.{Built}
use Rattle.order.specs.Past.{far, near, far_then_near, near_then_far, labels_f, labels_t}
use Rattle.order.proofs.Trace.{no_trace_pairs}

-- A tree that holds both keys: how many bytes its image has and how long its labels are, also once the short key is
-- taken out
pub record Shape (t : Tree) (image : ℕ) (labels out : List ℕ) : Type 0 where
  pub pairs : pairs_t t ≡ (near, 2) ∷ (far, 1) ∷ []
  pub size : length (image_t t) ≡ image
  pub lengths : labels_t t ≡ labels
  pub pairs_out : map pairs_t (remove_t t near) ≡ some ((far, 1) ∷ [])
  pub lengths_out : map labels_t (remove_t t near) ≡ some out

pub record Past : Type 0 where
  pub one : Shape far_then_near 272 (10 ∷ 245 ∷ 1 ∷ []) (255 ∷ 1 ∷ [])
  pub other : Shape near_then_far 268 (10 ∷ 246 ∷ []) (10 ∷ 246 ∷ [])

pub past : Past
unfolding far near far_then_near near_then_far labels_f labels_t part push strip pick empty room labelled own pairs_f pairs_t looks_f looks_t get_in get_t chain leaf beside insert_f insert_t joins settle erase_f erase_t if_stored remove_t flags_w flags_f flags image_f image_t
past =
    record {
      one = record { pairs = refl; size = refl; lengths = refl; pairs_out = refl; lengths_out = refl };
      other = record { pairs = refl; size = refl; lengths = refl; pairs_out = refl; lengths_out = refl };
    }

-- Both hold the same, and every key finds the same.
pub same_pairs : pairs_t far_then_near ≡ pairs_t near_then_far
same_pairs = past.one.pairs ∙ sym past.other.pairs

pub same_find : find_t far_then_near ≡ find_t near_then_far
unfolding far_then_near near_then_far
same_find =
    cc (
      insert_t_sem (insert_t empty far 1) near 2,
      insert_t_sem empty far 1,
      insert_t_sem (insert_t empty near 2) far 1,
      insert_t_sem empty near 2,
      upd_swap near (some 2) far (some 1) (find_t empty) near-far,
    )
  where
    near-far : ¬ (near ≡ far)
    near-far e = let n : ◌≡◌ {A = ℕ} 10 256 = unfold near far in ap length e in omega arith

-- But their images differ; so the trees do, and cannot both have been built from keys of at most 255 bytes.
pub images_differ : ¬ (image_t far_then_near ≡ image_t near_then_far)
images_differ e = omega (arith, ap length e, past.one.size, past.other.size)

pub trees_differ : ¬ (far_then_near ≡ near_then_far)
trees_differ e = images_differ (ap image_t e)

pub not_both_built : Built far_then_near → ¬ (Built near_then_far)
not_both_built h i = trees_differ (no_trace_pairs h i same_pairs)
