-- What reading answers and leaves, from what its parts said. Assumes nothing.
use mathlib.Core.Path.{◌≡◌, refl}
use mathlib.Core.List.{List}
use mathlib.Core.Option.{none, some}
use Prim.Native.Nat.{ℕ}
use Rattle.tree.specs.Told.{Told, refusal}
use Rattle.tree.specs.Reader.{Verdict, refused_with, ok, read_t}
use Rattle.tree.specs.Calls.{read_told, read_call}
use Rattle.tree.proofs.Judge.{never}
use Rattle.pool.specs.Pool.{slots_of}
use Rattle.pool.specs.Post.{Meets}
use Rattle.reader.specs.Check.{refuses, holds, verdict_count}
use Rattle.reader.specs.Fill.{FillDue}

module _ (s ns ws bs : List ℕ) where
  pub not_pool : slots_of ws bs ≡ none → Meets (read_call (slots_of ws bs) s ns) (refusal 1) ws bs ws bs
  unfolding read_call
  not_pool e = rw e (record { said = refl; words = refl; labels = refl })

  module _ (slots : ℕ) (e : slots_of ws bs ≡ some slots) where
    pub not_image : (x : Told) → refuses x ≡ verdict_count (read_t s ns slots) → Meets (read_call (slots_of ws bs) s ns) x ws bs ws bs
    unfolding read_call read_told verdict_count
    not_image x c = by (read_t s ns slots) refl c
      where
        by : (v : Verdict) → read_t s ns slots ≡ v → refuses x ≡ verdict_count v → Meets (read_call (slots_of ws bs) s ns) x ws bs ws bs
        by (refused_with y) r c = rw (e, read_call, r) (record { said = cc; words = refl; labels = refl })
        by (ok t) r c = never (cc)

    pub fill_due : (nodes : ℕ) → holds nodes ≡ verdict_count (read_t s ns slots) → FillDue s ns ws bs
    unfolding verdict_count
    fill_due nodes c = by (read_t s ns slots) refl c
      where
        by : (v : Verdict) → read_t s ns slots ≡ v → holds nodes ≡ verdict_count v → FillDue s ns ws bs
        by (refused_with y) r c = never (cc)
        by (ok t) r c = record { slots = slots; tree = t; sized = e; accepted = r }
