-- Four bytes and a label put a slot's record. Assumes nothing.
use mathlib.Core.Path.{◌≡◌, sym, ◌∙◌}
use mathlib.Core.List.{List, [], ◌∷◌, ◌++◌}
use mathlib.Core.Bool.{Bool}
use Prim.Native.Nat.{ℕ, ◌+◌, ◌-◌, ◌/◌, ◌%◌}
use native.Mathlib.Omega.{arith}
use lib.ListN.{length, set}
use lib.Dec.{ltb}
use borrow.Rule.Slice.PartMut.{put_mid}
use Rattle.flags.specs.Flags.{flag_byte}
use Rattle.slots.specs.Layout.{len_of, has_of, span_of, label_of}
use Rattle.slots.proofs.Cuts.{label-length}
use Rattle.writer.specs.Parts.{record_at}
use Rattle.writer.specs.Runs.{Put, RecordRoom}
use Rattle.writer.proofs.Lists.{put-more, put_as, put-length, part-put, four_put}

-- the label as long as the record says
pub label-fits : {ws bs : List ℕ} {c level : ℕ} {out : List ℕ} {i : ℕ} → RecordRoom ws bs c level out i → {n : ℕ} → n ≡ len_of ws c
    → length (label_of ws bs c) ≡ n
label-fits {ws} {bs} {c} room e = label-length ws bs c room.short (omega (arith, room.within.labels)) ∙ sym e

-- an output after the four stores
abbrev four : (out : List ℕ) (i f n level : ℕ) → List ℕ
four out i f n level = set (set (set (set out i f) (i + 1) n) (i + 2) (level / 256)) (i + 3) (level % 256)

module _ {ws bs : List ℕ} {c level : ℕ} {out : List ℕ} {i : ℕ} (room : RecordRoom ws bs c level out i)
    {f n has span : ℕ} (sibling : Bool) (ef : f ≡ flag_byte (ltb 0 has) (ltb 1 span) sibling) (en : n ≡ len_of ws c) (eh : has ≡ has_of ws c) (es : span ≡ span_of ws c) where
  whole : (f ∷ n ∷ (level / 256) ∷ (level % 256) ∷ []) ++ label_of ws bs c ≡ record_at ws bs c level sibling
  unfolding record_at
  whole = rw (ef, en, eh, es)

  pub record_put : {last : List ℕ} → last ≡ label_of ws bs c
      → Put (record_at ws bs c level sibling) out i (put_mid (i + 4) (i + 4 + n - (i + 4)) (four out i f n level) last) (i + 4 + n)
  record_put {last} el =
      let hd = four_put out i f n (level / 256) (level % 256) in
      let len = label-fits room en in
      let lb : Put (label_of ws bs c) (four out i f n level) (i + 4) (put_mid (i + 4) (i + 4 + n - (i + 4)) (four out i f n level) last) (i + 4 + n) =
      record {
        bytes = part-put (label_of ws bs c) last (four out i f n level) (i + 4) (i + 4 + n) el (omega arith) (omega (arith, room.fits, put-length hd));
        behind = omega arith;
      } in
      put_as whole (put-more hd lb)
