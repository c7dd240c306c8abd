-- Slots moved up, and a splice settled: what each slot says afterwards. Assumes nothing.
use mathlib.Core.Path.{◌≡◌, refl, ap, ◌∙◌}
use mathlib.Core.List.{List}
use Prim.Native.Nat.{ℕ, ◌+◌, ◌*◌, ◌≤◌}
use native.Mathlib.Omega.{arith}
use lib.ListN.{length, get_or, set, length-set}
use lib.Seq.{get_or-set_same, get_or-set_other}
use Rattle.label.specs.Runs.{MovedUp}
use Rattle.slots.specs.Layout.{slot_words, words_for, bytes_for, field_at, span_field}
use Rattle.slots.proofs.Slots.{SameWords, block_eq, bare_eq, at_place}
use Rattle.splice.specs.Splice.{Relinked, Settled, Room, Moved}

-- Words and bytes moved up are slots moved up.
pub slots-moved : (ws bs vs cs : List ℕ) (from to k : ℕ) → Room ws bs from to k → MovedUp ws vs (words_for from) (words_for to) (slot_words * k)
    → MovedUp bs cs (bytes_for from) (bytes_for to) (bytes_for k) → Moved ws bs vs cs from to k
slots-moved ws bs vs cs from to k r s t =
    let lb = t.len in
    let rl = r.labels in
    let ro = r.order in
    record {
      len_w = s.len;
      len_b = t.len;
      head = λ j h. s.low j (omega arith);
      low = λ i h.
          bare_eq vs cs ws bs i i
          (λ o l _. s.low (field_at i o) (omega arith))
          (block_eq cs bs (bytes_for i) (bytes_for i) 255 (omega arith) (omega arith) (λ j l. t.low (bytes_for i + j) (omega arith)));
      moved = λ i h l.
          bare_eq vs cs ws bs (i + k) i
          (λ o m _. at_place vs (omega arith) ∙ s.mid (field_at i o) (omega arith) (omega arith))
          (block_eq cs bs (bytes_for (i + k)) (bytes_for i) 255 (omega arith) (omega arith) (λ j m. at_place cs (omega arith) ∙ t.mid (bytes_for i + j) (omega arith) (omega arith)));
      high = λ i h l.
          bare_eq vs cs ws bs i i
          (λ o m _. s.high (field_at i o) (omega arith))
          (block_eq cs bs (bytes_for i) (bytes_for i) 255 (omega arith) l (λ j m. t.high (bytes_for i + j) (omega arith)));
      low-span = λ i h. s.low (field_at i span_field) (omega arith);
      moved-span = λ i h l. at_place vs (omega arith) ∙ s.mid (field_at i span_field) (omega arith) (omega arith);
      high-span = λ i h. s.high (field_at i span_field) (omega arith);
    }

-- A splice settled: only word 0 and the spans have changed.
pub settled : (ws us vs : List ℕ) (n : ℕ) → 1 ≤ length ws → us ≡ set ws 0 n → Relinked us vs n → Settled ws vs n
settled ws us vs n h e r =
    let word : (i : ℕ) → SameWords vs ws i i =
    λ i o l ne.
    r.rest (field_at i o) (λ k q. ne (omega arith))
    ∙ ap (λ (l : List ℕ). get_or l (field_at i o) 0) e
    ∙ get_or-set_other ws 0 (field_at i o) n 0 (λ q. omega arith) in
    record {
      len = r.len ∙ ap length e ∙ length-set ws 0 n;
      nodes = r.rest 0 (λ k q. omega arith) ∙ ap (λ (l : List ℕ). get_or l 0 0) e ∙ get_or-set_same ws 0 n 0 (omega arith);
      spans = r.spans;
      bares = λ bs i. bare_eq vs bs ws bs i i (word i) refl;
    }
