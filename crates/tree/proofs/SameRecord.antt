-- A record of an image, and the same record of the image cleared: its flags are cleared, its other bytes are the same,
-- and what is behind it is cleared too. Assumes nothing.
use mathlib.Core.Path.{◌≡◌, refl, sym, ◌∙◌, ap}
use mathlib.Core.List.{[], ◌∷◌}
use Prim.Native.Nat.{ℕ, zero, suc, ◌+◌, ◌-◌, ◌≤◌}
use native.Mathlib.Nat.{add-zero}
use native.Mathlib.Omega.{arith}
use lib.ListN.{length, get_or, take, drop}
use lib.Seq.{drop-drop}
use Rattle.tree.specs.Key.{Key}
use Rattle.tree.specs.Reader.{label_rest}
use Rattle.tree.specs.Cleared.{cleared_flag, cleared_from, cleared}
use Rattle.tree.proofs.ReaderParts.{byte_at, head-is}
use Rattle.tree.proofs.Cleared.{label_kept, label-passed}

-- At the offset `at` a record begins, also for clearing.
abbrev pub RecordStarts : (s : Key) (at : ℕ) → Type 0
RecordStarts s at = drop at (cleared s) ≡ cleared (drop at s)

-- the first byte of a label, and the others
first-kept : (m : ℕ) (s : Key) → 1 ≤ m → get_or (cleared_from m s) 0 0 ≡ get_or s 0 0
unfolding cleared_from
first-kept zero s h = absurd (omega arith)
first-kept (suc m) [] h = refl
first-kept (suc m) (b ∷ s) h = refl

others-kept : (m : ℕ) (s : Key) → take (m - 1) (drop 1 (cleared_from m s)) ≡ take (m - 1) (drop 1 s)
unfolding cleared_from
others-kept zero s = refl
others-kept (suc m) [] = refl
others-kept (suc m) (b ∷ s) = let e : suc m - 1 ≡ m = omega arith in rw e (label_kept m s)

pub record SameRecord (s : Key) (at : ℕ) : Type 0 where
  pub flag : get_or (cleared s) at 0 ≡ cleared_flag (get_or s at 0)
  pub len : get_or (cleared s) (at + 1) 0 ≡ get_or s (at + 1) 0
  pub high : get_or (cleared s) (at + 2) 0 ≡ get_or s (at + 2) 0
  pub low : get_or (cleared s) (at + 3) 0 ≡ get_or s (at + 3) 0
  pub first : 1 ≤ get_or s (at + 1) 0 → get_or (cleared s) (at + 4) 0 ≡ get_or s (at + 4) 0
  pub others : label_rest (cleared s) at ≡ label_rest s at
  pub next : RecordStarts s (at + 4 + get_or s (at + 1) 0)

pub same_record : (s : Key) (at : ℕ) → at + 4 ≤ length s → RecordStarts s at → SameRecord s at
unfolding cleared_from
same_record s at h e =
    let f = get_or s at 0 in
    let m = get_or s (at + 1) 0 in
    let label = cleared_from m (drop (at + 4) s) in
    let there : drop at (cleared s) ≡ cleared_flag f ∷ m ∷ get_or s (at + 2) 0 ∷ get_or s (at + 3) 0 ∷ label =
    e ∙ ap cleared (head-is s at h) in
    let behind : drop (at + 4) (cleared s) ≡ label =
    sym (drop-drop 4 at (cleared s)) ∙ ap (λ (z : Key). drop 4 z) there in
    let rest : drop (at + 5) (cleared s) ≡ drop 1 label =
    sym (drop-drop 5 at (cleared s)) ∙ ap (λ (z : Key). drop 5 z) there in
    let len = byte_at (cleared s) at 1 there in
    let five : at + 4 + 1 ≡ at + 5 = omega arith in
    let first : get_or s (at + 4) 0 ≡ get_or (drop (at + 4) s) 0 0 = rw add-zero at (byte_at s (at + 4) 0 refl) in
    record {
      flag = rw add-zero at (byte_at (cleared s) at 0 there);
      len = len;
      high = byte_at (cleared s) at 2 there;
      low = byte_at (cleared s) at 3 there;
      first = λ one. byte_at (cleared s) at 4 there ∙ first-kept m (drop (at + 4) s) one ∙ sym first;
      others = cc (rest, len, others-kept m (drop (at + 4) s), drop-drop 1 (at + 4) s, five);
      next =
          sym (drop-drop m (at + 4) (cleared s))
          ∙ ap (λ (z : Key). drop m z) behind
          ∙ label-passed m (drop (at + 4) s)
          ∙ ap cleared (drop-drop m (at + 4) s);
    }
