-- A label laid into the path behind the bytes above it: what stands at the path's front then. Assumes nothing.
use mathlib.Core.Path.{◌≡◌, ap, ◌∙◌}
use mathlib.Core.List.{List, ◌++◌, append_assoc}
use Prim.Native.Nat.{ℕ, ◌+◌, ◌-◌, ◌≤◌}
use native.Mathlib.Omega.{arith}
use lib.ListN.{length, take, drop, length-append}
use lib.Seq.{sets, sets-eq, take_at, length-take-le}
use borrow.Rule.Slice.PartMut.{put_mid}
use Rattle.slots.specs.Layout.{start_of, len_of, label_of}
use Rattle.slots.proofs.Cuts.{label-length}
use Rattle.writer.proofs.Lists.{part-put}
use Rattle.walk.specs.Due.{laid, LayRoom, Laid}

module _ (path xs : List ℕ) (s : ℕ) (fits : s + length xs ≤ length path) where
  -- the bytes above stay, and the label is behind them
  pub front_sets : take (s + length xs) (sets path s xs) ≡ take s path ++ xs
  front_sets =
      let l : length (take s path ++ xs) ≡ s + length xs = length-append (take s path) xs ∙ ap (λ (n : ℕ). n + length xs) (length-take-le s path (omega arith)) in
      rw (sets-eq xs path s fits) (take_at (take s path ++ xs) (drop (s + length xs) path) (s + length xs) l)

  pub above_sets : take s (sets path s xs) ≡ take s path
  above_sets = rw (sets-eq xs path s fits, append_assoc (take s path) xs (drop (s + length xs) path)) (take_at (take s path) (xs ++ drop (s + length xs) path) s (length-take-le s path (omega arith)))

-- The part of the path that the label was copied to
pub lay_done : {ws bs path : List ℕ} {i : ℕ} → LayRoom ws bs path i → {from to : ℕ} {ys : List ℕ} → from ≡ start_of ws i → to ≡ from + len_of ws i → ys ≡ label_of ws bs i
    → Laid ws bs path i (put_mid from (to - from) path ys) to
unfolding laid
lay_done {ws} {bs} {path} {i} r {from} {to} {ys} ef et ey =
    let l = label-length ws bs i r.short r.labels in
    record {
      bytes = part-put (label_of ws bs i) ys path from to ey (omega arith) (omega (arith, r.deep)) ∙ ap (λ (n : ℕ). sets path n (label_of ws bs i)) ef;
      end = omega arith;
    }
