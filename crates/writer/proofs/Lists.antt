-- Runs of stores in an output, one behind another. Assumes nothing.
use mathlib.Core.Path.{◌≡◌, refl, sym, ap, ◌∙◌, subst}
use mathlib.Core.List.{List, [], ◌∷◌, ◌++◌, append_assoc}
use Prim.Native.Nat.{ℕ, suc, ◌+◌, ◌-◌, ◌≤◌}
use native.Mathlib.Nat.{add-zero, zero-add}
use native.Mathlib.Omega.{arith}
use lib.ListN.{length, set, take, drop, length-append}
use lib.Seq.{sets, sets-eq, length-sets}
use borrow.Rule.Slice.PartMut.{put_mid, Post-is}
use Rattle.writer.specs.Post.{front}
use Rattle.writer.specs.Runs.{Put}

sets_join : (out : List ℕ) (i : ℕ) (xs ys : List ℕ) → sets (sets out i xs) (i + length xs) ys ≡ sets out i (xs ++ ys)
sets_join out i [] ys = ap (λ (k : ℕ). sets out k ys) (add-zero i)
sets_join out i (x ∷ xs) ys =
    let e : i + suc (length xs) ≡ suc i + length xs = omega arith in
    ap (λ (k : ℕ). sets (sets (set out i x) (suc i) xs) k ys) e ∙ sets_join (set out i x) (suc i) xs ys

pub put-none : (out : List ℕ) (i : ℕ) → Put [] out i out i
put-none out i = record { bytes = refl; behind = sym (add-zero i) }

pub put-more : {xs ys out out₁ out₂ : List ℕ} {i j k : ℕ} → Put xs out i out₁ j → Put ys out₁ j out₂ k → Put (xs ++ ys) out i out₂ k
put-more {xs} {ys} {out} {out₁} {out₂} {i} {j} {k} p q =
    record {
      bytes = q.bytes ∙ rw (p.bytes, p.behind) (sets_join out i xs ys);
      behind = omega (arith, p.behind, q.behind, length-append xs ys);
    }

pub put_as : {xs ys out out₁ : List ℕ} {i j : ℕ} → xs ≡ ys → Put xs out i out₁ j → Put ys out i out₁ j
put_as {xs} {ys} {out} {out₁} {i} {j} e p = subst (λ (zs : List ℕ). Put zs out i out₁ j) e p

pub put-length : {xs out out₁ : List ℕ} {i j : ℕ} → Put xs out i out₁ j → length out₁ ≡ length out
put-length {xs} {out} {out₁} {i} {j} p = ap length p.bytes ∙ length-sets out i xs

-- a part of an output filled by a call
pub part-put : (xs ys out : List ℕ) (a e : ℕ) → ys ≡ xs → a + length xs ≡ e → e ≤ length out → put_mid a (e - a) out ys ≡ sets out a xs
part-put xs ys out a e p q h =
    ap (λ (z : List ℕ). take a out ++ (ys ++ z)) (Post-is a e out (omega arith))
    ∙ rw (p, ← append_assoc (take a out) xs (drop e out), ← q) (sym (sets-eq xs out a (omega arith)))

-- four stores, one behind another
pub four_put : (out : List ℕ) (i a b c d : ℕ) → Put (a ∷ b ∷ c ∷ d ∷ []) out i (set (set (set (set out i a) (i + 1) b) (i + 2) c) (i + 3) d) (i + 4)
four_put out i a b c d =
    let e₁ : i + 1 ≡ suc i = omega arith in
    let e₂ : i + 2 ≡ suc (suc i) = omega arith in
    let e₃ : i + 3 ≡ suc (suc (suc i)) = omega arith in
    record { bytes = rw (e₁, e₂, e₃); behind = refl }

-- At the front, with the rest untouched
pub front-put : (xs out : List ℕ) → length xs ≤ length out → sets out 0 xs ≡ front xs out
front-put xs out h = sets-eq xs out 0 (omega arith) ∙ ap (λ (k : ℕ). xs ++ drop k out) (zero-add (length xs))
