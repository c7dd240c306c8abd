-- Clearing an image: it changes single allocated bits and nothing else, twice is once, and an image that was written
-- has none to clear. Assumes nothing.
use mathlib.Core.Path.{◌≡◌, refl, ap}
use mathlib.Core.List.{[], ◌∷◌, ◌++◌, append-nil}
use Prim.Native.Nat.{ℕ, zero, suc, ◌+◌}
use native.Mathlib.Omega.{arith}
use lib.ListN.{length, get_or, take, drop}
use Rattle.tree.specs.Key.{Key}
use Rattle.tree.specs.Map.{Num}
use Rattle.tree.specs.Tree.{Forest, nil, node, Tree}
use Rattle.tree.specs.Image.{flags, image_f, image_t}
use Rattle.tree.specs.Cleared.{cleared_flag, cleared_from, cleared}
use Rattle.tree.proofs.Bits.{flag_twice}
use Rattle.tree.proofs.ReaderParts.{flags_say, flags-back, image-node}

pub cleared-length : (k : ℕ) (s : Key) → length (cleared_from k s) ≡ length s
unfolding cleared_from
cleared-length k [] = refl
cleared-length (suc k) (b ∷ s) = ap suc (cleared-length k s)
cleared-length zero (f ∷ []) = refl
cleared-length zero (f ∷ m ∷ []) = refl
cleared-length zero (f ∷ m ∷ h ∷ []) = refl
cleared-length zero (f ∷ m ∷ h ∷ l ∷ s) = omega (arith, cleared-length m s)

-- A byte is the same, or is cleared of its bits that stand alone.
pub data SingleBits (x y : ℕ) : Type 0 where
  same : y ≡ x → SingleBits x y
  fewer : y ≡ cleared_flag x → SingleBits x y

pub cleared-byte : (k : ℕ) (s : Key) (i : ℕ) → SingleBits (get_or s i 0) (get_or (cleared_from k s) i 0)
unfolding cleared_from
cleared-byte k [] i = same refl
cleared-byte (suc k) (b ∷ s) zero = same refl
cleared-byte (suc k) (b ∷ s) (suc i) = cleared-byte k s i
cleared-byte zero (f ∷ []) i = same refl
cleared-byte zero (f ∷ m ∷ []) i = same refl
cleared-byte zero (f ∷ m ∷ h ∷ []) i = same refl
cleared-byte zero (f ∷ m ∷ h ∷ l ∷ s) zero = fewer refl
cleared-byte zero (f ∷ m ∷ h ∷ l ∷ s) (suc zero) = same refl
cleared-byte zero (f ∷ m ∷ h ∷ l ∷ s) (suc (suc zero)) = same refl
cleared-byte zero (f ∷ m ∷ h ∷ l ∷ s) (suc (suc (suc zero))) = same refl
cleared-byte zero (f ∷ m ∷ h ∷ l ∷ s) (suc (suc (suc (suc i)))) = cleared-byte m s i

-- Twice is once.
from_twice : (k : ℕ) (s : Key) → cleared_from k (cleared_from k s) ≡ cleared_from k s
unfolding cleared_from
from_twice k [] = refl
from_twice (suc k) (b ∷ s) = ap (λ (z : Key). b ∷ z) (from_twice k s)
from_twice zero (f ∷ []) = refl
from_twice zero (f ∷ m ∷ []) = refl
from_twice zero (f ∷ m ∷ h ∷ []) = refl
from_twice zero (f ∷ m ∷ h ∷ l ∷ s) = cc (flag_twice f, from_twice m s)

pub cleared-twice : (s : Key) → cleared (cleared s) ≡ cleared s
cleared-twice s = from_twice 0 s

-- A label is kept, and behind it a record begins.
pub label_kept : (k : ℕ) (s : Key) → take k (cleared_from k s) ≡ take k s
unfolding cleared_from
label_kept zero s = refl
label_kept (suc k) [] = refl
label_kept (suc k) (b ∷ s) = ap (λ (z : Key). b ∷ z) (label_kept k s)

pub label-passed : (k : ℕ) (s : Key) → drop k (cleared_from k s) ≡ cleared (drop k s)
unfolding cleared_from
label-passed zero s = refl
label-passed (suc k) [] = refl
label-passed (suc k) (b ∷ s) = label-passed k s

-- What was written stays as it is.
flag_written : (w : Num) (kids rest : Forest) → cleared_flag (flags w kids rest) ≡ flags w kids rest
flag_written w kids rest = flags-back _ w kids rest (flags_say w kids rest)

pub label_written : (l s : Key) → cleared_from (length l) (l ++ s) ≡ l ++ cleared s
unfolding cleared_from
label_written [] s = refl
label_written (b ∷ l) s = ap (λ (z : Key). b ∷ z) (label_written l s)

forest-cleared : (n : ℕ) (f : Forest) (s : Key) → cleared (image_f n f ++ s) ≡ image_f n f ++ cleared s
unfolding cleared_from
forest-cleared n nil s = unfold image_f in refl
forest-cleared n (node b l w kids rest) s =
    let behind = image_f (n + 1) kids ++ (image_f n rest ++ s) in
    cc (
      image-node n b l w kids rest s,
      image-node n b l w kids rest (cleared s),
      flag_written w kids rest,
      label_written l behind,
      forest-cleared (n + 1) kids (image_f n rest ++ s),
      forest-cleared n rest s,
    )

pub image-cleared : (t : Tree) → cleared (image_t t) ≡ image_t t
unfolding image_t cleared_from
image-cleared t =
    let k = rw append-nil at (forest-cleared 1 t.kids []) in
    cc (flag_written t.num t.kids nil)
