-- The key that an array with a claimed length stands for, and a key in a room of its own. Assumes nothing.
use mathlib.Core.Path.{◌≡◌, sym, ap, ◌∙◌}
use mathlib.Core.List.{List, ◌++◌}
use Prim.Native.Nat.{ℕ, ◌≤◌, ◌<◌}
use native.Mathlib.Omega.{arith}
use lib.ListN.{length, take, drop, replicate, length-append, length-replicate}
use lib.Seq.{take-append-le, take-append_seam, length-take-le}
use Rattle.tree.specs.Key.{Key, key_max}
use Rattle.walk.specs.declared.Key.{Key as Kept}
use Rattle.walk.specs.Walks.{padded, key_of, Keeps}

pub padded-length : (n : ℕ) (bs : List ℕ) → length (padded n bs) ≡ n
unfolding padded
padded-length n bs = length-take-le n (bs ++ replicate n 0) (omega (arith, length-append bs (replicate n 0), length-replicate {A = ℕ} n 0))

-- Where the array has so many bytes, they are the key.
pub padded-is : (n : ℕ) (bs : List ℕ) → n ≤ length bs → padded n bs ≡ take n bs
unfolding padded
padded-is n bs h = take-append-le n bs (replicate n 0) h

-- A key in a room of its own: its bytes are kept where they fit.
module _ (k : Key) (r : Kept) (len : r.len ≡ length k) where
  keeps : (length k ≤ key_max → key_of r ≡ k) → Keeps k r
  keeps e = record { bytes = e; len = padded-length r.len r.bytes ∙ len }

  pub keeps_all : {xs : List ℕ} (room : List ℕ) → xs ≡ k → r.bytes ≡ xs ++ drop (length k) room → Keeps k r
  keeps_all {xs} room e q =
      let i : length k ≤ length (xs ++ drop (length k) room) = omega (arith, length-append xs (drop (length k) room), ap length e) in
      keeps (λ _. rw (len, q) (padded-is (length k) (xs ++ drop (length k) room) i ∙ rw e (take-append_seam k (drop (length k) room))))

  pub keeps_length : 4096 < length k → Keeps k r
  unfolding key_max
  keeps_length h = keeps (λ j. absurd (omega arith))

-- It is lent where it has been kept.
module _ (k : Kept) where
  pub lent_not : 4096 < k.len → key_max < length (key_of k)
  unfolding key_max
  lent_not h = omega (arith, padded-length k.len k.bytes)

  pub lent_all : k.len ≤ 4096 → length k.bytes ≡ 4096 → (take k.len k.bytes ≡ key_of k) × (length (key_of k) ≤ key_max)
  unfolding key_max
  lent_all h e = (sym (padded-is k.len k.bytes (omega arith)), omega (arith, padded-length k.len k.bytes))
