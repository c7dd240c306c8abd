-- The bits of a flag byte: a number is the sum of its bits and has those, and clearing takes of each pair the lower bit
-- that stands alone, and nothing else. Assumes nothing.
use mathlib.Core.Path.{◌≡◌}
use mathlib.Core.Logic.{◌↔◌}
use Prim.Native.Nat.{ℕ, ◌+◌, ◌*◌, ◌-◌, ◌/◌, ◌%◌, ◌≤◌, ◌<◌, min}
use native.Mathlib.Omega.{arith}
use Rattle.tree.specs.Reader.{has_number, has_child, has_sibling}
use Rattle.tree.specs.Cleared.{lone, cleared_flag}

-- The number f as the sum of its bits: a, b, c are the allocated ones, x, y, z the initialised ones, k lies above them.
pub record BitSum (f a x b y c z k : ℕ) : Type 0 where
  pub number : (a < 2) × (x < 2)
  pub child : (b < 2) × (y < 2)
  pub sibling : (c < 2) × (z < 2)
  pub sum : f ≡ a + 2 * x + 4 * (b + 2 * y + 4 * (c + 2 * z + 4 * k))

pub bit_sum : (f : ℕ) → BitSum f (f % 2) (has_number f) (f / 4 % 2) (has_child f) (f / 16 % 2) (has_sibling f) (f / 64)
bit_sum f =
    let two : f / 2 ≡ f / 2 % 2 + 2 * (f / 4) = omega arith in
    let four : f / 4 ≡ f / 4 % 2 + 2 * (f / 8) = omega arith in
    let eight : f / 8 ≡ f / 8 % 2 + 2 * (f / 16) = omega arith in
    let sixteen : f / 16 ≡ f / 16 % 2 + 2 * (f / 32) = omega arith in
    let most : f / 32 ≡ f / 32 % 2 + 2 * (f / 64) = omega arith in
    record {
      number = omega arith;
      child = omega arith;
      sibling = omega arith;
      sum = up f (f % 2) (f / 2) _ _ _ _ _ _ _ _ _ _ (omega arith) two four eight sixteen most;
    }
  where
    up : (f a h x i b j y k c l z m : ℕ) → f ≡ a + 2 * h → h ≡ x + 2 * i → i ≡ b + 2 * j → j ≡ y + 2 * k
        → k ≡ c + 2 * l → l ≡ z + 2 * m
        → f ≡ a + 2 * x + 4 * (b + 2 * y + 4 * (c + 2 * z + 4 * m))
    up f a h x i b j y k c l z m p q r s t u = omega arith

-- The bits that f has
pub record Bits (f a x b y c z k : ℕ) : Type 0 where
  pub number : (f % 2 ≡ a) × (has_number f ≡ x)
  pub child : (f / 4 % 2 ≡ b) × (has_child f ≡ y)
  pub sibling : (f / 16 % 2 ≡ c) × (has_sibling f ≡ z)
  pub above : f / 64 ≡ k

pub bits : {f a x b y c z k : ℕ} → BitSum f a x b y c z k → Bits f a x b y c z k
bits {f} {a} {x} {b} {y} {c} {z} {k} s =
    let two : f / 2 ≡ x + 2 * (b + 2 * y + 4 * (c + 2 * z + 4 * k)) = omega arith in
    let four : f / 4 ≡ b + 2 * y + 4 * (c + 2 * z + 4 * k) = omega arith in
    let eight : f / 8 ≡ y + 2 * (c + 2 * z + 4 * k) = omega arith in
    let sixteen : f / 16 ≡ c + 2 * z + 4 * k = omega arith in
    let most : f / 32 ≡ z + 2 * k = omega arith in
    omega arith

-- What is left of it when it is cleared: of each pair the upper bit, and the lower one where the upper is set. u, v, w
-- are the lower bits that go, p, q, r those that stay.
module _ {f a x b y c z k : ℕ} (s : BitSum f a x b y c z k) where
  taken : (u v w p q r : ℕ) → a ≡ u + p → b ≡ v + q → c ≡ w + r → BitSum (f - (u + 4 * v + 16 * w)) p x q y r z k
  taken u v w p q r d e g = omega arith

  cleared_of : BitSum (f - ((a - x) + 4 * (b - y) + 16 * (c - z))) (min a x) x (min b y) y (min c z) z k
  cleared_of = taken _ _ _ _ _ _ (omega arith) (omega arith) (omega arith)

  -- Equal pairs make up the whole of it.
  pairs_sum : a ≡ x → b ≡ y → c ≡ z → k ≡ 0 → f ≡ 3 * x + 12 * y + 48 * z
  pairs_sum p q r none = omega arith

module _ (f : ℕ) where
  abbrev AfterClearing : ((f a x b y c z k : ℕ) → Type 0) → Type 0
  AfterClearing R =
      R (cleared_flag f) (min (f % 2) (has_number f)) (has_number f) (min (f / 4 % 2) (has_child f)) (has_child f)
      (min (f / 16 % 2) (has_sibling f)) (has_sibling f) (f / 64)

  cleared_spelt : AfterClearing BitSum
  unfolding cleared_flag lone
  cleared_spelt = cleared_of (bit_sum f)

  pub cleared_bits : AfterClearing Bits
  cleared_bits = bits cleared_spelt

  -- Where each upper bit has its lower one and no other is set, what is left are both bits of each pair or neither.
  pub cleared_sum : f ≤ 63 → has_number f ≤ f % 2 → has_child f ≤ f / 4 % 2 → has_sibling f ≤ f / 16 % 2
      → cleared_flag f ≡ 3 * has_number f + 12 * has_child f + 48 * has_sibling f
  cleared_sum few n c s = pairs_sum cleared_spelt (omega arith) (omega arith) (omega arith) (omega arith)

  -- No bit stands alone then, and so twice is once.
  none_alone : lone (cleared_flag f) ≡ 0
  unfolding lone
  none_alone =
      let b = cleared_bits in
      let n : cleared_flag f % 2 - has_number (cleared_flag f) ≡ 0 = omega (arith, b.number) in
      let c : cleared_flag f / 4 % 2 - has_child (cleared_flag f) ≡ 0 = omega (arith, b.child) in
      let s : cleared_flag f / 16 % 2 - has_sibling (cleared_flag f) ≡ 0 = omega (arith, b.sibling) in
      omega (arith, n, c, s)

-- A byte without such a bit is its own.
none-cleared : (f : ℕ) → lone f ≡ 0 → cleared_flag f ≡ f
unfolding cleared_flag
none-cleared f e = omega (arith, e)

pub flag_twice : (f : ℕ) → cleared_flag (cleared_flag f) ≡ cleared_flag f
flag_twice f = none-cleared (cleared_flag f) (none_alone f)

-- The cleared byte says the same, and keeps the rules of a flag byte just where the byte itself does.
pub record FlagAlike (f g : ℕ) : Type 0 where
  pub says_number : has_number g ≡ has_number f
  pub says_child : has_child g ≡ has_child f
  pub says_sibling : has_sibling g ≡ has_sibling f
  pub few : (g ≤ 63) ↔ (f ≤ 63)
  pub number : (has_number g ≤ g % 2) ↔ (has_number f ≤ f % 2)
  pub child : (has_child g ≤ g / 4 % 2) ↔ (has_child f ≤ f / 4 % 2)
  pub sibling : (has_sibling g ≤ g / 16 % 2) ↔ (has_sibling f ≤ f / 16 % 2)

pub flag_alike : (f g : ℕ) → g ≡ cleared_flag f → FlagAlike f g
flag_alike f g e =
    let b = cleared_bits f in
    rw e (
    record {
      says_number = b.number.1;
      says_child = b.child.1;
      says_sibling = b.sibling.1;
      few = omega (arith, b.above);
      number = omega (arith, b.number);
      child = omega (arith, b.child);
      sibling = omega (arith, b.sibling);
    }
    )
