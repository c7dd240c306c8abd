-- No level of a well-formed tree exceeds 4,096, for each level adds a byte to the path; so each level of an image fits in its
-- two bytes. Assumes nothing.
use mathlib.Core.Path.{◌≡◌}
use Prim.Native.Nat.{ℕ, ◌+◌, ◌*◌, ◌/◌, ◌%◌, ◌≤◌, ◌<◌, suc}
use native.Mathlib.Omega.{arith}
use lib.ListN.{length}
use Rattle.tree.specs.Key.{key_max}
use Rattle.tree.specs.Tree.{Forest, nil, node, Tree, Wf, WellFormed}
use Rattle.tree.specs.Image.{level_f, level_t}

-- The nodes under a path of s bytes are at level s + 1 at most.
level_within : (n s : ℕ) (f : Forest) → n ≤ s + 1 → Wf s f → level_f n f ≤ key_max
unfolding level_f
level_within n s nil h w = omega arith
level_within n s (node b l u kids rest) h w =
    let k = level_within (n + 1) (s + suc (length l)) kids (omega arith) w.wkids in
    let r = level_within n s rest h w.wrest in
    omega (arith, w.deep)

pub level_bound : (t : Tree) → WellFormed t → level_t t ≤ key_max
unfolding level_t
level_bound t w = level_within 1 0 t.kids (omega arith) w

-- The two bytes that a level is written in, high and low, are bytes, and give it back.
pub record TwoBytes (n : ℕ) : Type 0 where
  pub high : n / 256 < 256
  pub low : n % 256 < 256
  pub whole : 256 * (n / 256) + n % 256 ≡ n

pub level_fits : (t : Tree) → WellFormed t → (n : ℕ) → n ≤ level_t t → TwoBytes n
unfolding key_max
level_fits t w n h = record { high = omega (arith, level_bound t w); low = omega arith; whole = omega arith }
