-- A list of tests as a yes or no, the bits of a pair, and the flag byte of a node. Assumes nothing.
use mathlib.Core.Path.{◌≡◌, refl}
use mathlib.Core.Bool.{Bool, true, false}
use mathlib.Core.List.{List}
use mathlib.Core.Option.{none, some}
use Prim.Native.Nat.{ℕ, zero, suc, ◌≤◌}
use native.Mathlib.Omega.{arith}
use Rattle.tree.specs.Map.{Num}
use Rattle.tree.specs.Tree.{Forest, nil, node}
use Rattle.tree.specs.Image.{flags_w, flags_f, flags}
use Rattle.tree.specs.Reader.{Rule, judge, below}
use Rattle.tree.proofs.Judge.{All, passed, passes, breaks, judged}
use Rattle.flags.specs.Flags.{pair, flag_byte, passes as is_sound}

pub all_pass : (rs : List Rule) → All rs → true ≡ is_sound (judge rs)
all_pass rs h = rw (passed rs h)

pub one_fails : (rs : List Rule) → (All rs → ⊥) → false ≡ is_sound (judge rs)
one_fails rs h = elim (judged rs) [ passes a e ↦ absurd (h a) | breaks x e i ↦ rw e ]

pub pair-most : (on : Bool) (n : ℕ) → pair on n ≤ n
pair-most true n = omega arith
pair-most false n = omega arith

-- What a node has, as the writer asks it
abbrev pub numbered : Num → Bool
numbered none = false
numbered (some v) = true

abbrev pub peopled : Forest → Bool
peopled nil = false
peopled (node b l w kids rest) = true

pub flag_byte-is : (w : Num) (kids rest : Forest) → flag_byte (numbered w) (peopled kids) (peopled rest) ≡ flags w kids rest
unfolding flag_byte flags flags_w flags_f
flag_byte-is none nil nil = refl
flag_byte-is none nil (node b l w kids rest) = refl
flag_byte-is none (node b l w kids rest) nil = refl
flag_byte-is none (node b l w kids rest) (node c m u j i) = refl
flag_byte-is (some v) nil nil = refl
flag_byte-is (some v) nil (node b l w kids rest) = refl
flag_byte-is (some v) (node b l w kids rest) nil = refl
flag_byte-is (some v) (node b l w kids rest) (node c m u j i) = refl

-- The root's level, and any other
pub below_root : (n : ℕ) → n ≡ 0 → below n ≡ 0
unfolding below
below_root zero e = refl
below_root (suc n) e = absurd (omega arith)

pub below_other : (n : ℕ) → (n ≡ 0 → ⊥) → below n ≡ 1
unfolding below
below_other zero ne = absurd (ne refl)
below_other (suc n) ne = refl
