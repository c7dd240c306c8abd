-- What it means that a forest, or a node with its children, stands in an image. `seen` says how its bytes are looked
-- at: as they are, or with the single bits cleared. Assumes nothing.
use mathlib.Core.Path.{◌≡◌, refl}
use mathlib.Core.List.{List, ◌++◌}
use mathlib.Core.Option.{none, some}
use Prim.Native.Nat.{ℕ, ◌+◌, ◌≤◌, zero, suc}
use native.Mathlib.Omega.{arith}
use lib.ListN.{length, get_or, drop}
use Rattle.tree.specs.Key.{Key}
use Rattle.tree.specs.Map.{Num}
use Rattle.tree.specs.Tree.{Forest, nil, node, keys_w, Tree, Above, Used, Wf, WellFormed}
use Rattle.tree.specs.Image.{flags_f, image_f, numbers_w, numbers_f, image_t, numbers_t}
use Rattle.tree.specs.Reader.{below, has_number, has_child}
use Rattle.tree.specs.Cleared.{cleared}
use Rattle.tree.proofs.ReaderRules.{FineAt}
use Rattle.tree.proofs.ReaderParts.{has}

abbrev pub as_is : Key → Key
as_is s = s

-- The first byte of a forest is at least x.
abbrev pub AtLeast : ℕ → Forest → Type 0
AtLeast x nil = Unit {0}
AtLeast x (node b l w kids rest) = x ≤ b

-- From `at` to a the image s is that of the forest f, and of the numbers ns those before `left` are f's; flag says whether
-- f has a node.
pub record Stands (seen : Key → Key) (s : Key) (level least path at : ℕ) (ns : List ℕ) (f : Forest) (a : ℕ)
    (left : List ℕ) (flag : ℕ) : Type 0 where
  pub here : has f ≡ flag
  pub end : a ≡ at + length (image_f level f)
  pub image : seen (drop at s) ≡ image_f level f ++ seen (drop a s)
  pub numbers : ns ≡ numbers_f f ++ left
  pub wf : Wf path f
  pub above : AtLeast least f

-- From `at` to a there is a record that keeps the rules, and its children behind it; t has its number and those.
pub record NodeStands (seen : Key → Key) (s ns : List ℕ) (level least path at : ℕ) (t : Tree) (a : ℕ)
    (left : List ℕ) : Type 0 where
  pub fine : FineAt s ns level least path at
  pub number : keys_w t.num ≡ has_number (get_or s at 0)
  pub stock : List ℕ
  pub numbers : ns ≡ numbers_w t.num stock
  pub kids : let m = get_or s (at + 1) 0 in
      Stands seen s (level + 1) 0 (path + m) (at + 4 + m) stock t.kids a left (has_child (get_or s at 0))

-- The tree t is there from the image's start to a, once the image is cleared.
pub record RootStands (s ns : List ℕ) (t : Tree) (a : ℕ) (left : List ℕ) : Type 0 where
  pub image : cleared s ≡ image_t t ++ cleared (drop a s)
  pub numbers : ns ≡ numbers_t t ++ left
  pub wf : WellFormed t

pub below_one : (n : ℕ) → 1 ≤ n → below n ≡ 1
unfolding below
below_one zero h = absurd (omega arith)
below_one (suc n) h = refl

-- The rules on siblings and on idle nodes, as the tree has them and as the reader counts them
pub above-least : (b : ℕ) (f : Forest) → AtLeast (b + 1) f → Above b f
above-least b nil h = tt
above-least b (node c l w kids rest) h = omega arith

pub least_above : (b : ℕ) (f : Forest) → Above b f → AtLeast (b + 1) f
least_above b nil h = tt
least_above b (node c l w kids rest) h = omega arith

pub least_0 : (f : Forest) → AtLeast 0 f
least_0 nil = tt
least_0 (node b l w kids rest) = omega arith

pub used_bits : (w : Num) (f : Forest) → 1 ≤ keys_w w + has f → Used w f
unfolding keys_w flags_f
used_bits none nil h = absurd (omega arith)
used_bits none (node b l w kids rest) h = tt
used_bits (some v) f h = tt

pub bits_used : (w : Num) (f : Forest) → Used w f → 1 ≤ keys_w w + has f
unfolding keys_w flags_f
bits_used none nil h = absurd h
bits_used none (node b l w kids rest) h = omega arith
bits_used (some v) f h = omega arith
