-- The image's writer. Per node: flags, label length, level high byte, level low byte, label; a node is followed by its
-- children, and each child is a node at the next level with its own children behind it. Numbers follow in a list of
-- their own, in the same order.
use Rattle.std.specs.Prelude.{List, [], ◌∷◌, ◌++◌, ℕ, suc, ◌+◌, ◌/◌, ◌%◌, max, length}
use Rattle.std.proofs.Math.Option.{none, some}
use Rattle.tree.specs.Map.{Num}
use Rattle.tree.specs.Tree.{Forest, nil, node, Tree}

-- Flag pairs: 1 and 2 number, 4 and 8 child, 16 and 32 sibling. The writer sets both bits of a pair or neither.
unfoldable pub flags_w : Num → ℕ
flags_w none = 0
flags_w (some v) = 1 + 2

unfoldable pub flags_f : ℕ → Forest → ℕ
flags_f pair nil = 0
flags_f pair (node b l w kids rest) = pair

unfoldable pub flags : Num → (kids rest : Forest) → ℕ
flags w kids rest = flags_w w + flags_f (4 + 8) kids + flags_f (16 + 32) rest

unfoldable pub image_f : (level : ℕ) → Forest → List ℕ
image_f n nil = []
image_f n (node b l w kids rest) =
    flags w kids rest ∷ suc (length l) ∷ (n / 256) ∷ (n % 256) ∷ b ∷ (l ++ image_f (n + 1) kids ++ image_f n rest)

-- The root is at level 0.
unfoldable pub image_t : Tree → List ℕ
image_t t = flags t.num t.kids nil ∷ 0 ∷ 0 ∷ 0 ∷ image_f 1 t.kids

-- a node's own number, before others
unfoldable pub numbers_w : Num → List ℕ → List ℕ
numbers_w none ns = ns
numbers_w (some v) ns = v ∷ ns

unfoldable pub numbers_f : Forest → List ℕ
numbers_f nil = []
numbers_f (node b l w kids rest) = numbers_w w (numbers_f kids ++ numbers_f rest)

unfoldable pub numbers_t : Tree → List ℕ
numbers_t t = numbers_w t.num (numbers_f t.kids)

-- The deepest level of a forest whose first nodes are at level n; 0 where there is none
unfoldable pub level_f : (n : ℕ) → Forest → ℕ
level_f n nil = 0
level_f n (node b l w kids rest) = max n (max (level_f (n + 1) kids) (level_f n rest))

unfoldable pub level_t : Tree → ℕ
level_t t = level_f 1 t.kids
