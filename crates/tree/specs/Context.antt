-- A place in a tree, as the code's contracts name it: what stands around a forest on a key's way down. Document 01 has no
-- such thing; it says "on the way back up" and "the removed key's node and its ancestors".
use Rattle.std.specs.Prelude.{◌≡◌, List, [], ◌∷◌, ◌++◌, ℕ, suc, ◌+◌, ◌<◌, length}
use Rattle.tree.specs.Key.{Key}
use Rattle.tree.specs.Map.{Num}
use Rattle.tree.specs.Tree.{Forest, node, nodes_f}
use Rattle.tree.specs.Search.{Look, in_part, whole}
use Rattle.tree.specs.Remove.{settle}

-- The frames around a forest, the nearest first: it is all the children of a node, or what comes behind an elder sibling.
pub data Context : Type 0 where
  top : Context
  down : (b : ℕ) (l : Key) (w : Num) (rest : Forest) → Context → Context
  over : (b : ℕ) (l : Key) (w : Num) (kids : Forest) → Context → Context

unfoldable pub plug : Context → Forest → Forest
plug top f = f
plug (down b l w rest C) f = plug C (node b l w f rest)
plug (over b l w kids C) f = plug C (node b l w kids f)

-- Bytes of the path above the forest
unfoldable pub depth : Context → ℕ
depth top = 0
depth (down b l w rest C) = depth C + suc (length l)
depth (over b l w kids C) = depth C

-- The search for a ∷ k at the top has come to the forest with y ∷ r left of the key.
abbrev pub Leads : Context → ℕ → Key → ℕ → Key → Type 0
Leads top a k y r = (a ≡ y) × (k ≡ r)
Leads (down b l w rest C) a k y r = Leads C a k b (l ++ y ∷ r)
Leads (over b l w kids C) a k y r = (b < y) × Leads C a k y r

-- How many nodes come before the forest in preorder, the root included
unfoldable pub before : Context → ℕ
before top = 1
before (down b l w rest C) = before C + 1
before (over b l w kids C) = before C + suc (nodes_f kids)

-- The place in preorder of the node whose children the forest belongs to; 0 is the root
unfoldable pub parent : Context → ℕ
parent top = 0
parent (down b l w rest C) = before C
parent (over b l w kids C) = parent C

-- On the way back up the nodes gone into are settled, the siblings passed over are not.
unfoldable pub settled : Context → Forest → Forest
settled top f = f
settled (down b l w rest C) f = settled C (settle b l w f rest)
settled (over b l w kids C) f = settled C (node b l w kids f)

-- What the search has looked at by then
unfoldable pub passed : Context → List Look
passed top = []
passed (down b l w rest C) = passed C ++ whole (depth C + suc (length l)) w ∷ []
passed (over b l w kids C) = passed C ++ in_part (depth C) ∷ []
