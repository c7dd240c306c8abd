-- Document 01's example past 255 bytes: a key of 256 bytes and its first 10, put in in both orders.
use Rattle.std.specs.Prelude.{List, [], ◌∷◌, ◌++◌, ℕ, suc, replicate, length}
use Rattle.tree.specs.Key.{Key}
use Rattle.tree.specs.Tree.{Forest, nil, node, Tree, empty}
use Rattle.tree.specs.Insert.{insert_t}

unfoldable pub far : Key
far = replicate 256 7

unfoldable pub near : Key
near = replicate 10 7

unfoldable pub far_then_near : Tree
far_then_near = insert_t (insert_t empty far 1) near 2

unfoldable pub near_then_far : Tree
near_then_far = insert_t (insert_t empty near 2) far 1

-- How long the labels are, in the order of the nodes
unfoldable pub labels_f : Forest → List ℕ
labels_f nil = []
labels_f (node b l w kids rest) = suc (length l) ∷ labels_f kids ++ labels_f rest

unfoldable pub labels_t : Tree → List ℕ
labels_t t = labels_f t.kids
