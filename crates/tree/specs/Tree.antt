-- The tree: labelled nodes, what is well-formed, the pairs that it holds, how many nodes and keys it has.
use Rattle.std.specs.Prelude.{[], ◌∷◌, ◌++◌, ℕ, suc, ◌+◌, ◌≤◌, ◌<◌, length}
use Rattle.std.proofs.Math.Option.{none, some}
use Rattle.tree.specs.Key.{Key, Bytes, key_max}
use Rattle.tree.specs.Map.{Num, Pairs}

-- A forest is a list of siblings: the first, a node with the label b ∷ l, its number if it has one, and its children;
-- then its younger siblings. A label has a first byte, so that it is never empty.
pub data Forest : Type 0 where
  nil : Forest
  node : (b : ℕ) (l : Key) (w : Num) (kids rest : Forest) → Forest

-- The root has an empty label and no sibling: a tree is the root's number and its children.
pub record Tree : Type 0 where
  pub num : Num
  pub kids : Forest

-- The empty tree: the root alone, without a number
unfoldable pub empty : Tree
empty = record { num = none; kids = nil }

-- A label has at most 255 bytes: its first, and so many behind that one.
unfoldable pub room : ℕ
room = 254

-- Siblings have strictly ascending first bytes: the next one begins above b.
abbrev pub Above : ℕ → Forest → Type 0
Above b nil = Unit {0}
Above b (node c l w kids rest) = b < c

-- A number or a child
abbrev pub Used : Num → Forest → Type 0
Used (some v) kids = Unit {0}
Used none nil = ⊥
Used none (node c l w kids rest) = Unit {0}

-- What is asked of one node under a path of s bytes; K and R say the same of its children and of its younger siblings.
pub record NodeRule (s b : ℕ) (l : Key) (w : Num) (kids rest : Forest) (K R : Type 0) : Type 0 where
  pub byte : b < 256
  pub bytes : Bytes l
  pub short : length l ≤ room
  pub deep : s + suc (length l) ≤ key_max
  pub above : Above b rest
  pub used : Used w kids
  pub wkids : K
  pub wrest : R

abbrev pub Wf : ℕ → Forest → Type 0
Wf s nil = Unit {0}
Wf s (node b l w kids rest) = NodeRule s b l w kids rest (Wf (s + suc (length l)) kids) (Wf s rest)

-- Well-formed: every label but the root's is 1 to 255 bytes; children of one node have strictly ascending first bytes;
-- every node but the root has a number or a child; no path is over 4,096 bytes.
abbrev pub WellFormed : Tree → Type 0
WellFormed t = Wf 0 t.kids

-- A label put before every key of a list
unfoldable pub labelled : Key → Pairs → Pairs
labelled l [] = []
labelled l (x ∷ m) = (l ++ x.0, x.1) ∷ labelled l m

-- A node's own number stands under the empty key, before its children's.
unfoldable pub own : Num → Pairs → Pairs
own none m = m
own (some v) m = ([], v) ∷ m

-- The pairs that a tree holds, in the order of its nodes: the map
unfoldable pub pairs_f : Forest → Pairs
pairs_f nil = []
pairs_f (node b l w kids rest) = labelled (b ∷ l) (own w (pairs_f kids)) ++ pairs_f rest

unfoldable pub pairs_t : Tree → Pairs
pairs_t t = own t.num (pairs_f t.kids)

-- Nodes, the root included
unfoldable pub nodes_f : Forest → ℕ
nodes_f nil = 0
nodes_f (node b l w kids rest) = suc (nodes_f kids + nodes_f rest)

unfoldable pub nodes_t : Tree → ℕ
nodes_t t = suc (nodes_f t.kids)

-- Keys: the nodes that have a number
unfoldable pub keys_w : Num → ℕ
keys_w none = 0
keys_w (some v) = 1

unfoldable pub keys_f : Forest → ℕ
keys_f nil = 0
keys_f (node b l w kids rest) = keys_w w + keys_f kids + keys_f rest

unfoldable pub keys_t : Tree → ℕ
keys_t t = keys_w t.num + keys_f t.kids
