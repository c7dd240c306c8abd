-- Runs of slots that hold a forest: what the functions that go down the levels ask for and leave.
use Rattle.std.specs.Prelude.{◌≡◌, List, ℕ, ◌+◌, ◌≤◌, ◌<◌, length}
use Rattle.std.proofs.Math.Option.{some}
use Rattle.std.proofs.lemmas.List.Edits.{sets}
use Rattle.tree.specs.Tree.{Forest, Tree, Wf, nodes_f}
use Rattle.tree.specs.Image.{image_f, image_t}
use Rattle.slots.specs.Layout.{len_of}
use Rattle.slots.specs.Records.{recs_from, recs_f}
use Rattle.pool.specs.Rule.{Within}
use Rattle.pool.specs.Pool.{pool_tree}

-- The slots from c up to e are the nodes of the forest f, whose first nodes are at a level. Each level above them has a
-- byte of the path at least.
pub record Run (ws bs : List ℕ) (c e level : ℕ) (f : Forest) : Type 0 where
  pub path : ℕ
  pub recs : recs_from ws bs c (nodes_f f) ≡ recs_f path f
  pub ends : c + nodes_f f ≡ e
  pub wf : Wf path f
  pub shallow : level ≤ path + 1

-- A run within the words and labels, whose image has room at a place of an output
pub record Room (ws bs : List ℕ) (c e level : ℕ) (out : List ℕ) (place : ℕ) : Type 0 where
  pub within : Within ws bs e
  pub forest : Forest
  pub run : Run ws bs c e level forest
  pub fits : place + length (image_f level forest) ≤ length out

-- The bytes xs stand at a place of the output and nothing else has changed; next is the place behind them.
pub record Put (xs out : List ℕ) (place : ℕ) (out' : List ℕ) (next : ℕ) : Type 0 where
  pub bytes : out' ≡ sets out place xs
  pub behind : next ≡ place + length xs

-- Slot c within the words and labels, whose record has room at a place of an output
pub record RecordRoom (ws bs : List ℕ) (c level : ℕ) (out : List ℕ) (place : ℕ) : Type 0 where
  pub within : Within ws bs (c + 1)
  pub short : len_of ws c ≤ 255
  pub shallow : level < 65536
  pub fits : place + (4 + len_of ws c) ≤ length out

-- A pool whose image has room in an output
pub record TreeRoom (ws bs out : List ℕ) : Type 0 where
  pub tree : Tree
  pub holds : pool_tree ws bs ≡ some tree
  pub fits : length (image_t tree) ≤ length out

-- The image of the forest that stands there has been put at a place of the output.
abbrev pub RunPut : (ws bs : List ℕ) (c e level : ℕ) (out : List ℕ) (place : ℕ) (out' : List ℕ) (next : ℕ) → Type 0
RunPut ws bs c e level out place out' next = (f : Forest) → Run ws bs c e level f → Put (image_f level f) out place out' next

-- The image of the pool's tree has been put at the front of the output.
abbrev pub TreePut : (ws bs out out' : List ℕ) → Type 0
TreePut ws bs out out' = (t : Tree) → pool_tree ws bs ≡ some t → out' ≡ sets out 0 (image_t t)
