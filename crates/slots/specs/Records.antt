-- The list of records: what the slots in use say, one after another, and what the nodes of a tree say in preorder.
use Rattle.std.specs.Prelude.{List, [], ◌∷◌, ◌++◌, ℕ, zero, suc, ◌+◌, length}
use Rattle.tree.specs.Key.{Key}
use Rattle.tree.specs.Map.{Num}
use Rattle.tree.specs.Tree.{Forest, nil, node, Tree, nodes_f, keys_w}
use Rattle.slots.specs.Layout.{start_of, len_of, has_of, span_of, label_of, num_at}

-- What counts of a slot; the word of a missing number and the bytes behind the label don't.
pub record Rec : Type 0 where
  pub start : ℕ
  pub len : ℕ
  pub has : ℕ
  pub num : Num
  pub span : ℕ
  pub label : List ℕ

unfoldable pub rec_at : (ws bs : List ℕ) → ℕ → Rec
rec_at ws bs i =
    record { start = start_of ws i; len = len_of ws i; has = has_of ws i; num = num_at ws i; span = span_of ws i; label = label_of ws bs i }

-- What m slots say one after another, from slot i on
unfoldable pub run : {A : Type 0} → (at : ℕ → A) (i m : ℕ) → List A
run at i zero = []
run at i (suc m) = at i ∷ run at (suc i) m

abbrev pub recs_from : (ws bs : List ℕ) (i m : ℕ) → List Rec
recs_from ws bs i m = run (rec_at ws bs) i m

-- A node under a path of s bytes, with so many nodes below it
abbrev pub node_rec : (s b : ℕ) (l : Key) (w : Num) (below : ℕ) → Rec
node_rec s b l w below = record { start = s; len = suc (length l); has = keys_w w; num = w; span = suc below; label = b ∷ l }

-- The nodes of a forest in preorder
unfoldable pub recs_f : (s : ℕ) → Forest → List Rec
recs_f s nil = []
recs_f s (node b l w kids rest) = node_rec s b l w (nodes_f kids) ∷ recs_f (s + suc (length l)) kids ++ recs_f s rest

abbrev pub root_rec : Num → (below : ℕ) → Rec
root_rec w below = record { start = 0; len = 0; has = keys_w w; num = w; span = suc below; label = [] }

unfoldable pub recs_t : Tree → List Rec
recs_t t = root_rec t.num (nodes_f t.kids) ∷ recs_f 0 t.kids
