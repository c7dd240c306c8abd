-- Pools that agree in what counts hold the same tree; so a call that goes by the tree tells the same of both, and leaves the
-- same. Assumes nothing.
use mathlib.Core.Path.{◌≡◌, refl, sym, ◌∙◌}
use mathlib.Core.Option.{Option, none, some}
use Prim.Native.Nat.{ℕ, suc, ◌+◌, ◌<◌}
use native.Mathlib.Omega.{arith}
use Rattle.tree.specs.Key.{Bytes}
use Rattle.tree.specs.Tree.{Tree, nodes_f}
use Rattle.tree.specs.Told.{Told}
use Rattle.tree.specs.Calls.{Outcome, refuses, leaves}
use Rattle.tree.proofs.Judge.{never}
use Rattle.slots.specs.Layout.{nodes_of}
use Rattle.slots.specs.Records.{rec_at}
use Rattle.pool.specs.Lent.{Lent, tree_in, size_in}
use Rattle.pool.specs.Free.{SameSlots}
use Rattle.pool.specs.Post.{Does}
use Rattle.slots.proofs.Runs.{run_ext}
use Rattle.pool.proofs.Decode.{slots_of_lem, lengths-right}
use Rattle.pool.proofs.Stands.{Holds, nodes_are, stands_recs, recs_stands}
use Rattle.pool.proofs.Held.{tree-holds, holds-tree}

same_back : {l m : Lent} → SameSlots l m → SameSlots m l
same_back h = record { size = sym h.size; nodes = sym h.nodes; slots = λ i q. sym (h.slots i (rw h.nodes q)) }

-- What one holds the other holds,
holds_too : (l m : Lent) → SameSlots l m → (t : Tree) → Holds l.words l.labels t → Holds m.words m.labels t
holds_too l m h t x =
    let n : nodes_of l.words ≡ suc (nodes_f t.kids) = x.nodes ∙ nodes_are t in
    let below : (i : ℕ) → i < nodes_f t.kids → rec_at m.words m.labels (1 + i) ≡ rec_at l.words l.labels (1 + i) = λ i q. sym (h.slots (1 + i) (omega arith)) in
    record {
      slots = x.slots;
      lengths = lengths-right m.words m.labels x.slots (sym h.size ∙ slots_of_lem l.words l.labels x.slots x.lengths);
      nodes = sym h.nodes ∙ x.nodes;
      room = x.room;
      root = sym (h.slots 0 (omega arith)) ∙ x.root;
      kids =
          recs_stands m.words m.labels 0 t.kids 1
          (run_ext (rec_at m.words m.labels) (rec_at l.words l.labels) 1 1 (nodes_f t.kids) below
          ∙ stands_recs l.words l.labels 0 t.kids 1 x.kids);
      wf = x.wf;
    }

tree_too : {l m : Lent} → Bytes l.labels → SameSlots l m → (t : Tree) → tree_in l ≡ some t → tree_in m ≡ some t
tree_too {l} {m} by h t e = holds-tree m.words m.labels t (holds_too l m h t (tree-holds l.words l.labels by t e))

-- and where one is no pool, the other is none.
pub same-tree : {l m : Lent} → Bytes l.labels → Bytes m.labels → SameSlots l m → tree_in l ≡ tree_in m
same-tree {l} {m} by by' h = go (tree_in l) (tree_in m) refl refl
  where
    go : (o p : Option Tree) → tree_in l ≡ o → tree_in m ≡ p → tree_in l ≡ tree_in m
    go (some t) p e f = e ∙ sym (tree_too by h t e)
    go none none e f = e ∙ sym f
    go none (some u) e f = never (cc (tree_too by' (same_back h) u f))

-- What one outcome leaves, from two such pools
pub record SameLeft (x y : Told) (is is' : Lent) : Type 0 where
  pub told : x ≡ y
  pub tree : tree_in is ≡ tree_in is'
  pub size : size_in is ≡ size_in is'

pub outcome_alike : (was was' is is' : Lent) (x y : Told) (o : Outcome) → tree_in was ≡ tree_in was' → size_in was ≡ size_in was' → Does o x was is → Does o y was' is' → SameLeft x y is is'
outcome_alike was was' is is' x y (refuses z) t s p q =
    record { told = p.said ∙ sym q.said; tree = cc (p.words, p.labels, q.words, q.labels); size = cc (p.words, p.labels, q.words, q.labels) }
outcome_alike was was' is is' x y (leaves vs u) t s p q =
    record { told = p.said ∙ sym q.said; tree = p.tree ∙ sym q.tree; size = p.slots ∙ s ∙ sym q.slots }
