-- How many slots have a number, and what the empty tree's words hold. Assumes nothing.
use mathlib.Core.Path.{◌≡◌, refl, ap, ◌∙◌}
use mathlib.Core.List.{List}
use mathlib.Core.Option.{none, some}
use Prim.Native.Nat.{ℕ, suc, ◌+◌, ◌≤◌}
use native.Mathlib.Numerals.{add-one}
use native.Mathlib.Omega.{arith}
use lib.ListN.{length, set, length-set}
use lib.Seq.{get_or-set_same}
use Rattle.tree.specs.Map.{Num}
use Rattle.tree.specs.Tree.{Forest, nil, node, Tree, nodes_f, nodes_t, keys_f, keys_t, empty}
use Rattle.slots.specs.Layout.{nodes_word, nodes_of, start_of, len_of, has_of, number_of, span_of, num_of, num_at}
use Rattle.slots.specs.Records.{rec_at, node_rec, root_rec}
use Rattle.slots.specs.Put.{WordsPut}
use Rattle.slots.proofs.Puts.{words-put}
use Rattle.pool.specs.Pool.{pool_tree, slots_of}
use Rattle.pool.specs.Rule.{Lengths}
use Rattle.pool.specs.Fields.{has_sum, fresh_root, emptied}
use Rattle.pool.proofs.Decode.{lengths_stay, slots_stay, Root}
use Rattle.pool.proofs.Stands.{Stands, Holds, nodes_are}
use Rattle.pool.proofs.Held.{slot-is_rec, root_is, holds-tree}

pub sum_more : (ws : List ℕ) (n : ℕ) → has_sum ws (n + 1) ≡ has_sum ws n + has_of ws n
sum_more ws n = rw add-one (unfold has_sum in refl)

sum_at : (ws : List ℕ) {m n : ℕ} → m ≡ n → has_sum ws m ≡ has_sum ws n
sum_at ws e = ap (has_sum ws) e

-- the keys of a forest that stands from slot c on
sum_stands : (ws bs : List ℕ) (s : ℕ) (f : Forest) (c : ℕ) → Stands ws bs s f c → has_sum ws (c + nodes_f f) ≡ has_sum ws c + keys_f f
unfolding nodes_f keys_f
sum_stands ws bs s nil c h =
    let z : has_sum ws (c + 0) ≡ has_sum ws c = sum_at ws (omega arith) in
    omega arith
sum_stands ws bs s (node b l w kids rest) c h =
    let i = slot-is_rec ws bs c (node_rec s b l w (nodes_f kids)) h.0 in
    let k = sum_stands ws bs (s + suc (length l)) kids (c + 1) h.1 in
    let r = sum_stands ws bs s rest (c + suc (nodes_f kids)) h.2 in
    let x : has_sum ws (c + suc (nodes_f kids + nodes_f rest)) ≡ has_sum ws (c + suc (nodes_f kids) + nodes_f rest) = sum_at ws (omega arith) in
    let y : has_sum ws (c + suc (nodes_f kids)) ≡ has_sum ws (c + 1 + nodes_f kids) = sum_at ws (omega arith) in
    omega (arith, sum_more ws c, i.has)

-- Counts: the slots with a number are the keys.
pub sum_keys : (ws bs : List ℕ) (t : Tree) → Holds ws bs t → has_sum ws (nodes_of ws) ≡ keys_t t
unfolding keys_t
sum_keys ws bs t h =
    let i = slot-is_rec ws bs 0 (root_rec t.num (nodes_f t.kids)) h.root in
    let k = sum_stands ws bs 0 t.kids 1 h.kids in
    let n : nodes_of ws ≡ 1 + nodes_f t.kids = omega (arith, h.nodes, nodes_are t) in
    let z : has_sum ws 0 ≡ 0 = unfold has_sum in refl in
    let o : has_sum ws 1 ≡ has_sum ws 0 + has_of ws 0 = sum_more ws 0 in
    sum_at ws n ∙ omega (arith, i.has)

-- The words of the empty tree
pub record Emptied (vs : List ℕ) : Type 0 where
  pub nodes : nodes_of vs ≡ 1
  pub start : start_of vs 0 ≡ 0
  pub len : len_of vs 0 ≡ 0
  pub has : has_of vs 0 ≡ 0
  pub span : span_of vs 0 ≡ 1

module _ (ws bs : List ℕ) (slots : ℕ) (l : Lengths ws bs slots) where
  root-put : WordsPut (set ws nodes_word 1) (emptied ws) 0 fresh_root
  unfolding emptied
  root-put = words-put (set ws nodes_word 1) (emptied ws) 0 fresh_root (simp length-set (omega (arith, l.least, l.words))) refl

  emptied-length : length (emptied ws) ≡ length ws
  emptied-length = root-put.size ∙ length-set ws nodes_word 1

  emptied-is : Emptied (emptied ws)
  emptied-is =
      let p = root-put in
      record {
        nodes = p.low nodes_word (omega arith) ∙ get_or-set_same ws nodes_word 1 0 (omega (arith, l.least, l.words));
        start = p.start;
        len = p.len;
        has = p.has;
        span = p.span;
      }

-- They hold the empty tree.
pub emptied-lengths : (ws bs : List ℕ) (slots : ℕ) → Lengths ws bs slots → Lengths (emptied ws) bs slots
emptied-lengths ws bs slots l = lengths_stay ws bs (emptied ws) bs slots (emptied-length ws bs slots l) refl l

emptied-root : (vs bs : List ℕ) (slots : ℕ) → Emptied vs → 1 ≤ slots → rec_at vs bs 0 ≡ root_rec none 0
emptied-root vs bs slots e h =
    let r : Root vs slots = omega arith in
    let w : num_at vs 0 ≡ none = ap (λ (x : ℕ). num_of x (number_of vs 0)) e.has ∙ unfold num_of in refl in
    root_is vs bs slots 0 r e.nodes ∙ ap (λ (x : Num). root_rec x 0) w

pub emptied-tree : (ws bs : List ℕ) (slots : ℕ) → Lengths ws bs slots → pool_tree (emptied ws) bs ≡ some empty
unfolding empty nodes_t nodes_f
emptied-tree ws bs slots l =
    let e = emptied-is ws bs slots l in
    holds-tree (emptied ws) bs empty
    (record {
      slots = slots;
      lengths = emptied-lengths ws bs slots l;
      nodes = e.nodes;
      room = l.least;
      root = emptied-root (emptied ws) bs slots e l.least;
      kids = tt;
      wf = tt;
    })

-- What make and clear leave
pub emptied-slots : (ws bs : List ℕ) (slots : ℕ) → Lengths ws bs slots → slots_of (emptied ws) bs ≡ slots_of ws bs
emptied-slots ws bs slots l = slots_stay ws bs (emptied ws) bs slots (emptied-length ws bs slots l) refl l
