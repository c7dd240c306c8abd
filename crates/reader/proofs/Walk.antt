-- A node and a list of siblings as the check counts them, beside what the reader gives. Assumes nothing.
use mathlib.Core.Path.{◌≡◌, refl, sym, ap, ◌∙◌}
use mathlib.Core.List.{List}
use Prim.Native.Nat.{ℕ, zero, suc, ◌+◌, ◌*◌, ◌-◌, ◌≤◌, ◌<◌}
use native.Mathlib.Omega.{arith}
use lib.ListN.{length, get_or, length-drop}
use Rattle.std.specs.Prelude.{Ok, Err}
use Rattle.tree.specs.Key.{key_max}
use Rattle.tree.specs.Map.{Num}
use Rattle.tree.specs.Tree.{Forest, Tree, nodes_f, nodes_t}
use Rattle.tree.specs.Told.{refusal_at, Answer, refusal_told}
use Rattle.tree.specs.Reader.{at_most, Tested, broken, sound, judge, below, has_number, has_child, has_sibling, rules, numbers_past}
use Rattle.tree.specs.Reader.{Read, refused, gave, over_kids, read_node, over_rest, read_kids}
use Rattle.tree.specs.declared.Refusal.{Refusal}
use Rattle.tree.proofs.Judge.{never, judge-off, all_hold}
use Rattle.tree.proofs.ReaderSteps.{maybe, node-is, node-refused, kids-is, kids-refused}
use Rattle.reader.specs.declared.Mark.{Mark}
use Rattle.reader.specs.Check.{count_rules, off, on, way_of, kids_way, node_way, Within, NodeChecked, KidsChecked}

-- The counts of a node are those of its children, and one more.
node-way : (k : ℕ) (w : Num) (r : Read Forest) → node_way k (over_kids w r) ≡ kids_way (k + 1) r
unfolding node_way kids_way over_kids nodes_t
node-way k w (refused x) = refl
node-way k w (gave ks a left) = ap (on a (length left)) (omega arith)

-- The counts of siblings go on from those of the first.
rest-way : (k b : ℕ) (l : List ℕ) (t : Tree) (r : Read Forest) → kids_way k (over_rest b l t r) ≡ kids_way (k + nodes_t t) r
unfolding kids_way over_rest nodes_t nodes_f
rest-way k b l t (refused x) = refl
rest-way k b l t (gave f a left) = ap (on a (length left)) (omega arith)

none-way : (k flag a : ℕ) (ns : List ℕ) (r : Read Forest) → flag ≡ 0 → kids_way k (maybe flag a ns r) ≡ on a (length ns) k
unfolding kids_way maybe nodes_f
none-way k zero a ns r e = ap (on a (length ns)) (omega arith)
none-way k (suc i) a ns r e = absurd (omega arith)

some-way : (flag a : ℕ) (ns : List ℕ) (r : Read Forest) → (flag ≡ 0 → ⊥) → maybe flag a ns r ≡ r
unfolding maybe
some-way zero a ns r e = absurd (e refl)
some-way (suc i) a ns r e = refl

past-length : (flag : ℕ) (ns : List ℕ) → flag ≤ 1 → length (numbers_past flag ns) ≡ length ns - flag
unfolding numbers_past
past-length zero ns h = omega arith
past-length (suc zero) ns h = length-drop 1 ns
past-length (suc (suc i)) ns h = absurd (omega arith)

on-is : {a l k b m j : ℕ} → on a l k ≡ on b m j → (a ≡ b) × (l ≡ m) × (k ≡ j)
on-is e = (cc, cc, cc)

-- What the check knows of a record that passed its tests
pub record Passed (s : List ℕ) (level path : ℕ) (from : Mark) : Type 0 where
  pub labelled : below level ≤ get_or s (from.at + 1) 0
  pub bare : get_or s (from.at + 1) 0 ≤ 255 * below level
  pub whole : from.at + 4 + get_or s (from.at + 1) 0 ≤ length s
  pub short : path + get_or s (from.at + 1) 0 ≤ 4096
  pub stocked : has_number (get_or s from.at 0) ≤ from.left

-- the mark behind the record
abbrev pub past_mark : List ℕ → Mark → Mark
past_mark s from =
    record {
      at = from.at + 4 + get_or s (from.at + 1) 0;
      left = from.left - has_number (get_or s from.at 0);
      nodes = from.nodes + 1;
    }

module _ (s : List ℕ) (level least path : ℕ) (from : Mark) where
  abbrev F : ℕ
  F = get_or s from.at 0

  abbrev M : ℕ
  M = get_or s (from.at + 1) 0

  abbrev Tests : Tested
  Tests = judge (count_rules s from.left level least path from.at)

  abbrev node_at : ℕ → List ℕ → Read Tree
  node_at n ns = read_node (read_kids n s) s level least path from.at ns

  abbrev kids_from : ℕ → List ℕ → Read Forest
  kids_from n ns = read_kids n s (level + 1) 0 (path + M) (from.at + 4 + M) (numbers_past (has_number F) ns)

  rules-count : (ns : List ℕ) → length ns ≡ from.left → judge (rules s ns level least path from.at) ≡ Tests
  rules-count ns k = ap (λ (l : ℕ). judge (count_rules s l level least path from.at)) k

  pub node-passed : sound ≡ Tests → Passed s level path from
  unfolding key_max
  node-passed e = let a = all_hold (count_rules s from.left level least path from.at) (sym e) in omega arith

  pub node-broken : (x : Refusal) → broken (refusal_told x) ≡ Tests → NodeChecked s level least path from (Err x)
  unfolding node_way
  node-broken x e =
      record {
        is = λ n ns h k. rw (node-refused n s ns level least path from.at (rules-count ns k ∙ sym e));
        within = tt;
      }

  -- a record that passed, over its children
  over : sound ≡ Tests → (n : ℕ) (ns : List ℕ) → length ns ≡ from.left
      → node_way from.nodes (node_at n ns)
      ≡ kids_way (from.nodes + 1) (maybe (has_child F) (from.at + 4 + M) (numbers_past (has_number F) ns) (kids_from n ns))
  over e n ns k =
      ap (node_way from.nodes) (node-is n s ns level least path from.at (rules-count ns k ∙ sym e))
      ∙ node-way from.nodes _ _

  past-left : (ns : List ℕ) → length ns ≡ from.left → length (numbers_past (has_number F) ns) ≡ from.left - has_number F
  past-left ns k = past-length (has_number F) ns (omega arith) ∙ ap (λ (l : ℕ). l - has_number F) k

  pub node-leaf : sound ≡ Tests → has_child F ≡ 0 → from.nodes ≤ from.at
      → NodeChecked s level least path from (Ok (past_mark s from))
  node-leaf e c few =
      let o = node-passed e in
      record {
        is = λ n ns h k.
            sym (over e n ns k
            ∙ none-way (from.nodes + 1) (has_child F) _ _ _ c
            ∙ ap (λ (l : ℕ). on (from.at + 4 + M) l (from.nodes + 1)) (past-left ns k));
        within = omega arith;
      }

  pub node-deep : (r : Answer Mark) → sound ≡ Tests → (has_child F ≡ 0 → ⊥)
      → KidsChecked s (level + 1) 0 (path + M) (past_mark s from) r → NodeChecked s level least path from r
  node-deep r e c q =
      record {
        is = λ n ns h k.
            q.is n (numbers_past (has_number F) ns) (omega arith) (past-left ns k)
            ∙ sym (over e n ns k ∙ ap (kids_way (from.nodes + 1)) (some-way (has_child F) _ _ _ c));
        within = wider r q.within;
      }
    where
      wider : (r : Answer Mark) → Within s (level + 1) (past_mark s from) r → Within s level from r
      wider (Ok m) w = let o = node-passed e in omega arith
      wider (Err x) w = tt

  -- no byte left for a record
  short-node : (n : ℕ) (ns : List ℕ) → length s < from.at + 4 → node_at n ns ≡ refused (refusal_at 6 from.at)
  short-node n ns h =
      node-refused n s ns level least path from.at (judge-off (at_most (from.at + 4) (length s) (refusal_at 6 from.at)) _ h)

  pub stop-broken : (x : Refusal) → NodeChecked s level least path from (Err x) → KidsChecked s level least path from (Err x)
  stop-broken x p = record { is = is; within = tt }
    where
      none : (ns : List ℕ) → node_at 0 ns ≡ refused (refusal_at 6 from.at) → off (refusal_told x) ≡ node_way from.nodes (node_at 0 ns)
          → off (refusal_told x) ≡ kids_way from.nodes (read_kids 0 s level least path from.at ns)
      none ns e w = w ∙ rw e (unfold node_way kids_way read_kids in refl)

      by : (n : ℕ) (ns : List ℕ) (t : Read Tree) → node_at n ns ≡ t → off (refusal_told x) ≡ node_way from.nodes t
          → off (refusal_told x) ≡ kids_way from.nodes (read_kids (suc n) s level least path from.at ns)
      by n ns (refused y) e w = rw (kids-refused n s ns level least path from.at e) (unfold node_way kids_way in w)
      by n ns (gave t a left) e w = unfold node_way in never (cc)

      is : (n : ℕ) (ns : List ℕ) → length s ≤ from.at + n → length ns ≡ from.left
          → off (refusal_told x) ≡ kids_way from.nodes (read_kids n s level least path from.at ns)
      is zero ns h k = none ns (short-node 0 ns (omega arith)) (p.is 0 ns (omega arith) k)
      is (suc n) ns h k = by n ns (node_at n ns) refl (p.is n ns h k)

  -- where a node ends that the check went past
  pub record Ended (m : Mark) (n : ℕ) (ns : List ℕ) : Type 0 where
    pub tree : Tree
    pub stock : List ℕ
    pub read : node_at n ns ≡ gave tree m.at stock
    pub left : length stock ≡ m.left
    pub nodes : from.nodes + nodes_t tree ≡ m.nodes

  pub ended : (m : Mark) → NodeChecked s level least path from (Ok m) → (n : ℕ) (ns : List ℕ) → length s ≤ from.at + suc n → length ns ≡ from.left
      → Ended m n ns
  unfolding node_way
  ended m r n ns h k = by (node_at n ns) refl (r.is n ns h k)
    where
      by : (t : Read Tree) → node_at n ns ≡ t → on m.at m.left m.nodes ≡ node_way from.nodes t → Ended m n ns
      by (refused y) e w = never (cc)
      by (gave t a stock) e w =
          let i = on-is w in
          record { tree = t; stock = stock; read = e ∙ ap (λ (x : ℕ). gave t x stock) (sym i.0); left = sym i.1; nodes = sym i.2 }

  -- a node with what follows it
  abbrev rest_at : (n a : ℕ) → List ℕ → Read Forest
  rest_at n a left = maybe (has_sibling F) a left (read_kids n s level (get_or s (from.at + 4) 0 + 1) path a left)

  behind : (m : Mark) (n : ℕ) (ns : List ℕ) (g : Ended m n ns)
      → kids_way from.nodes (read_kids (suc n) s level least path from.at ns)
      ≡ kids_way m.nodes (rest_at n m.at g.stock)
  behind m n ns g =
      ap (kids_way from.nodes) (kids-is n s ns level least path from.at g.read)
      ∙ rest-way from.nodes _ _ g.tree _
      ∙ ap (λ (k : ℕ). kids_way k (rest_at n m.at g.stock)) g.nodes

  pub stop-last : (m : Mark) → NodeChecked s level least path from (Ok m) → has_sibling F ≡ 0 → KidsChecked s level least path from (Ok m)
  stop-last m r e = record { is = is; within = r.within }
    where
      is : (n : ℕ) (ns : List ℕ) → length s ≤ from.at + n → length ns ≡ from.left
          → on m.at m.left m.nodes ≡ kids_way from.nodes (read_kids n s level least path from.at ns)
      is zero ns h k = absurd (omega (arith, r.within))
      is (suc n) ns h k =
          let g = ended m r n ns h k in
          sym (behind m n ns g ∙ none-way m.nodes (has_sibling F) _ _ _ e ∙ ap (λ (l : ℕ). on m.at l m.nodes) g.left)

  pub go_on : (m : Mark) (r : Answer Mark) → NodeChecked s level least path from (Ok m) → (has_sibling F ≡ 0 → ⊥)
      → KidsChecked s level (get_or s (from.at + 4) 0 + 1) path m r → KidsChecked s level least path from r
  go_on m r p e q = record { is = is; within = wider r q.within }
    where
      is : (n : ℕ) (ns : List ℕ) → length s ≤ from.at + n → length ns ≡ from.left
          → way_of r ≡ kids_way from.nodes (read_kids n s level least path from.at ns)
      is zero ns h k = absurd (omega (arith, p.within))
      is (suc n) ns h k =
          let g = ended m p n ns h k in
          q.is n g.stock (omega (arith, p.within)) g.left
          ∙ sym (behind m n ns g ∙ ap (kids_way m.nodes) (some-way (has_sibling F) _ _ _ e))

      wider : (r : Answer Mark) → Within s level m r → Within s level from r
      wider (Ok b) w = omega (arith, p.within)
      wider (Err x) w = tt

-- What the loop over siblings keeps: whatever answers the rest answers all.
pub record Walk (s : List ℕ) (level path : ℕ) (from : Mark) (least : ℕ) (m : Mark) : Type 0 where
  pub forth : from.at ≤ m.at
  pub inside : m.at ≤ length s
  pub few : m.nodes ≤ m.at
  pub whole : (r : Answer Mark) → KidsChecked s level least path m r → KidsChecked s level 0 path from r
