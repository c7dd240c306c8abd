-- The verdict on an image, from what the check of the root counted. Assumes nothing.
use mathlib.Core.Path.{◌≡◌, refl, sym, ap, ◌∙◌}
use mathlib.Core.List.{List, [], ◌∷◌}
use Prim.Native.Nat.{ℕ}
use native.Mathlib.Omega.{arith}
use lib.ListN.{length, take}
use Rattle.std.specs.Prelude.{Ok, Err}
use Rattle.tree.specs.Tree.{Tree, nodes_t}
use Rattle.tree.specs.Told.{Told, refusal, refusal_at, refusal_told}
use Rattle.tree.specs.Reader.{Rule, at_most, Tested, broken, sound, judge, last_rules, Read, refused, gave, read_node, read_kids, refused_with, ok, read_t}
use Rattle.tree.specs.declared.Refusal.{Refusal}
use Rattle.tree.proofs.Judge.{never, Fails, tells, All, passed}
use Rattle.reader.specs.declared.Mark.{Mark}
use Rattle.reader.specs.Check.{off, node_way, start, RootChecked, Count, refuses, holds, verdict_count, CheckedAs}
use Rattle.reader.proofs.Tests.{nth, broken-at}
use Rattle.reader.proofs.Walk.{ended}

-- The tests after the last node, counted
abbrev pub count_last : (s : List ℕ) (m : Mark) (slots : ℕ) → List Rule
count_last s m slots =
    at_most (length s) m.at (refusal_at 13 m.at) ∷ at_most m.left 0 (refusal_at 12 (length s)) ∷ at_most m.nodes slots (refusal 4) ∷ []

unfoldable pub by_test : ℕ → Tested → Count
by_test k (broken x) = refuses x
by_test k sound = holds k

module _ (s : List ℕ) (slots : ℕ) where
  abbrev root : List ℕ → Read Tree
  root ns = read_node (read_kids (length s) s) s 0 0 0 0 ns

  refused-is : (ns : List ℕ) {x : Told} → root ns ≡ refused x → verdict_count (read_t s ns slots) ≡ refuses x
  unfolding read_t verdict_count
  refused-is ns e = rw (e, read_t)

  gave-is : (ns : List ℕ) {t : Tree} {a : ℕ} {left : List ℕ} → root ns ≡ gave t a left
      → verdict_count (read_t s ns slots) ≡ by_test (nodes_t t) (judge (last_rules s left a (nodes_t t) slots))
  unfolding read_t
  gave-is ns {t} {a} {left} e = rw (e, read_t) (by (judge (last_rules s left a (nodes_t t) slots)))
    where
      by : (x : Tested) → verdict_count (elim x [ broken x ↦ refused_with x | sound ↦ ok t ]) ≡ by_test (nodes_t t) x
      by (broken x) = unfold verdict_count by_test in refl
      by sound = unfold verdict_count by_test in refl

  pub verdict_refused : (numbers : ℕ) (x : Refusal) → RootChecked s numbers (Err x) → CheckedAs s numbers slots (Err x)
  verdict_refused numbers x r ns k = by (root ns) refl (r.is (length s) ns (omega arith) k)
    where
      by : (t : Read Tree) → root ns ≡ t → off (refusal_told x) ≡ node_way 0 t → refuses (refusal_told x) ≡ verdict_count (read_t s ns slots)
      by (refused y) e w = unfold node_way in cc (refused-is ns e)
      by (gave t a left) e w = unfold node_way in never (cc)

  counted : (numbers : ℕ) (m : Mark) → RootChecked s numbers (Ok m) → (ns : List ℕ) → length ns ≡ numbers
      → by_test m.nodes (judge (count_last s m slots)) ≡ verdict_count (read_t s ns slots)
  counted numbers m r ns k =
      let g = ended s 0 0 0 (start numbers) m r (length s) ns (omega arith) k in
      let n : nodes_t g.tree ≡ m.nodes = omega (arith, g.nodes) in
      sym (gave-is ns g.read ∙ rw (n, g.left))

  -- the tests after the last node as the code makes them
  module _ (numbers : ℕ) (m : Mark) (r : RootChecked s numbers (Ok m)) where
    pub verdict_broken : (i : ℕ) → All (take i (count_last s m slots)) → Fails (nth i (count_last s m slots)) → (ns : List ℕ) → length ns ≡ numbers
        → refuses (tells (nth i (count_last s m slots))) ≡ verdict_count (read_t s ns slots)
    unfolding by_test
    verdict_broken i h f ns k = ap (by_test m.nodes) (broken-at (count_last s m slots) i h f) ∙ counted numbers m r ns k

    pub verdict_ok : All (count_last s m slots) → CheckedAs s numbers slots (Ok m.nodes)
    unfolding by_test
    verdict_ok h ns k = ap (by_test m.nodes) (sym (passed (count_last s m slots) h)) ∙ counted numbers m r ns k
