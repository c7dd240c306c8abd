-- Bits that stand alone never matter: the reader says the same of an image and of the image cleared, with the same
-- refusals at the same offsets. Assumes nothing.
use mathlib.Core.Path.{◌≡◌, refl, sym, ◌∙◌}
use mathlib.Core.List.{List}
use Prim.Native.Nat.{ℕ, ◌+◌, ◌≤◌, zero, suc}
use native.Mathlib.Decide.{dec_lt}
use native.Mathlib.Omega.{arith}
use lib.ListN.{length, get_or, drop}
use Rattle.tree.specs.Key.{Key}
use Rattle.tree.specs.Tree.{Forest, Tree, nodes_t}
use Rattle.tree.specs.Reader.{Tested, broken, sound, judge, has_number, has_child, has_sibling, rules, numbers_past}
use Rattle.tree.specs.Reader.{Read, refused, gave, read_node, read_kids, last_rules, read_t}
use Rattle.tree.specs.Cleared.{cleared}
use Rattle.tree.proofs.Judge.{never, JudgedAlike, onto, judge_alike}
use Rattle.tree.proofs.ReaderRules.{fine}
use Rattle.tree.proofs.Bits.{flag_alike}
use Rattle.tree.proofs.Cleared.{cleared-length}
use Rattle.tree.proofs.ReaderSteps.{maybe, node-is, node-refused, node-gave, kids-is, kids-refused, rest_from}
use Rattle.tree.proofs.ReaderSteps.{read_refused, read_broken, read_ok}
use Rattle.tree.proofs.ReaderStands.{below_one}
use Rattle.tree.proofs.SameRecord.{RecordStarts, same_record}

module _ (s : Key) where
  abbrev c : Key
  c = cleared s

  -- The tests of a record. Without a label the byte behind it is no first byte: there either the label is missed, or
  -- any byte will do.
  module _ (ns : List ℕ) (level least path at : ℕ) (free : level ≡ 0 → least ≡ 0) (b : RecordStarts s at) where
    rules_alike : JudgedAlike (rules c ns level least path at) (rules s ns level least path at)
    rules_alike = (omega (arith, cleared-length 0 s), λ h. behind (omega (arith, h, cleared-length 0 s)))
      where
        behind : at + 4 ≤ length s
            → JudgedAlike (drop 1 (rules c ns level least path at)) (drop 1 (rules s ns level least path at))
        behind h =
            let long = cleared-length 0 s in
            let k = same_record s at h b in
            let f = flag_alike _ _ k.flag in
            onto f.few (onto f.number (onto f.child (onto f.sibling (
            elim (dec_lt 0 (get_or s (at + 1) 0)) [
              | yes l ↦ omega (arith, k.first l)
              | no n ↦
                  elim (dec_lt 0 level) [
                    | yes d ↦ omega (arith, below_one level d)
                    | no z ↦ omega (arith, free (omega arith))
                  ]
            ]
            ))))

    rules-same : judge (rules c ns level least path at) ≡ judge (rules s ns level least path at)
    rules-same = judge_alike _ _ refl rules_alike

  -- The same is read, and what is read ends where a record may begin.
  record ReadsSame {A : Type 0} (cleared_read plain_read : Read A) : Type 0 where
    same : cleared_read ≡ plain_read
    onward : (x : A) (a : ℕ) (left : List ℕ) → plain_read ≡ gave x a left → RecordStarts s a

  abbrev SameKids : ℕ → Type 0
  SameKids n =
      (ns : List ℕ) (level least path at : ℕ) → 1 ≤ level → RecordStarts s at
      → ReadsSame (read_kids n c level least path at ns) (read_kids n s level least path at ns)

  maybe_onward : (flag at : ℕ) (ns : List ℕ) (r : Read Forest) → RecordStarts s at
      → ((f : Forest) (a : ℕ) (left : List ℕ) → r ≡ gave f a left → RecordStarts s a)
      → (f : Forest) (a : ℕ) (left : List ℕ) → maybe flag at ns r ≡ gave f a left → RecordStarts s a
  unfolding maybe
  maybe_onward zero at ns r b on f a left e = let is : a ≡ at = cc in rw is b
  maybe_onward (suc i) at ns r b on f a left e = on f a left e

  module _ (n : ℕ) (kids : SameKids n) (ns : List ℕ) (level least path at : ℕ) (free : level ≡ 0 → least ≡ 0)
      (b : RecordStarts s at) where
    abbrev SameNode : Type 0
    SameNode =
        ReadsSame (read_node (read_kids n c) c level least path at ns) (read_node (read_kids n s) s level least path at ns)

    node-same : SameNode
    node-same = by _ refl
      where
        by : (x : Tested) → judge (rules s ns level least path at) ≡ x → SameNode
        by (broken x) j =
            let r = node-refused n s ns level least path at j in
            record {
              same = node-refused n c ns level least path at (rules-same ns level least path at free b ∙ j) ∙ sym r;
              onward = λ t a left e. never (cc);
            }
        by sound j =
            let fine = fine s ns level least path at j in
            let k = same_record s at fine.head b in
            let f = flag_alike _ _ k.flag in
            let F = get_or s at 0 in
            let M = get_or s (at + 1) 0 in
            let past = numbers_past (has_number F) ns in
            let below = kids past (level + 1) 0 (path + M) (at + 4 + M) (omega arith) k.next in
            let is = node-is n s ns level least path at j in
            record {
              same =
                  node-is n c ns level least path at (rules-same ns level least path at free b ∙ j)
                  ∙ rw (f.says_number, f.says_child, k.len, below.same) (sym is);
              onward = λ t a left e.
                  let g = node-gave n s ns level least path at e in
                  maybe_onward (has_child F) (at + 4 + M) past _ k.next below.onward t.kids a left g.below;
            }

    kids-more : 1 ≤ level
        → ReadsSame (read_kids (suc n) c level least path at ns) (read_kids (suc n) s level least path at ns)
    kids-more h = by _ refl
      where
        by : (r : Read Tree) → read_node (read_kids n s) s level least path at ns ≡ r
            → ReadsSame (read_kids (suc n) c level least path at ns) (read_kids (suc n) s level least path at ns)
        by (refused x) r =
            let e = kids-refused n s ns level least path at r in
            record {
              same = kids-refused n c ns level least path at (node-same.same ∙ r) ∙ sym e;
              onward = λ f a left g. never (cc);
            }
        by (gave t a left) r =
            let fine = (node-gave n s ns level least path at r).fine in
            let k = same_record s at fine.head b in
            let f = flag_alike _ _ k.flag in
            let first = k.first (omega (arith, fine.labelled, below_one level h)) in
            let end = node-same.onward t a left r in
            let rest = kids left level (get_or s (at + 4) 0 + 1) path a h end in
            let e = kids-is n s ns level least path at r in
            record {
              same =
                  kids-is n c ns level least path at (node-same.same ∙ r)
                  ∙ rw (f.says_sibling, first, k.others, rest.same) (sym e);
              onward = λ g d more z.
                  let y = rest_from _ _ t _ (sym e ∙ z) in
                  maybe_onward (has_sibling (get_or s at 0)) a left _ end rest.onward y.0 d more y.2;
            }

  kids-same : (n : ℕ) → SameKids n
  kids-same zero ns level least path at h b =
      unfold read_kids in record { same = refl; onward = λ f a left e. never (cc) }
  kids-same (suc n) ns level least path at h b =
      kids-more n (kids-same n) ns level least path at (λ z. absurd (omega arith)) b h

  -- The verdict asks besides only for the length.
  pub read_cleared : (ns : List ℕ) (slots : ℕ) → read_t s ns slots ≡ read_t c ns slots
  read_cleared ns slots = by (root s) refl
    where
      root : Key → Read Tree
      root t = read_node (read_kids (length s) t) t 0 0 0 0 ns

      same : (r : Read Tree) → root s ≡ r → read_node (read_kids (length c) c) c 0 0 0 0 ns ≡ r
      same r e =
          let whole = node-same (length s) (kids-same (length s)) ns 0 0 0 0 (λ z. z) refl in
          rw (cleared-length 0 s) whole.same ∙ e

      last : (t : Tree) (a : ℕ) (left : List ℕ) → root s ≡ gave t a left
          → (x : Tested) → judge (last_rules s left a (nodes_t t) slots) ≡ x → read_t s ns slots ≡ read_t c ns slots
      last t a left r (broken x) j =
          read_broken s ns slots r j ∙ sym (read_broken c ns slots (same _ r) (rw (cleared-length 0 s) j))
      last t a left r sound j = read_ok s ns slots r j ∙ sym (read_ok c ns slots (same _ r) (rw (cleared-length 0 s) j))

      by : (r : Read Tree) → root s ≡ r → read_t s ns slots ≡ read_t c ns slots
      by (refused x) r = read_refused s ns slots r ∙ sym (read_refused c ns slots (same (refused x) r))
      by (gave t a left) r = last t a left r _ refl
