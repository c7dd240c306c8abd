-- A refusal never tells 0. So of every call that changes a pool 0 means done, and any other number that it has refused.
-- Assumes nothing.
use mathlib.Core.Path.{◌≡◌, refl, sym, ◌∙◌}
use mathlib.Core.Bool.{Bool, true, false}
use mathlib.Core.List.{List, [], ◌∷◌}
use mathlib.Core.Option.{Option, none, some}
use Prim.Native.Nat.{ℕ, zero, suc}
use native.Mathlib.Omega.{arith}
use lib.ListN.{length}
use lib.Dec.{leb}
use Rattle.tree.specs.Key.{Key}
use Rattle.tree.specs.Map.{Num}
use Rattle.tree.specs.Tree.{Forest, Tree, nodes_t}
use Rattle.tree.specs.Insert.{insert_t}
use Rattle.tree.specs.Remove.{remove_t}
use Rattle.tree.specs.Search.{get_t, looked_t}
use Rattle.tree.specs.Split.{Halves, absent, halves, split_t}
use Rattle.tree.specs.Told.{Told}
use Rattle.tree.specs.Reader.{Rule, Tested, broken, sound, judge, rules}
use Rattle.tree.specs.Reader.{Read, refused, gave, over_kids, read_node, over_rest, read_kids, last_rules, refused_with, ok, read_t}
use Rattle.tree.specs.Calls.{Outcome, refuses, leaves, SplitOutcome, refuses_both, leaves_both, fits, make_call, clear_call, insert_call, remove_told, remove_call, split_told, split_call, both, read_told, read_call}
use Rattle.tree.proofs.Judge.{never, tells, judge-on, judge-off, decide, holds, fails}
use Rattle.tree.proofs.ReaderSteps.{maybe, node-is, node-refused, kids-is, kids-refused}

abbrev pub Refusing : Told → Type 0
Refusing x = ¬ (x.number ≡ 0)

abbrev pub Honest : Outcome → Type 0
Honest (refuses x) = Refusing x
Honest (leaves vs t) = Unit {0}

abbrev pub HonestBoth : SplitOutcome → Type 0
HonestBoth (refuses_both x) = Refusing x
HonestBoth (leaves_both d u) = Unit {0}

refusing : (n : ℕ) (vs : List ℕ) → Refusing (record { number = suc n; values = vs })
refusing n vs e = omega arith

pub make_honest : (slots : Option ℕ) → Honest (make_call slots)
unfolding make_call
make_honest none = refusing 0 []
make_honest (some s) = tt

pub clear_honest : (o : Option Tree) → Honest (clear_call o)
unfolding clear_call
clear_honest none = refusing 0 []
clear_honest (some t) = tt

honest_if : (b : Bool) (x y : Outcome) → Honest x → Honest y → Honest (elim b [ false ↦ x | true ↦ y ])
honest_if false x y h i = h
honest_if true x y h i = i

pub insert_honest : (o : Option Tree) (slots : ℕ) (k : Key) (v : ℕ) → Honest (insert_call o slots k v)
unfolding insert_call
insert_honest none slots k v = refusing 0 []
insert_honest (some t) slots k v =
    honest_if (fits k) _ _ (refusing 1 []) (honest_if (leb (nodes_t (insert_t t k v)) slots) _ _ (refusing 3 []) tt)

pub remove_honest : (o : Option Tree) (k : Key) → Honest (remove_call o k)
unfolding remove_call remove_told
remove_honest none k = refusing 0 []
remove_honest (some t) k = honest_if (fits k) _ _ (refusing 1 []) (told (remove_t t k))
  where
    told : (o : Option Tree) → Honest (remove_told (looked_t t k) (get_t t k) o)
    told none = refusing 2 (looked_t t k ∷ [])
    told (some u) = tt

both_if : (b : Bool) (x y : SplitOutcome) → HonestBoth x → HonestBoth y → HonestBoth (elim b [ false ↦ x | true ↦ y ])
both_if false x y h i = h
both_if true x y h i = i

pub split_honest : (o : Option Tree) (slots : Option ℕ) (p : Key) → HonestBoth (split_call o slots p)
unfolding split_call split_told
split_honest none slots p = refusing 0 []
split_honest (some t) none p = refusing 0 []
split_honest (some t) (some slots) p = both_if (fits p) _ _ (refusing 1 []) (told (split_t t p))
  where
    told : (h : Halves) → HonestBoth (split_told slots h)
    told absent = refusing 2 []
    told (halves d u) = both_if (leb (nodes_t d) slots) _ _ (refusing 3 []) tt

-- The reader: every test of a record tells a refusal,
abbrev some_number : ℕ → Bool
some_number zero = false
some_number (suc n) = true

abbrev refuse_all : List Rule → Bool
refuse_all [] = true
refuse_all (r ∷ rs) = both (some_number (tells r).number) (refuse_all rs)

first-refuses : (n : ℕ) (b : Bool) → both (some_number n) b ≡ true → ¬ (n ≡ 0)
unfolding both
first-refuses zero b h e = never (cc)
first-refuses (suc n) b h e = omega arith

others_refuse : (n : ℕ) (b : Bool) → both (some_number n) b ≡ true → b ≡ true
unfolding both
others_refuse zero b h = never (cc)
others_refuse (suc n) b h = h

-- so the first that fails does,
judge-refuses : (rs : List Rule) {x : Told} → refuse_all rs ≡ true → judge rs ≡ broken x → Refusing x
judge-refuses [] h e = never (unfold judge in cc)
judge-refuses (r ∷ rs) {x} h e =
    elim (decide r) [
      | holds i ↦ judge-refuses rs (others_refuse (tells r).number (refuse_all rs) h) (sym (judge-on r rs i) ∙ e)
      | fails i ↦ let same : tells r ≡ x = cc (judge-off r rs i) in rw (← same) (first-refuses (tells r).number (refuse_all rs) h)
    ]

rules_refuse : (s ns : List ℕ) (level least path at : ℕ) → refuse_all (rules s ns level least path at) ≡ true
unfolding both
rules_refuse s ns level least path at = refl

-- and so do a node and a list of siblings.
abbrev ReadRefuses : {A : Type 0} → Read A → Type 0
ReadRefuses (refused x) = Refusing x
ReadRefuses (gave y at left) = Unit {0}

over-kids : (w : Num) (r : Read Forest) → ReadRefuses r → ReadRefuses (over_kids w r)
unfolding over_kids
over-kids w (refused x) h = h
over-kids w (gave ks at left) h = tt

over-rest : (b : ℕ) (l : List ℕ) (t : Tree) (r : Read Forest) → ReadRefuses r → ReadRefuses (over_rest b l t r)
unfolding over_rest
over-rest b l t (refused x) h = h
over-rest b l t (gave rest at left) h = tt

maybe_refuses : (flag at : ℕ) (ns : List ℕ) (r : Read Forest) → ReadRefuses r → ReadRefuses (maybe flag at ns r)
unfolding maybe
maybe_refuses zero at ns r h = tt
maybe_refuses (suc i) at ns r h = h

abbrev KidsRefuse : (n : ℕ) (s : List ℕ) → Type 0
KidsRefuse n s = (level least path at : ℕ) (ns : List ℕ) → ReadRefuses (read_kids n s level least path at ns)

node-refuses : (n : ℕ) (s : List ℕ) → KidsRefuse n s → (level least path at : ℕ) (ns : List ℕ)
    → ReadRefuses (read_node (read_kids n s) s level least path at ns)
node-refuses n s h level least path at ns = by (judge (rules s ns level least path at)) refl
  where
    by : (x : Tested) → judge (rules s ns level least path at) ≡ x → ReadRefuses (read_node (read_kids n s) s level least path at ns)
    by (broken x) e = rw (node-refused n s ns level least path at e) (judge-refuses (rules s ns level least path at) (rules_refuse s ns level least path at) e)
    by sound e = rw (node-is n s ns level least path at e) (over-kids _ _ (maybe_refuses _ _ _ _ (h _ _ _ _ _)))

kids-after : (n : ℕ) (s : List ℕ) → KidsRefuse n s → KidsRefuse (suc n) s
kids-after n s h level least path at ns = by (read_node (read_kids n s) s level least path at ns) refl
  where
    by : (r : Read Tree) → read_node (read_kids n s) s level least path at ns ≡ r → ReadRefuses (read_kids (suc n) s level least path at ns)
    by (refused x) e = rw (kids-refused n s ns level least path at e) (rw e at (node-refuses n s h level least path at ns))
    by (gave t a left) e = rw (kids-is n s ns level least path at e) (over-rest _ _ t _ (maybe_refuses _ _ _ _ (h _ _ _ _ _)))

kids_refuse : (n : ℕ) (s : List ℕ) → KidsRefuse n s
kids_refuse zero s level least path at ns = unfold read_kids in refusing 5 (at ∷ [])
kids_refuse (suc n) s level least path at ns = kids-after n s (kids_refuse n s) level least path at ns

pub read_honest : (slots : Option ℕ) (s ns : List ℕ) → Honest (read_call slots s ns)
unfolding read_call read_told read_t
read_honest none s ns = refusing 0 []
read_honest (some slots) s ns = by (read_node (read_kids (length s) s) s 0 0 0 0 ns) (node-refuses (length s) s (kids_refuse (length s) s) 0 0 0 0 ns)
  where
    last : (t : Tree) (at : ℕ) (left : List ℕ) (x : Tested) → judge (last_rules s left at (nodes_t t) slots) ≡ x
        → Honest (read_told (elim x [ broken y ↦ refused_with y | sound ↦ ok t ]))
    last t at left (broken x) e = judge-refuses (last_rules s left at (nodes_t t) slots) (unfold both in refl) e
    last t at left sound e = tt

    by : (r : Read Tree) → ReadRefuses r
        → Honest (read_told (elim r [ refused x ↦ refused_with x | gave t at left ↦ elim (judge (last_rules s left at (nodes_t t) slots)) [ broken x ↦ refused_with x | sound ↦ ok t ] ]))
    by (refused x) h = h
    by (gave t at left) h = last t at left (judge (last_rules s left at (nodes_t t) slots)) refl
