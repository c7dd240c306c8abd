-- How the reader goes: a node whose record is sound, and a list of siblings, each in one equation, and what follows
-- where they gave something. Assumes nothing.
use mathlib.Core.Path.{◌≡◌, refl, sym, ◌∙◌, ap}
use mathlib.Core.List.{List}
use Prim.Native.Nat.{ℕ, ◌+◌, zero, suc}
use lib.ListN.{length, get_or}
use Rattle.tree.specs.Map.{Num}
use Rattle.tree.specs.Tree.{Forest, nil, node, Tree, nodes_t}
use Rattle.tree.specs.Told.{Told}
use Rattle.tree.specs.Reader.{Rule, Tested, broken, sound, judge, has_number, has_child, has_sibling, rules, number_of, numbers_past, label_rest}
use Rattle.tree.specs.Reader.{Read, refused, gave, over_kids, read_node, over_rest, read_kids, last_rules, refused_with, ok, read_t}
use Rattle.tree.proofs.Judge.{never, All, all_hold}
use Rattle.tree.proofs.ReaderRules.{FineAt, fine}

-- A reading where the flag is set, and an empty forest where not
unfoldable pub maybe : (flag : ℕ) (at : ℕ) → List ℕ → Read Forest → Read Forest
maybe zero at ns r = gave nil at ns
maybe (suc i) at ns r = r

kids_maybe : (flag at : ℕ) (w : Num) (ns : List ℕ) (r : Read Forest)
    → elim flag [ zero ↦ gave (record { num = w; kids = nil }) at ns | suc i ↦ over_kids w r ] ≡ over_kids w (maybe flag at ns r)
unfolding maybe over_kids
kids_maybe zero at w ns r = refl
kids_maybe (suc i) at w ns r = refl

rest_maybe : (flag b at : ℕ) (l : List ℕ) (t : Tree) (ns : List ℕ) (r : Read Forest)
    → elim flag [ zero ↦ gave (node b l t.num t.kids nil) at ns | suc i ↦ over_rest b l t r ] ≡ over_rest b l t (maybe flag at ns r)
unfolding maybe over_rest
rest_maybe zero b at l t ns r = refl
rest_maybe (suc i) b at l t ns r = refl

-- Where the tree, or the forest, that was given came from
kids_from : (w : Num) (r : Read Forest) {t : Tree} {a : ℕ} {left : List ℕ} → over_kids w r ≡ gave t a left
    → (t.num ≡ w) × (r ≡ gave t.kids a left)
unfolding over_kids
kids_from w (refused x) e = never (cc)
kids_from w (gave ks b ns) {t} e =
    let made : Tree = record { num = w; kids = ks } in
    let is : t ≡ made = cc in
    (ap (λ u. u.num) is, rw is (cc))

pub rest_from : (b : ℕ) (l : List ℕ) (t : Tree) (r : Read Forest) {f : Forest} {a : ℕ} {left : List ℕ}
    → over_rest b l t r ≡ gave f a left
    → (rest : Forest) × (f ≡ node b l t.num t.kids rest) × (r ≡ gave rest a left)
unfolding over_rest
rest_from b l t (refused x) e = never (cc)
rest_from b l t (gave rest c ns) e = (rest, cc, cc)

module _ (n : ℕ) (s ns : List ℕ) (level least path at : ℕ) where
  abbrev F : ℕ
  F = get_or s at 0

  abbrev M : ℕ
  M = get_or s (at + 1) 0

  abbrev past : List ℕ
  past = numbers_past (has_number F) ns

  abbrev test : Tested
  test = judge (rules s ns level least path at)

  abbrev read : Read Tree
  read = read_node (read_kids n s) s level least path at ns

  -- the children that follow the record, and the siblings that follow those
  abbrev kids : Read Forest
  kids = maybe (has_child F) (at + 4 + M) past (read_kids n s (level + 1) 0 (path + M) (at + 4 + M) past)

  abbrev rest : (a : ℕ) (left : List ℕ) → Read Forest
  rest a left = maybe (has_sibling F) a left (read_kids n s level (get_or s (at + 4) 0 + 1) path a left)

  pub node-is : test ≡ sound → read ≡ over_kids (number_of (has_number F) ns) kids
  unfolding read_node
  node-is e = rw (e, read_node) (kids_maybe (has_child F) _ _ _ _)

  pub node-refused : {x : Told} → test ≡ broken x → read ≡ refused x
  unfolding read_node
  node-refused e = rw (e, read_node)

  pub kids-is : {t : Tree} {a : ℕ} {left : List ℕ} → read ≡ gave t a left
      → read_kids (suc n) s level least path at ns ≡ over_rest (get_or s (at + 4) 0) (label_rest s at) t (rest a left)
  unfolding read_kids
  kids-is e = rw (e, read_kids) (rest_maybe (has_sibling F) _ _ _ _ _ _)

  pub kids-refused : {x : Told} → read ≡ refused x → read_kids (suc n) s level least path at ns ≡ refused x
  unfolding read_kids
  kids-refused e = rw (e, read_kids)

  pub record NodeGave (t : Tree) (a : ℕ) (left : List ℕ) : Type 0 where
    pub fine : FineAt s ns level least path at
    pub num : t.num ≡ number_of (has_number F) ns
    pub below : kids ≡ gave t.kids a left

  pub node-gave : {t : Tree} {a : ℕ} {left : List ℕ} → read ≡ gave t a left → NodeGave t a left
  node-gave {t} {a} {left} e = by test refl
    where
      by : (x : Tested) → test ≡ x → NodeGave t a left
      by (broken x) j = never (cc (node-refused j))
      by sound j =
          let k = kids_from _ kids (sym (node-is j) ∙ e) in
          record { fine = fine s ns level least path at j; num = k.0; below = k.1 }

  pub record KidsGave (f : Forest) (a : ℕ) (left : List ℕ) : Type 0 where
    pub tree : Tree
    pub end : ℕ
    pub stock : List ℕ
    pub first : NodeGave tree end stock
    pub others : Forest
    pub behind : rest end stock ≡ gave others a left
    pub is : f ≡ node (get_or s (at + 4) 0) (label_rest s at) tree.num tree.kids others

  pub kids-gave : {f : Forest} {a : ℕ} {left : List ℕ} → read_kids (suc n) s level least path at ns ≡ gave f a left → KidsGave f a left
  kids-gave {f} {a} {left} e = by read refl
    where
      by : (r : Read Tree) → read ≡ r → KidsGave f a left
      by (refused x) r = never (cc (kids-refused r))
      by (gave t b stock) r =
          let k = rest_from _ _ t (rest b stock) (sym (kids-is r) ∙ e) in
          record { tree = t; end = b; stock = stock; first = node-gave r; others = k.0; behind = k.2; is = k.1 }

-- The verdict
module _ (s ns : List ℕ) (slots : ℕ) where
  abbrev root : Read Tree
  root = read_node (read_kids (length s) s) s 0 0 0 0 ns

  abbrev last : (t : Tree) (a : ℕ) (left : List ℕ) → List Rule
  last t a left = last_rules s left a (nodes_t t) slots

  pub read_refused : {x : Told} → root ≡ refused x → read_t s ns slots ≡ refused_with x
  unfolding read_t
  read_refused e = rw (e, read_t)

  pub read_broken : {t : Tree} {a : ℕ} {left : List ℕ} {x : Told} → root ≡ gave t a left
      → judge (last t a left) ≡ broken x → read_t s ns slots ≡ refused_with x
  unfolding read_t
  read_broken e j = rw (e, read_t, j)

  pub read_ok : {t : Tree} {a : ℕ} {left : List ℕ} → root ≡ gave t a left → judge (last t a left) ≡ sound → read_t s ns slots ≡ ok t
  unfolding read_t
  read_ok e j = rw (e, read_t, j)

  -- How an image came to be accepted
  pub record Accepted (t : Tree) : Type 0 where
    pub end : ℕ
    pub left : List ℕ
    pub read : root ≡ gave t end left
    pub rules : All (last t end left)

  pub accepted : (t : Tree) → read_t s ns slots ≡ ok t → Accepted t
  accepted t e = by root refl
    where
      judged : (u : Tree) (a : ℕ) (left : List ℕ) → root ≡ gave u a left → (x : Tested) → judge (last u a left) ≡ x → Accepted t
      judged u a left r (broken x) j = never (cc (read_broken r j))
      judged u a left r sound j =
          let same : u ≡ t = cc (read_ok r j) in
          rw (← same) (record { end = a; left = left; read = r; rules = all_hold (last u a left) j })

      by : (r : Read Tree) → root ≡ r → Accepted t
      by (refused x) r = never (cc (read_refused r))
      by (gave u a left) r = judged u a left r _ refl
