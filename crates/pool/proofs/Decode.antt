-- `forest_at` and `pool_tree` case by case. Assumes nothing.
use mathlib.Core.Path.{◌≡◌, refl, sym, ap, ◌∙◌}
use mathlib.Core.Bool.{Bool, true, false}
use mathlib.Core.List.{List}
use mathlib.Core.Option.{Option, none, some}
use Prim.Native.Nat.{ℕ, zero, suc, ◌+◌, ◌≤◌}
use native.Mathlib.Omega.{arith}
use lib.ListN.{length, drop}
use lib.Dec.{eqb}
use borrow.Author.Tests.{eq-eqb, ne_eqb, eqb-true, eqb-false}
use Rattle.tree.specs.Key.{Key, key_max}
use Rattle.tree.specs.Map.{Num}
use Rattle.tree.specs.Tree.{Forest, nil, node, Tree}
use Rattle.tree.specs.Reader.{broken, judge}
use Rattle.tree.proofs.Order.{none-some}
use Rattle.tree.proofs.Judge.{All, passed, passes, breaks, judged}
use Rattle.slots.specs.Layout.{slots_in, nodes_of, start_of, len_of, has_of, span_of, first_of, label_of, num_at}
use Rattle.pool.specs.Pool.{length_rules, slots_of, child_rules, joined, forest_at, root_rules, rooted, pool_tree}
use Rattle.pool.specs.Rule.{Lengths}

-- Two numbers are equal or not, with the test's answer.
pub data Alike (a b : ℕ) : Type 0 where
  even : a ≡ b → eqb a b ≡ true → Alike a b
  odd : (a ≡ b → ⊥) → eqb a b ≡ false → Alike a b

pub alike : (a b : ℕ) → Alike a b
alike a b = go (eqb a b) refl
  where
    go : (t : Bool) → eqb a b ≡ t → Alike a b
    go true e = even (eqb-true a b e) e
    go false e = odd (eqb-false a b e) e

-- What the tests of a child ask, by name
pub record Kid (ws bs : List ℕ) (s least c e : ℕ) : Type 0 where
  pub start : start_of ws c ≡ s
  pub some : 1 ≤ len_of ws c
  pub short : len_of ws c ≤ 255
  pub deep : s + len_of ws c ≤ key_max
  pub has : has_of ws c ≤ 1
  pub span : 1 ≤ span_of ws c
  pub inside : c + span_of ws c ≤ e
  pub used : 2 ≤ has_of ws c + span_of ws c
  pub order : least ≤ first_of bs c

module _ (ws bs : List ℕ) (s least c e : ℕ) where
  kid_of : All (child_rules ws bs s least c e) → Kid ws bs s least c e
  kid_of h = omega arith

  of_kid : Kid ws bs s least c e → All (child_rules ws bs s least c e)
  of_kid k = omega arith

-- the node in slot c, over what stands below and beside it
abbrev over : (ws bs : List ℕ) (c : ℕ) (kids rest : Option Forest) → Option Forest
over ws bs c kids rest = joined (first_of bs c) (drop 1 (label_of ws bs c)) (num_at ws c) kids rest

abbrev pub node_in : (ws bs : List ℕ) (c : ℕ) (kids rest : Forest) → Forest
node_in ws bs c kids rest = node (first_of bs c) (drop 1 (label_of ws bs c)) (num_at ws c) kids rest

module _ (ws bs : List ℕ) (s least c e : ℕ) where
  pub at-end : (n : ℕ) → c ≡ e → forest_at n ws bs s least c e ≡ some nil
  unfolding forest_at
  at-end zero h = rw (eq-eqb c e h, forest_at)
  at-end (suc n) h = rw (eq-eqb c e h, forest_at)

  spent : (c ≡ e → ⊥) → forest_at zero ws bs s least c e ≡ none
  unfolding forest_at
  spent h = rw (ne_eqb c e h, forest_at)

  module _ (n : ℕ) (h : c ≡ e → ⊥) where
    refused : (x : _) → judge (child_rules ws bs s least c e) ≡ broken x → forest_at (suc n) ws bs s least c e ≡ none
    unfolding forest_at
    refused x j = rw (ne_eqb c e h, forest_at, j)

    pub at_kid : Kid ws bs s least c e
        → forest_at (suc n) ws bs s least c e
        ≡ over ws bs c (forest_at n ws bs (s + len_of ws c) 0 (c + 1) (c + span_of ws c)) (forest_at n ws bs s (first_of bs c + 1) (c + span_of ws c) e)
    unfolding forest_at
    at_kid k = rw (ne_eqb c e h, forest_at, passed (child_rules ws bs s least c e) (of_kid ws bs s least c e k))

-- both parts are there where the whole is
pub record Joins (b : ℕ) (l : Key) (w : Num) (x y : Option Forest) (f : Forest) : Type 0 where
  pub kids : Forest
  pub rest : Forest
  pub kids-there : x ≡ some kids
  pub rest-there : y ≡ some rest
  pub whole : f ≡ node b l w kids rest

joins : (b : ℕ) (l : Key) (w : Num) (x y : Option Forest) (f : Forest) → joined b l w x y ≡ some f → Joins b l w x y f
unfolding joined
joins b l w (some k) (some r) f e = record { kids = k; rest = r; kids-there = refl; rest-there = refl; whole = cc }
joins b l w (some k) none f e = absurd (none-some f e)
joins b l w none y f e = absurd (none-some f e)

-- What a forest that was found says of its slots
pub data Found (n : ℕ) (ws bs : List ℕ) (s least c e : ℕ) (f : Forest) : Type 0 where
  ended : c ≡ e → f ≡ nil → Found n ws bs s least c e f
  begun : (m : ℕ) → n ≡ suc m → (c ≡ e → ⊥) → Kid ws bs s least c e
      → (kids rest : Forest) → forest_at m ws bs (s + len_of ws c) 0 (c + 1) (c + span_of ws c) ≡ some kids
      → forest_at m ws bs s (first_of bs c + 1) (c + span_of ws c) e ≡ some rest → f ≡ node_in ws bs c kids rest → Found n ws bs s least c e f

pub found : (n : ℕ) (ws bs : List ℕ) (s least c e : ℕ) (f : Forest) → forest_at n ws bs s least c e ≡ some f → Found n ws bs s least c e f
found n ws bs s least c e f q = elim (alike c e) [ even h t ↦ ended h (cc (at-end ws bs s least c e n h)) | odd h t ↦ go n h q ]
  where
    go : (n : ℕ) → (c ≡ e → ⊥) → forest_at n ws bs s least c e ≡ some f → Found n ws bs s least c e f
    go zero h q = absurd (none-some f (sym (spent ws bs s least c e h) ∙ q))
    go (suc m) h q =
        elim (judged (child_rules ws bs s least c e)) [
          | breaks x j i ↦ absurd (none-some f (sym (refused ws bs s least c e m h x j) ∙ q))
          | passes i j ↦
              let k = kid_of ws bs s least c e i in
              let g = joins _ _ _ _ _ f (sym (at_kid ws bs s least c e m h k) ∙ q) in
              begun m refl h k g.kids g.rest g.kids-there g.rest-there g.whole
        ]

-- The lengths and the root
lengths_of : (ws bs : List ℕ) (slots : ℕ) → All (length_rules ws bs slots) → Lengths ws bs slots
lengths_of ws bs slots h = omega arith

of_lengths : (ws bs : List ℕ) (slots : ℕ) → Lengths ws bs slots → All (length_rules ws bs slots)
of_lengths ws bs slots h = omega arith

-- a pool of `slots` slots by its lengths
pub slots_of_lem : (ws bs : List ℕ) (slots : ℕ) → Lengths ws bs slots → slots_of ws bs ≡ some slots
unfolding slots_of
slots_of_lem ws bs slots h =
    let e : slots ≡ slots_in bs = omega (arith, h.labels) in
    rw (e, slots_of, passed (length_rules ws bs (slots_in bs)) (of_lengths ws bs (slots_in bs) (rw e at h)))

-- Where both lengths stay, the pool keeps its slots.
pub lengths_stay : (ws bs vs cs : List ℕ) (slots : ℕ) → length vs ≡ length ws → length cs ≡ length bs → Lengths ws bs slots → Lengths vs cs slots
lengths_stay ws bs vs cs slots e f l = record { least = l.least; most = l.most; labels = f ∙ l.labels; words = e ∙ l.words }

pub slots_stay : (ws bs vs cs : List ℕ) (slots : ℕ) → length vs ≡ length ws → length cs ≡ length bs → Lengths ws bs slots → slots_of vs cs ≡ slots_of ws bs
slots_stay ws bs vs cs slots e f l = slots_of_lem vs cs slots (lengths_stay ws bs vs cs slots e f l) ∙ sym (slots_of_lem ws bs slots l)

-- `slots_of` by its answer
pub data Sized (ws bs : List ℕ) : Type 0 where
  wrong : slots_of ws bs ≡ none → ((slots : ℕ) → Lengths ws bs slots → ⊥) → Sized ws bs
  right : (slots : ℕ) → slots_of ws bs ≡ some slots → Lengths ws bs slots → Sized ws bs

pub sized : (ws bs : List ℕ) → Sized ws bs
unfolding slots_of
sized ws bs =
    elim (judged (length_rules ws bs (slots_in bs))) [
      | breaks x j h ↦
          wrong (rw (j, slots_of)) (λ slots l.
          let e : slots ≡ slots_in bs = omega (arith, l.labels) in
          h (of_lengths ws bs (slots_in bs) (rw e at l)))
      | passes h j ↦ right (slots_in bs) (rw (j, slots_of)) (lengths_of ws bs (slots_in bs) h)
    ]

pub lengths-right : (ws bs : List ℕ) (slots : ℕ) → slots_of ws bs ≡ some slots → Lengths ws bs slots
lengths-right ws bs slots e =
    elim (sized ws bs) [
      | wrong q i ↦ absurd (none-some slots (sym q ∙ e))
      | right s q l ↦ let i : s ≡ slots = cc in rw i at l
    ]

pub no-slots : (ws bs : List ℕ) → ((slots : ℕ) → Lengths ws bs slots → ⊥) → slots_of ws bs ≡ none
no-slots ws bs h = elim (sized ws bs) [ wrong e i ↦ e | right slots e l ↦ absurd (h slots l) ]

pub record Root (ws : List ℕ) (slots : ℕ) : Type 0 where
  pub nodes : 1 ≤ nodes_of ws
  pub room : nodes_of ws ≤ slots
  pub start : start_of ws 0 ≡ 0
  pub len : len_of ws 0 ≡ 0
  pub has : has_of ws 0 ≤ 1
  pub span : span_of ws 0 ≡ nodes_of ws

root_of : (ws : List ℕ) (slots : ℕ) → All (root_rules ws slots) → Root ws slots
root_of ws slots h = omega arith

of_root : (ws : List ℕ) (slots : ℕ) → Root ws slots → All (root_rules ws slots)
of_root ws slots r = omega arith

module _ (ws bs : List ℕ) where
  pub wrong_lengths : slots_of ws bs ≡ none → pool_tree ws bs ≡ none
  unfolding pool_tree
  wrong_lengths e = rw (e, pool_tree)

  wrong_root : (slots : ℕ) (x : _) → slots_of ws bs ≡ some slots → judge (root_rules ws slots) ≡ broken x → pool_tree ws bs ≡ none
  unfolding pool_tree
  wrong_root slots x e j = rw (e, pool_tree, j)

  pub tree_of : (slots : ℕ) → slots_of ws bs ≡ some slots → Root ws slots
      → pool_tree ws bs ≡ rooted (num_at ws 0) (forest_at (nodes_of ws) ws bs 0 0 1 (nodes_of ws))
  unfolding pool_tree
  tree_of slots e r = rw (e, pool_tree, passed (root_rules ws slots) (of_root ws slots r))

-- What a tree that was found says of the pool
pub record Treed (ws bs : List ℕ) (t : Tree) : Type 0 where
  pub slots : ℕ
  pub slots_are : slots_of ws bs ≡ some slots
  pub lengths : Lengths ws bs slots
  pub root : Root ws slots
  pub num : t.num ≡ num_at ws 0
  pub kids : forest_at (nodes_of ws) ws bs 0 0 1 (nodes_of ws) ≡ some t.kids

rooted-some : (w : Num) (o : Option Forest) (t : Tree) → rooted w o ≡ some t → (t.num ≡ w) × (o ≡ some t.kids)
unfolding rooted
rooted-some w none t e = absurd (none-some t e)
rooted-some w (some ks) t e =
    let r : record { num = w; kids = ks } ≡ t = cc in
    (ap (λ (x : Tree). x.num) (sym r), ap {B = Option Forest} some (ap (λ (x : Tree). x.kids) r))

pub treed : (ws bs : List ℕ) (t : Tree) → pool_tree ws bs ≡ some t → Treed ws bs t
treed ws bs t e =
    elim (sized ws bs) [
      | wrong q h ↦ absurd (none-some t (sym (wrong_lengths ws bs q) ∙ e))
      | right slots q l ↦
          elim (judged (root_rules ws slots)) [
            | breaks x j h ↦ absurd (none-some t (sym (wrong_root ws bs slots x q j) ∙ e))
            | passes h j ↦
                let r = root_of ws slots h in
                let g = rooted-some _ _ t (sym (tree_of ws bs slots q r) ∙ e) in
                record { slots = slots; slots_are = q; lengths = l; root = r; num = g.0; kids = g.1 }
          ]
    ]
