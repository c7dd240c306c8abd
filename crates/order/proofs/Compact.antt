-- Compact: a node without a number has two children at least, and no path is longer than a label may be. What is built
-- from keys of at most 255 bytes is compact: a new leaf is one node, and two labels that remove or split leave one above
-- the other always fit into one. Assumes nothing.
use mathlib.Core.Path.{◌≡◌, refl, sym, ap, subst}
use mathlib.Core.Bool.{Bool, true, false}
use mathlib.Core.List.{[], ◌∷◌, ◌++◌}
use mathlib.Core.Option.{none, some}
use Prim.Native.Nat.{ℕ, zero, suc, ◌+◌, ◌≤◌}
use native.Mathlib.Omega.{arith}
use lib.ListN.{length, drop, length-append, length-drop}
use Rattle.tree.specs.Key.{Key, pick}
use Rattle.tree.specs.Map.{Num}
use Rattle.tree.specs.Tree.{Forest, nil, node, Tree, empty, room, Above, Used}
use Rattle.tree.specs.Insert.{chain, leaf, beside, insert_f, insert_t}
use Rattle.tree.specs.Remove.{joins, settle, erase_f, erase_t, clear_t}
use Rattle.tree.specs.Split.{detach_f, leave_f, halves, split_t}
use Rattle.tree.proofs.Order.{less, even, more, cmp}
use Rattle.tree.proofs.Parts.{alike, inside, beyond, apart, parted, starts, not, stripped}
use Rattle.tree.proofs.Shapes.{Rising, Bearing}
use Rattle.tree.proofs.InsertFind.{insert_f_lt, insert_f_gt, insert_f-same, insert_f-key_ends, insert_f-label_ends, insert_f-fork}
use Rattle.tree.proofs.InsertWf.{Starts, First, new, old, ins_first, ins_above}
use Rattle.tree.proofs.RemoveFind.{erase_f_lt, erase_f_gt, erase_f-none, erase_f-here, erase_f-there, removed}
use Rattle.tree.proofs.RemoveWf.{joins_false, erase-above}
use Rattle.tree.proofs.SplitFind.{AllO, halved, detach_f_lt, detach_f_gt, detach_f-same, detach_f-key_ends, detach_f-label_ends, detach_f-fork, leave_f_lt, leave_f_gt, leave_f-same, leave_f-key_ends, leave_f-label_ends, leave_f-fork}
use Rattle.tree.proofs.SplitWf.{leave_above}
use Rattle.order.specs.Built.{Short, Built, fresh, inserted, erased, cleared, detached, remaining}

-- Two children at least
abbrev pub Many : Forest → Type 0
Many nil = ⊥
Many (node b l w kids nil) = ⊥
Many (node b l w kids (node c m u j i)) = Unit {0}

abbrev pub Kept : Num → Forest → Type 0
Kept (some v) kids = Unit {0}
Kept none kids = Many kids

-- What is asked of one node under a path of s bytes; K and R say the same of its children and of its younger siblings.
pub record Tight (s b : ℕ) (l : Key) (w : Num) (kids rest : Forest) (K R : Type 0) : Type 0 where
  pub deep : s + suc (length l) ≤ suc room
  pub above : Above b rest
  pub kept : Kept w kids
  pub ckids : K
  pub crest : R

abbrev pub Compact : ℕ → Forest → Type 0
Compact s nil = Unit {0}
Compact s (node b l w kids rest) = Tight s b l w kids rest (Compact (s + suc (length l)) kids) (Compact s rest)

abbrev pub CompactT : Tree → Type 0
CompactT t = Compact 0 t.kids

-- A node with other younger siblings
compact_beside : {s b : ℕ} {l : Key} {w : Num} {kids rest f : Forest} → Compact s (node b l w kids rest) → Above b f → Compact s f → Compact s (node b l w kids f)
compact_beside h above r = record { deep = h.deep; above = above; kept = h.kept; ckids = h.ckids; crest = r }

-- Siblings ascend, and every node has a number or a child.
pub rising : (f : Forest) (s : ℕ) → Compact s f → Rising f
rising nil s h = tt
rising (node b l w kids rest) s h = (h.above, rising kids (s + suc (length l)) h.ckids, rising rest s h.crest)

kept-used : (w : Num) (f : Forest) → Kept w f → Used w f
kept-used (some v) f h = tt
kept-used none nil h = h
kept-used none (node b l w kids rest) h = tt

pub bearing : (f : Forest) (s : ℕ) → Compact s f → Bearing f
bearing nil s h = tt
bearing (node b l w kids rest) s h = (kept-used w kids h.kept, bearing kids (s + suc (length l)) h.ckids, bearing rest s h.crest)

-- Nearer to the root a compact forest is compact.
shallow : (f : Forest) (s t : ℕ) → t ≤ s → Compact s f → Compact t f
shallow nil s t i h = tt
shallow (node b l w kids rest) s t i h =
    record {
      deep = omega (arith, h.deep);
      above = h.above;
      kept = h.kept;
      ckids = shallow kids (s + suc (length l)) (t + suc (length l)) (omega arith) h.ckids;
      crest = shallow rest s t i h.crest;
    }

-- The lower part of a node whose label is parted
lower : (s b : ℕ) (p : Key) (x : ℕ) (r : Key) (w : Num) (kids rest : Forest) → Compact s (node b (p ++ x ∷ r) w kids rest)
    → Compact (s + suc (length p)) (node x r w kids nil)
lower s b p x r w kids rest h =
    let n : length (p ++ x ∷ r) ≡ length p + suc (length r) = length-append p (x ∷ r) in
    record {
      deep = omega (arith, h.deep);
      above = tt;
      kept = h.kept;
      ckids = shallow kids (s + suc (length (p ++ x ∷ r))) (s + suc (length p) + suc (length r)) (omega arith) h.ckids;
      crest = tt;
    }

-- A new leaf that fits one label is one node.
chain-short : (n a : ℕ) (k : Key) (v : ℕ) (rest : Forest) → length k ≤ room → chain n a k v rest ≡ node a k (some v) nil rest
unfolding chain
chain-short zero a k v rest h = refl
chain-short (suc n) a k v rest h = go (drop room k) refl
  where
    go : (d : Key) → drop room k ≡ d → chain (suc n) a k v rest ≡ node a k (some v) nil rest
    go [] e = rw (e, chain)
    go (y ∷ r) e = absurd (omega (arith, length-drop room k, ap length e))

leaf-short : (a : ℕ) (k : Key) (v : ℕ) (rest : Forest) → length k ≤ room → leaf a k v rest ≡ node a k (some v) nil rest
unfolding leaf
leaf-short a k v rest h = chain-short (length k) a k v rest h

leaf_compact : (s a : ℕ) (k : Key) (v : ℕ) (rest : Forest) → s + suc (length k) ≤ suc room → Above a rest → Compact s rest → Compact s (leaf a k v rest)
leaf_compact s a k v rest d ab h = rw (leaf-short a k v rest (omega arith)) (record { deep = d; above = ab; kept = tt; ckids = tt; crest = h })

-- It stands beside the lower part of a cut node: those are two.
module _ (y : ℕ) (k : Key) (v x : ℕ) (l : Key) (w : Num) (kids : Forest) (ne : ¬ (y ≡ x)) where
  beside_many : length k ≤ room → Many (beside y k v x l w kids)
  unfolding beside
  beside_many d =
      elim (cmp y x) [
        | less h e ↦ rw (e, beside, leaf-short y k v (node x l w kids nil) d) tt
        | even h e ↦ absurd (ne h)
        | more h e ↦ rw (e, beside, leaf-short y k v nil d) tt
      ]

  beside_compact : (s : ℕ) → s + suc (length k) ≤ suc room → Compact s (node x l w kids nil) → Compact s (beside y k v x l w kids)
  unfolding beside
  beside_compact s d h =
      elim (cmp y x) [
        | less i e ↦ rw (e, beside) (leaf_compact s y k v (node x l w kids nil) d i h)
        | even i e ↦ absurd (ne i)
        | more i e ↦
            rw (e, beside, leaf-short y k v nil (omega arith))
            (compact_beside h i (record { deep = d; above = tt; kept = tt; ckids = tt; crest = tt }))
      ]

-- Insert: where there were two children there still are.
many_starts : (b : ℕ) (l : Key) (w : Num) (kids : Forest) (c : ℕ) (f : Forest) → Starts c f → Many (node b l w kids f)
many_starts b l w kids c nil h = h
many_starts b l w kids c (node d m u j i) h = tt

many_first : (b : ℕ) (l : Key) (w : Num) (kids f : Forest) (a : ℕ) (g : Forest) → First f a g → Many (node b l w kids g)
many_first b l w kids f a g (new h) = many_starts b l w kids a g h
many_first b l w kids f a g (old c h i) = many_starts b l w kids c g i

many_insert : (f : Forest) (a : ℕ) (k : Key) (v : ℕ) → length k ≤ room → Many f → Many (insert_f f a k v)
many_insert nil a k v d h = absurd h
many_insert (node b l w kids nil) a k v d h = absurd h
many_insert (node b l w kids (node c m u j i)) a k v d h =
    let rest = node c m u j i in
    elim (cmp a b) [
      | less o e ↦ rw (insert_f_lt b l w kids rest a k v o, leaf-short a k v (node b l w kids rest) d) tt
      | even o e ↦
          elim (parted k l) [
            | alike p s ↦ rw (insert_f-same b l w kids rest a k v o s) tt
            | inside x r p s ↦ rw (insert_f-key_ends b l w kids rest a k v x r o s) tt
            | beyond y r p s ↦ rw (insert_f-label_ends b l w kids rest a k v y r o s) tt
            | apart p y k₁ x l₁ f g ne s ↦ rw (insert_f-fork b l w kids rest a k v p y k₁ x l₁ o s) tt
          ]
      | more o e ↦ rw (insert_f_gt b l w kids rest a k v o) (many_first b l w kids rest a (insert_f rest a k v) (ins_first rest a k v))
    ]

kept-insert : (w : Num) (f : Forest) (a : ℕ) (k : Key) (v : ℕ) → length k ≤ room → Kept w f → Kept w (insert_f f a k v)
kept-insert (some u) f a k v d h = tt
kept-insert none f a k v d h = many_insert f a k v d h

insert_f_compact : (f : Forest) (s a : ℕ) (k : Key) (v : ℕ) → Compact s f → s + suc (length k) ≤ suc room → Compact s (insert_f f a k v)
unfolding insert_f
insert_f_compact nil s a k v h d = leaf_compact s a k v nil d tt tt
insert_f_compact (node b l w kids rest) s a k v h d =
    elim (cmp a b) [
      | less i e ↦ rw (insert_f_lt b l w kids rest a k v i) (leaf_compact s a k v (node b l w kids rest) d i h)
      | even i e ↦
          elim (parted k l) [
            | alike p o ↦
                rw (insert_f-same b l w kids rest a k v i o) (record { deep = h.deep; above = h.above; kept = tt; ckids = h.ckids; crest = h.crest })
            | inside x r p o ↦
                let h' : Compact s (node b (k ++ x ∷ r) w kids rest) = rw p at h in
                rw (insert_f-key_ends b l w kids rest a k v x r i o)
                (record { deep = d; above = h.above; kept = tt; ckids = lower s b k x r w kids rest h'; crest = h.crest })
            | beyond y r p o ↦
                let n : length k ≡ length l + suc (length r) = simp length-append at (ap length p) in
                rw (insert_f-label_ends b l w kids rest a k v y r i o)
                (record {
                  deep = h.deep;
                  above = h.above;
                  kept = kept-insert w kids y r v (omega arith) h.kept;
                  ckids = insert_f_compact kids (s + suc (length l)) y r v h.ckids (omega arith);
                  crest = h.crest;
                })
            | apart p y k₁ x l₁ f g ne o ↦
                let h' : Compact s (node b (p ++ x ∷ l₁) w kids rest) = rw g at h in
                let n : length k ≡ length p + suc (length k₁) = simp length-append at (ap length f) in
                rw (insert_f-fork b l w kids rest a k v p y k₁ x l₁ i o)
                (record {
                  deep = omega arith;
                  above = h.above;
                  kept = beside_many y k₁ v x l₁ w kids ne (omega arith);
                  ckids = beside_compact y k₁ v x l₁ w kids ne (s + suc (length p)) (omega arith) (lower s b p x l₁ w kids rest h');
                  crest = h.crest;
                })
          ]
      | more i e ↦
          rw (insert_f_gt b l w kids rest a k v i)
          (compact_beside h (ins_above b rest a (insert_f rest a k v) (ins_first rest a k v) i h.above) (insert_f_compact rest s a k v h.crest d))
    ]

-- A node that is settled is compact, whatever number and compact children it has now: what it takes in fits.
module _ (s b : ℕ) (l : Key) (w₀ : Num) (kids₀ rest : Forest) (h : Compact s (node b l w₀ kids₀ rest)) where
  settle_compact : (w : Num) (kids : Forest) → Compact (s + suc (length l)) kids → Compact s (settle b l w kids rest)
  unfolding settle pick
  settle_compact (some v) kids j = record { deep = h.deep; above = h.above; kept = tt; ckids = j; crest = h.crest }
  settle_compact none nil j = h.crest
  settle_compact none (node x r w k nil) j = go (joins l r) refl
    where
      go : (t : Bool) → joins l r ≡ t → Compact s (pick t (node b (l ++ x ∷ r) w k rest) (node b l none (node x r w k nil) rest))
      go true e =
          let n : length (l ++ x ∷ r) ≡ length l + suc (length r) = length-append l (x ∷ r) in
          record {
            deep = omega (arith, j.deep);
            above = h.above;
            kept = j.kept;
            ckids = shallow k (s + suc (length l) + suc (length r)) (s + suc (length (l ++ x ∷ r))) (omega arith) j.ckids;
            crest = h.crest;
          }
      go false e = absurd (omega (arith, joins_false l r e, j.deep))
  settle_compact none (node x r w k (node c m u o i)) j = record { deep = h.deep; above = h.above; kept = tt; ckids = j; crest = h.crest }

-- Remove
erase_f_compact : (f : Forest) (s : ℕ) → Compact s f → (a : ℕ) (k : Key) → Compact s (erase_f f a k)
unfolding erase_f
erase_f_compact nil s h a k = tt
erase_f_compact (node b l w kids rest) s h a k =
    elim (cmp a b) [
      | less j e ↦ rw (erase_f_lt b l w kids rest a k j) h
      | even j e ↦
          elim (stripped l k) [
            | not o ↦ rw (erase_f-none b l w kids rest a k j o) h
            | starts [] i o ↦ rw (erase_f-here b l w kids rest a k j o) (settle_compact s b l w kids rest h none kids h.ckids)
            | starts (y ∷ r) i o ↦
                rw (erase_f-there b l w kids rest a k y r j o)
                (settle_compact s b l w kids rest h w (erase_f kids y r) (erase_f_compact kids (s + suc (length l)) h.ckids y r))
          ]
      | more j e ↦
          rw (erase_f_gt b l w kids rest a k j)
          (compact_beside h (erase-above b rest (rising rest s h.crest) a k h.above) (erase_f_compact rest s h.crest a k))
    ]

-- Split: what is left, and what is detached
leave_f_compact : (f : Forest) (s : ℕ) → Compact s f → (a : ℕ) (k : Key) → Compact s (leave_f f a k)
unfolding leave_f
leave_f_compact nil s h a k = tt
leave_f_compact (node b l w kids rest) s h a k =
    elim (cmp a b) [
      | less j e ↦ rw (leave_f_lt b l w kids rest a k j) h
      | even j e ↦
          elim (parted k l) [
            | alike p o ↦ rw (leave_f-same b l w kids rest a k j o) h.crest
            | inside x r p o ↦ rw (leave_f-key_ends b l w kids rest a k x r j o) h.crest
            | beyond y r p o ↦
                rw (leave_f-label_ends b l w kids rest a k y r j o)
                (settle_compact s b l w kids rest h w (leave_f kids y r) (leave_f_compact kids (s + suc (length l)) h.ckids y r))
            | apart p y k₁ x l₁ f g ne o ↦ rw (leave_f-fork b l w kids rest a k p y k₁ x l₁ j o) h
          ]
      | more j e ↦
          rw (leave_f_gt b l w kids rest a k j)
          (compact_beside h (leave_above b rest (rising rest s h.crest) a k h.above) (leave_f_compact rest s h.crest a k))
    ]

detach_f_compact : (f : Forest) (s : ℕ) → Compact s f → (a : ℕ) (k : Key) → AllO CompactT (detach_f f a k)
unfolding detach_f
detach_f_compact nil s h a k = tt
detach_f_compact (node b l w kids rest) s h a k =
    elim (cmp a b) [
      | less j e ↦ rw (detach_f_lt b l w kids rest a k j) tt
      | even j e ↦
          elim (parted k l) [
            | alike p o ↦ rw (detach_f-same b l w kids rest a k j o) (shallow kids (s + suc (length l)) 0 (omega arith) h.ckids)
            | inside x r p o ↦
                let h' : Compact s (node b (k ++ x ∷ r) w kids rest) = rw p at h in
                rw (detach_f-key_ends b l w kids rest a k x r j o) (shallow (node x r w kids nil) (s + suc (length k)) 0 (omega arith) (lower s b k x r w kids rest h'))
            | beyond y r p o ↦ rw (detach_f-label_ends b l w kids rest a k y r j o) (detach_f_compact kids (s + suc (length l)) h.ckids y r)
            | apart p y k₁ x l₁ f g ne o ↦ rw (detach_f-fork b l w kids rest a k p y k₁ x l₁ j o) tt
          ]
      | more j e ↦ rw (detach_f_gt b l w kids rest a k j) (detach_f_compact rest s h.crest a k)
    ]

-- Trees
compact_as : {t u : Tree} → t ≡ u → CompactT t → CompactT u
compact_as e h = subst (λ (x : Tree). CompactT x) e h

empty_compact : CompactT empty
unfolding empty
empty_compact = tt

insert_compact : (t : Tree) (k : Key) (v : ℕ) → CompactT t → Short k → CompactT (insert_t t k v)
unfolding insert_t
insert_compact t [] v h d = h
insert_compact t (a ∷ k) v h d = insert_f_compact t.kids 0 a k v h (unfold room in omega (arith, d.few))

pub erase_compact : (t : Tree) (k : Key) → CompactT t → CompactT (erase_t t k)
unfolding erase_t
erase_compact t [] h = h
erase_compact t (a ∷ k) h = erase_f_compact t.kids 0 h a k

split_compact : (t : Tree) (p : Key) (d u : Tree) → CompactT t → split_t t p ≡ halves d u → CompactT d × CompactT u
split_compact t [] d u h e =
    let f : halves t empty ≡ halves d u = unfold split_t in e in
    let i : t ≡ d = cc in
    let j : empty ≡ u = cc in
    (compact_as i h, compact_as j empty_compact)
split_compact t (a ∷ k) d u h e =
    let g = halved t a k d u e in
    let i : AllO CompactT (some d) = rw g.cut at (detach_f_compact t.kids 0 h a k) in
    (i, compact_as (sym g.left) (leave_f_compact t.kids 0 h a k))

pub compact : {t : Tree} → Built t → CompactT t
compact fresh = empty_compact
compact (inserted {t = t} k v s h) = insert_compact t k v (compact h) s
compact (erased {t = t} {u = u} k e h) = compact_as (sym (removed t k u e).tree) (erase_compact t k (compact h))
compact (cleared h) = unfold clear_t in empty_compact
compact (detached {t = t} {d = d} {u = u} p e h) = (split_compact t p d u (compact h) e).0
compact (remaining {t = t} {d = d} {u = u} p e h) = (split_compact t p d u (compact h) e).1
