-- An insert as a splice of records: what stands in the place of what, for each way in which the search ends. Assumes nothing.
use mathlib.Core.Path.{◌≡◌, refl, sym, ap, ◌∙◌}
use mathlib.Core.List.{List, [], ◌∷◌, ◌++◌, append_assoc, append-nil}
use mathlib.Core.Option.{none, some}
use Prim.Native.Nat.{ℕ, suc, ◌+◌, ◌<◌}
use native.Mathlib.Omega.{arith}
use lib.ListN.{length, length-append}
use lib.Seq.{take-length, take_at, drop_at}
use Rattle.tree.specs.Key.{Key}
use Rattle.tree.specs.Map.{Num}
use Rattle.tree.specs.Tree.{Forest, nil, node, Above}
use Rattle.tree.specs.Insert.{leaf, beside, insert_f}
use Rattle.tree.proofs.Order.{cmp_lt, cmp_gt}
use Rattle.tree.proofs.Parts.{part_same, part-key_ends, part-fork}
use Rattle.tree.proofs.InsertFind.{insert_f_lt, insert_f-same, insert_f-key_ends, insert_f-fork}
use Rattle.slots.specs.Bare.{Bare, node_bare, bares_f, bare_of, front_of, back_of}
use Rattle.insert.proofs.Leaves.{leaf-beside}

-- Under a path of s bytes the records of g are those of f, with xs where ps stood.
pub record Step (s : ℕ) (f g : Forest) (ps xs : List Bare) : Type 0 where
  pub rest : List Bare
  pub old : bares_f s f ≡ ps ++ rest
  pub new : bares_f s g ≡ xs ++ rest

-- Parts of a node's record
pub front-whole : (s b : ℕ) (l : Key) (u w : Num) → front_of (suc (length l)) u (node_bare s b l w) ≡ node_bare s b l u
front-whole s b l u w = ap (λ (k : Key). bare_of s k u) (take-length (b ∷ l))

pub front_cut : (s b : ℕ) (p : Key) (x : ℕ) (r : Key) (u w : Num) → front_of (suc (length p)) u (node_bare s b (p ++ x ∷ r) w) ≡ node_bare s b p u
front_cut s b p x r u w = ap (λ (k : Key). bare_of s k u) (take_at (b ∷ p) (x ∷ r) (suc (length p)) refl)

pub back_cut : (s b : ℕ) (p : Key) (x : ℕ) (r : Key) (w : Num) → back_of (suc (length p)) (node_bare s b (p ++ x ∷ r) w) ≡ node_bare (s + suc (length p)) x r w
back_cut s b p x r w = ap (λ (k : Key). bare_of (s + suc (length p)) k w) (drop_at (b ∷ p) (x ∷ r) (suc (length p)) refl)

-- a forest under the same path, said in two ways
bares-at : (f : Forest) {s t : ℕ} → s ≡ t → bares_f s f ≡ bares_f t f
bares-at f e = ap (λ (s : ℕ). bares_f s f) e

insert-gap : (f : Forest) (y : ℕ) (r : Key) (v : ℕ) → Above y f → insert_f f y r v ≡ leaf y r v f
unfolding insert_f
insert-gap nil y r v h = refl
insert-gap (node b l w kids rest) y r v h = insert_f_lt b l w kids rest y r v h

pub gap_step : (s : ℕ) (f : Forest) (y : ℕ) (r : Key) (v : ℕ) → Above y f → Step s f (insert_f f y r v) [] (bares_f s (leaf y r v nil))
gap_step s f y r v h = record { rest = bares_f s f; old = refl; new = ap (bares_f s) (insert-gap f y r v h) ∙ leaf-beside s y r v f }

module _ (s y : ℕ) (w : Num) (kids rest : Forest) (v : ℕ) where
  -- the key is the label
  pub same_step : (r : Key) → Step s (node y r w kids rest) (insert_f (node y r w kids rest) y r v) (node_bare s y r w ∷ []) (node_bare s y r (some v) ∷ [])
  unfolding bares_f
  same_step r =
      record {
        rest = bares_f (s + suc (length r)) kids ++ bares_f s rest;
        old = refl;
        new = ap (bares_f s) (insert_f-same y r w kids rest y r v refl (part_same r));
      }

  module _ (p : Key) (x : ℕ) (l : Key) where
    -- the label below the cut ends where the whole one did
    deep : s + suc (length (p ++ x ∷ l)) ≡ s + suc (length p) + suc (length l)
    deep = omega (arith, length-append p (x ∷ l))

    kids-deep : bares_f (s + suc (length (p ++ x ∷ l))) kids ≡ bares_f (s + suc (length p) + suc (length l)) kids
    kids-deep = bares-at kids deep

    -- the key ends inside the label
    pub inside_step : Step s (node y (p ++ x ∷ l) w kids rest) (insert_f (node y (p ++ x ∷ l) w kids rest) y p v) (node_bare s y (p ++ x ∷ l) w ∷ [])
        (node_bare s y p (some v) ∷ node_bare (s + suc (length p)) x l w ∷ [])
    unfolding bares_f
    inside_step =
        record {
          rest = bares_f (s + suc (length p) + suc (length l)) kids ++ bares_f s rest;
          old = ap (λ (z : List Bare). node_bare s y (p ++ x ∷ l) w ∷ z ++ bares_f s rest) kids-deep;
          new =
              ap (bares_f s) (insert_f-key_ends y (p ++ x ∷ l) w kids rest y p v x l refl (part-key_ends p x l))
              ∙ ap (λ (z : List Bare). node_bare s y p (some v) ∷ (node_bare (s + suc (length p)) x l w ∷ z) ++ bares_f s rest) (append-nil (bares_f (s + suc (length p) + suc (length l)) kids));
        }

    module _ (z : ℕ) (q : Key) (ne : ¬ (z ≡ x)) where
      forks : insert_f (node y (p ++ x ∷ l) w kids rest) y (p ++ z ∷ q) v ≡ node y p none (beside z q v x l w kids) rest
      forks = insert_f-fork y (p ++ x ∷ l) w kids rest y (p ++ z ∷ q) v p z q x l refl (part-fork p z q x l ne)

      beside_lt : z < x → beside z q v x l w kids ≡ leaf z q v (node x l w kids nil)
      unfolding beside
      beside_lt h = rw (cmp_lt z x h, beside)

      beside_gt : x < z → beside z q v x l w kids ≡ node x l w kids (leaf z q v nil)
      unfolding beside
      beside_gt h = rw (cmp_gt z x h, beside)

      -- it forks off below the lower part
      pub before_step : z < x → Step s (node y (p ++ x ∷ l) w kids rest) (insert_f (node y (p ++ x ∷ l) w kids rest) y (p ++ z ∷ q) v) (node_bare s y (p ++ x ∷ l) w ∷ [])
          (node_bare s y p none ∷ bares_f (s + suc (length p)) (leaf z q v nil) ++ (node_bare (s + suc (length p)) x l w ∷ []))
      unfolding bares_f
      before_step h =
          let t = s + suc (length p) in
          record {
            rest = bares_f (t + suc (length l)) kids ++ bares_f s rest;
            old = ap (λ (k : List Bare). node_bare s y (p ++ x ∷ l) w ∷ k ++ bares_f s rest) kids-deep;
            new =
                ap (bares_f s) (forks ∙ ap (λ (g : Forest). node y p none g rest) (beside_lt h))
                ∙ ap (λ (k : List Bare). node_bare s y p none ∷ k ++ bares_f s rest) (leaf-beside t z q v (node x l w kids nil))
                ∙ simp (append_assoc, append-nil);
          }

      -- it forks off above the lower part
      pub behind_step : x < z → Step s (node y (p ++ x ∷ l) w kids rest) (insert_f (node y (p ++ x ∷ l) w kids rest) y (p ++ z ∷ q) v)
          (node_bare s y (p ++ x ∷ l) w ∷ bares_f (s + suc (length (p ++ x ∷ l))) kids)
          (node_bare s y p none ∷ (node_bare (s + suc (length p)) x l w ∷ bares_f (s + suc (length (p ++ x ∷ l))) kids) ++ bares_f (s + suc (length p)) (leaf z q v nil))
      unfolding bares_f
      behind_step h =
          let t = s + suc (length p) in
          record {
            rest = bares_f s rest;
            old = refl;
            new =
                ap (bares_f s) (forks ∙ ap (λ (g : Forest). node y p none g rest) (beside_gt h))
                ∙ ap (λ (k : List Bare). node_bare s y p none ∷ (node_bare t x l w ∷ k ++ bares_f t (leaf z q v nil)) ++ bares_f s rest) (sym kids-deep);
          }
