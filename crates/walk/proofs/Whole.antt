-- Repeated steps from a new walk give exactly the pairs under the prefix, ascending, each once, and then the end. Assumes nothing.
use mathlib.Core.Path.{◌≡◌, refl, sym, ◌∙◌, subst}
use mathlib.Core.Bool.{true, false}
use mathlib.Core.List.{[], ◌∷◌, ◌++◌}
use mathlib.Core.Option.{Option, none, some}
use lib.Seq.{append_snoc}
use Rattle.tree.specs.Key.{Key, strip}
use Rattle.tree.specs.Map.{Pair, Pairs, AllKeys, Before, Ascending, past, next, starting_with}
use Rattle.tree.specs.Tree.{labelled}
use Rattle.tree.proofs.Order.{none-some, order_refl, before_irrefl, before_trans, below, level, over, line}
use Rattle.tree.proofs.Parts.{starts, not, stripped}
use Rattle.tree.proofs.MapOps.{all_map, all_append}
use Rattle.tree.proofs.Sift.{starting_ascend, labelled_ascend}
use Rattle.walk.specs.Due.{due}
use Rattle.walk.specs.Whole.{Yields, ends, gives, under}
use Rattle.walk.proofs.Due.{due-none, due-some}
use Rattle.walk.proofs.Sought.{next-passed, next-given}

-- Whether a key comes after the last one given
past-before : (l k : Key) → Before l k → past (some l) k ≡ true
unfolding past
past-before l k h = rw (h, past)

past-even : (l : Key) → past (some l) l ≡ false
unfolding past
past-even l = rw (order_refl l, past)

past-behind : (l k : Key) → Before k l → past (some l) k ≡ false
unfolding past
past-behind l k h =
    elim (line l k) [
      | below i ↦ absurd (before_irrefl k (before_trans k l k h i))
      | level i e ↦ rw (e, past)
      | over i e ↦ rw (e, past)
    ]

not_due : (p : Key) (l : Option Key) (k : Key) → past l k ≡ false → due p l k ≡ false
not_due p l k h = elim (stripped p k) [ starts r i e ↦ due-some p l k r e ∙ h | not e ↦ due-none p l k e ]

-- Keys that are not due are passed.
next_skip : (p : Key) (l : Option Key) (a b : Pairs) → AllKeys (λ k. due p l k ≡ false) a → next (a ++ b) p l ≡ next b p l
next_skip p l [] b h = refl
next_skip p l (x ∷ a) b h = next-passed x (a ++ b) p l h.0 ∙ next_skip p l a b h.1

-- The pairs under the prefix, pair by pair
under-on : (p : Key) (x : Pair) (m : Pairs) (r : Key) → x.0 ≡ p ++ r → strip p x.0 ≡ some r → under p (x ∷ m) ≡ x ∷ under p m
unfolding under starting_with labelled
under-on p x m r i e =
    let q : ◌≡◌ {A = Pair} (p ++ r, x.1) x = λ j. (sym i j, x.1) in
    rw (e, starting_with, q)

under-off : (p : Key) (x : Pair) (m : Pairs) → strip p x.0 ≡ none → under p (x ∷ m) ≡ under p m
unfolding under starting_with
under-off p x m e = rw (e, starting_with)

-- The pairs a have been passed, and the pairs b are ahead.
record Between (p : Key) (l : Option Key) (a b : Pairs) : Type 0 where
  passed : AllKeys (λ k. due p l k ≡ false) a
  ahead : AllKeys (λ k. past l k ≡ true) b
  ascend : Ascending b
  apart : AllKeys (λ k. AllKeys (Before k) b) a

module _ (p : Key) (l : Option Key) (a : Pairs) (x : Pair) (b : Pairs) (s : Between p l a (x ∷ b)) where
  still : AllKeys (λ k. AllKeys (Before k) b) (a ++ x ∷ [])
  still =
      all_append (λ k. AllKeys (Before k) b) a (x ∷ [])
      (all_map (λ k. AllKeys (Before k) (x ∷ b)) (λ k. AllKeys (Before k) b) (λ k h. h.1) a s.apart)
      (s.ascend.0, tt)

  -- x does not start with the prefix
  between_off : strip p x.0 ≡ none → Between p l (a ++ x ∷ []) b
  between_off e =
      record {
        passed = all_append (λ k. due p l k ≡ false) a (x ∷ []) s.passed (due-none p l x.0 e, tt);
        ahead = s.ahead.1;
        ascend = s.ascend.1;
        apart = still;
      }

  -- x has been given
  between_on : Between p (some x.0) (a ++ x ∷ []) b
  between_on =
      let l' = some x.0 in
      record {
        passed =
            all_append (λ k. due p l' k ≡ false) a (x ∷ [])
            (all_map (λ k. AllKeys (Before k) (x ∷ b)) (λ k. due p l' k ≡ false) (λ k h. not_due p l' k (past-behind x.0 k h.0)) a s.apart)
            (not_due p l' x.0 (past-even x.0), tt);
        ahead = all_map (Before x.0) (λ k. past l' k ≡ true) (past-before x.0) b s.ascend.0;
        ascend = s.ascend.1;
        apart = still;
      }

walk_from : (p : Key) (l : Option Key) (a b : Pairs) → Between p l a b → Yields (a ++ b) p l (under p b)
walk_from p l a [] s = unfold under starting_with labelled in (ends (next_skip p l a [] s.passed ∙ unfold next in refl))
walk_from p l a (x ∷ b) s =
    let join : a ++ (x ∷ []) ++ b ≡ a ++ x ∷ b = append_snoc a x b in
    elim (stripped p x.0) [
      | starts r i e ↦
          let g : next (a ++ x ∷ b) p l ≡ some x = next_skip p l a (x ∷ b) s.passed ∙ next-given x b p l (due-some p l x.0 r e ∙ s.ahead.0) in
          rw (under-on p x b r i e) (gives g (rw join at (walk_from p (some x.0) (a ++ x ∷ []) b (between_on p l a x b s))))
      | not e ↦ rw (under-off p x b e) (rw join at (walk_from p l (a ++ x ∷ []) b (between_off p l a x b s e)))
    ]

all_past : (m : Pairs) → AllKeys (λ k. past none k ≡ true) m
unfolding past
all_past [] = tt
all_past (x ∷ m) = (refl, all_past m)

-- From a new walk: all pairs under the prefix, in their order, then the end.
pub walk-whole : (m : Pairs) (p : Key) → Ascending m → Yields m p none (under p m)
walk-whole m p h = walk_from p none [] m (record { passed = tt; ahead = all_past m; ascend = h; apart = tt })

-- each once: they ascend strictly
pub under_ascend : (m : Pairs) (p : Key) → Ascending m → Ascending (under p m)
unfolding under
under_ascend m p h = labelled_ascend p (starting_with p m) (starting_ascend p m h)

-- and nothing else
pub yields_unique : {m : Pairs} {p : Key} {l : Option Key} {xs ys : Pairs} → Yields m p l xs → Yields m p l ys → xs ≡ ys
yields_unique (ends e) (ends f) = refl
yields_unique (ends e) (gives {x = y} f s) = absurd (none-some y (sym e ∙ f))
yields_unique (gives {x = x} e r) (ends f) = absurd (none-some x (sym f ∙ e))
yields_unique {m} {p} {l} (gives {x = x} {ys = xs} e r) (gives {x = y} {ys = ys} f s) =
    let i : x ≡ y = cc in
    let t : xs ≡ ys = yields_unique r (subst (λ (z : Pair). Yields m p (some z.0) ys) (sym i) s) in
    cc
