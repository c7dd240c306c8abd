-- Whether a key is due, from whether it starts with the prefix and whether the last key given is less. Assumes nothing.
use mathlib.Core.Path.{◌≡◌, refl, sym, ap, ◌∙◌}
use mathlib.Core.List.{◌∷◌}
use mathlib.Core.Option.{Option, none, some}
use mathlib.Core.Bool.{Bool, true, false}
use Prim.Native.Nat.{ℕ}
use lib.ListN.{length, drop}
use Rattle.std.specs.Prelude.{nat_eq}
use Rattle.std.specs.List.{starts_with}
use Rattle.std.specs.Cmp.{nat_cmp_is}
use Rattle.std.specs.Cmp.Lexicographic.{slice_cmp}
use Rattle.std.specs.Ordering.{nat_cmp, is_lt, MatchOrdering}
use Rattle.std.specs.declared.cmp.Ordering.{Ordering}
use Rattle.std.specs.declared.cmp.Ordering.TheVariants.{Less, Equal, Greater}
use Rattle.std.proofs.lemmas.Bool.Decides.{Decides-eqb}
use Rattle.std.proofs.lemmas.Cmp.{same_from_slice_cmp}
use Rattle.std.proofs.lemmas.Slice.Eq.{starts_is}
use Rattle.tree.specs.Key.{Key, order, strip}
use Rattle.tree.specs.Map.{past}
use Rattle.tree.proofs.Judge.{never}
use Rattle.tree.proofs.Order.{less, even, more, cmp}
use Rattle.tree.proofs.Parts.{strip-append, starts, not, stripped}
use Rattle.walk.specs.Due.{due}

-- The first bytes of two keys: one is less, or the rest of the keys decides.
past_more : (x y : ℕ) (l k : Key) (o : Ordering) → o ≡ nat_cmp x y
    → MatchOrdering o (past (some (x ∷ l)) (y ∷ k) ≡ true) (past (some (x ∷ l)) (y ∷ k) ≡ past (some l) k) (past (some (x ∷ l)) (y ∷ k) ≡ false)
unfolding past order
past_more x y l k o e =
    elim (cmp x y) [
      | less h i ↦ rw (e ∙ sym (nat_cmp_is x y Less h)) (rw (i, past, order))
      | even h i ↦ rw (e ∙ sym (nat_cmp_is x y Equal h)) (rw (i, past, order))
      | more h i ↦ rw (e ∙ sym (nat_cmp_is x y Greater h)) (rw (i, past, order))
    ]

-- A key comes after the last one if that is less as a slice.
pub past_cmp : (l k : Key) (r : Ordering) → r ≡ slice_cmp nat_cmp l k → is_lt r ≡ past (some l) k
unfolding past order
past_cmp = same_from_slice_cmp nat_cmp is_lt (λ l k. past (some l) k) refl (λ y k. refl) (λ x l. refl) past_more

module _ (p : Key) (l : Option Key) (k : Key) where
  pub due-none : strip p k ≡ none → due p l k ≡ false
  unfolding due
  due-none e = rw (e, due)

  pub due-some : (r : Key) → strip p k ≡ some r → due p l k ≡ past l k
  unfolding due
  due-some r e = rw (e, due)

  -- A key that does not start with the prefix is not due; one that does is, if it comes after the last one.
  pub due-off : false ≡ starts_with nat_eq k p → due p l k ≡ false
  due-off e =
      elim (stripped p k) [
        | starts r i s ↦ never (cc ((starts_is Decides-eqb k p false e).1 r i))
        | not s ↦ due-none s
      ]

  pub due-on : true ≡ starts_with nat_eq k p → due p l k ≡ past l k
  due-on e =
      let r = drop (length p) k in
      due-some r (ap (strip p) ((starts_is Decides-eqb k p true e).0 refl) ∙ strip-append p r)

pub past-fresh : (k : Key) → past none k ≡ true
unfolding past
past-fresh k = refl
