-- What the walk gives next is the least key that it may give, and it ends only where there is none. Assumes nothing.
use mathlib.Core.Path.{◌≡◌, refl, sym, ◌∙◌}
use mathlib.Core.Bool.{Bool, true, false, false≢true}
use mathlib.Core.List.{[], ◌∷◌, ◌++◌}
use mathlib.Core.Option.{Option, none, some}
use Prim.Native.Nat.{ℕ}
use Rattle.tree.specs.Key.{Key, strip}
use Rattle.tree.specs.Map.{Pair, Pairs, Before, Ascending, lookup, past, next}
use Rattle.tree.proofs.Order.{none-some}
use Rattle.tree.proofs.Parts.{strip-append, starts, not, stripped}
use Rattle.tree.proofs.MapOps.{lookup-empty, lookup_head, lookup_tail, lookup-before, before_all}

-- x is stored, starts with the prefix p and comes after the last key l, and no such key comes before it.
pub record Least (m : Pairs) (p : Key) (l : Option Key) (x : Pair) : Type 0 where
  pub stored : lookup m x.0 ≡ some x.1
  pub prefixed : (r : Key) × (x.0 ≡ p ++ r)
  pub after : past l x.0 ≡ true
  pub least : (k : Key) (v : ℕ) → lookup m k ≡ some v → (r : Key) → k ≡ p ++ r → past l k ≡ true → Before k x.0 → ⊥

-- The first pair is the one to give, or no key to give is its key.
data Given (x : Pair) (m : Pairs) (p : Key) (l : Option Key) : Type 0 where
  taken : (r : Key) → x.0 ≡ p ++ r → past l x.0 ≡ true → next (x ∷ m) p l ≡ some x → Given x m p l
  passed : ((k r : Key) → k ≡ p ++ r → past l k ≡ true → ¬ (k ≡ x.0)) → next (x ∷ m) p l ≡ next m p l → Given x m p l

given : (x : Pair) (m : Pairs) (p : Key) (l : Option Key) → Given x m p l
unfolding next
given x m p l =
    elim (stripped p x.0) [
      | starts r i e ↦ go r i e (past l x.0) refl
      | not e ↦ passed (λ k r i a j. none-some r (cc (strip-append p r))) (rw (e, next))
    ]
  where
    go : (r : Key) → x.0 ≡ p ++ r → strip p x.0 ≡ some r → (b : Bool) → past l x.0 ≡ b → Given x m p l
    go r i e true f = taken r i f (unfold next in rw (e, f, next))
    go r i e false f = passed (λ k s j a n. false≢true (cc)) (unfold next in rw (e, f, next))

pub next-none : (m : Pairs) (p : Key) (l : Option Key) → next m p l ≡ none → (k : Key) (v : ℕ) → lookup m k ≡ some v → (r : Key) → k ≡ p ++ r → past l k ≡ true → ⊥
next-none [] p l e k v s r i a = none-some v (sym (lookup-empty k) ∙ s)
next-none (x ∷ m) p l e k v s r i a =
    elim (given x m p l) [
      | taken q j f n ↦ none-some x (sym e ∙ n)
      | passed f n ↦ next-none m p l (sym n ∙ e) k v (sym (lookup_tail x m k (f k r i a)) ∙ s) r i a
    ]

pub next-least : (m : Pairs) → Ascending m → (p : Key) (l : Option Key) (x : Pair) → next m p l ≡ some x → Least m p l x
next-least [] h p l x e = absurd (none-some x (unfold next in e))
next-least (y ∷ m) h p l x e =
    elim (given y m p l) [
      | taken r i a n ↦
          let j : x ≡ y = cc in
          rw j (record {
            stored = lookup_head y m;
            prefixed = (r, i);
            after = a;
            least = λ k v s q b c g. none-some v (sym (lookup-before k (y ∷ m) (before_all k y m g h)) ∙ s);
          })
      | passed f n ↦
          let g = next-least m h.1 p l x (sym n ∙ e) in
          record {
            stored = lookup_tail y m x.0 (f x.0 g.prefixed.0 g.prefixed.1 g.after) ∙ g.stored;
            prefixed = g.prefixed;
            after = g.after;
            least = λ k v s r i a. g.least k v (sym (lookup_tail y m k (f k r i a)) ∙ s) r i a;
          }
    ]
