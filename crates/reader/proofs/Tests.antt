-- Which test of a list fails first, and a list of tests in two parts. Assumes nothing.
use mathlib.Core.Path.{◌≡◌, refl, sym, ap, ◌∙◌}
use mathlib.Core.Bool.{true, false}
use mathlib.Core.List.{List, [], ◌∷◌, ◌++◌}
use Prim.Native.Nat.{ℕ, zero, suc, ◌+◌, ◌≤◌}
use native.Mathlib.Omega.{arith}
use lib.ListN.{length, get_or, take}
use Rattle.tree.specs.Told.{Told, refusal, refusal_at}
use Rattle.tree.specs.Reader.{Rule, at_most, equal, broken, sound, judge, below, flag_rules}
use Rattle.tree.proofs.Judge.{never, Holds, Fails, tells, All, judge-on, judge-off, passed, passes, breaks, judged}
use Rattle.label.proofs.Moves.{by_lt, by_eq}
use Rattle.flags.specs.Flags.{passes as is_sound}
use Rattle.flags.proofs.Judged.{below_other}
use Rattle.reader.specs.Check.{head_rules, body_rules, count_rules}

-- A rule holds or fails.
choose : {C : Type 0} (q : Rule) → (Holds q → C) → (Fails q → C) → C
choose (at_most a b x) f g = by_lt b a g f
choose (equal a b x) f g = by_eq a b f g

-- The i-th rule of a list; the rule that stands for one behind the end always holds.
abbrev pub nth : ℕ → List Rule → Rule
nth i [] = at_most 0 0 (refusal 0)
nth zero (q ∷ rs) = q
nth (suc i) (q ∷ rs) = nth i rs

pub snoc : (rs : List Rule) (i : ℕ) → All (take i rs) → Holds (nth i rs) → All (take (suc i) rs)
snoc [] i h e = tt
snoc (q ∷ rs) zero h e = (e, tt)
snoc (q ∷ rs) (suc i) h e = (h.0, snoc rs i h.1 e)

-- The rules before the i-th hold, and that one fails.
pub broken-at : (rs : List Rule) (i : ℕ) → All (take i rs) → Fails (nth i rs) → broken (tells (nth i rs)) ≡ judge rs
broken-at [] zero h e = absurd (omega arith)
broken-at [] (suc i) h e = absurd (omega arith)
broken-at (q ∷ rs) zero h e = sym (judge-off q rs e)
broken-at (q ∷ rs) (suc i) h e = broken-at rs i h.1 e ∙ sym (judge-on q rs h.0)

-- All rules of a list tell the same.
abbrev pub Tell : Told → List Rule → Type 0
Tell x [] = Unit {0}
Tell x (q ∷ rs) = (tells q ≡ x) × Tell x rs

pub some_fails : (x : Told) (qs rs : List Rule) → Tell x qs → (All qs → ⊥) → broken x ≡ judge (qs ++ rs)
some_fails x [] rs t h = absurd (h tt)
some_fails x (q ∷ qs) rs t h =
    choose q
    (λ g. some_fails x qs rs t.1 (λ a. h (g, a)) ∙ sym (judge-on q (qs ++ rs) g))
    (λ g. sym (judge-off q (qs ++ rs) g ∙ ap broken t.0))

-- A list of rules behind another
pub judge-past : (qs rs : List Rule) → judge qs ≡ sound → judge (qs ++ rs) ≡ judge rs
judge-past [] rs e = refl
judge-past (q ∷ qs) rs e =
    choose q
    (λ h. judge-on q (qs ++ rs) h ∙ judge-past qs rs (sym (judge-on q qs h) ∙ e))
    (λ h. never (cc (judge-off q qs h)))

pub judge-stop : (qs rs : List Rule) {x : Told} → judge qs ≡ broken x → judge (qs ++ rs) ≡ broken x
judge-stop [] rs e = never (cc (passed [] tt))
judge-stop (q ∷ qs) rs e =
    choose q
    (λ h. judge-on q (qs ++ rs) h ∙ judge-stop qs rs (sym (judge-on q qs h) ∙ e))
    (λ h. judge-off q (qs ++ rs) h ∙ sym (judge-off q qs h) ∙ e)

-- A list of tests as a yes or no
pub all_sound : (rs : List Rule) → is_sound (judge rs) ≡ true → All rs
all_sound rs e = elim (judged rs) [ passes a j ↦ a | breaks x j h ↦ never (cc (rw j at e)) ]

pub not_sound : (rs : List Rule) → is_sound (judge rs) ≡ false → All rs → ⊥
not_sound rs e a = never (cc (rw (passed rs a) at e))

-- A record that is not the root's
pub below-is : (level : ℕ) → 1 ≤ level → below level ≡ 1
below-is level h = below_other level (λ e. omega arith)

-- The tests of one record
module _ (s : List ℕ) (left level least path at : ℕ) where
  pub flags-broken : at + 4 ≤ length s → is_sound (judge (flag_rules (get_or s at 0) level (refusal 7))) ≡ false
      → broken (refusal_at 7 at) ≡ judge (head_rules s level at)
  flags-broken h e =
      some_fails (refusal_at 7 at) (flag_rules (get_or s at 0) level (refusal_at 7 at)) _ (refl, (refl, (refl, (refl, (refl, tt))))) (not_sound _ e)
      ∙ sym (judge-on (at_most (at + 4) (length s) (refusal_at 6 at)) _ h)

  pub record_past : judge (head_rules s level at) ≡ sound → judge (body_rules s left level least path at) ≡ judge (count_rules s left level least path at)
  record_past e = sym (judge-past (head_rules s level at) (body_rules s left level least path at) e)

  pub record_stop : {x : Told} → judge (head_rules s level at) ≡ broken x → broken x ≡ judge (count_rules s left level least path at)
  record_stop e = sym (judge-stop (head_rules s level at) (body_rules s left level least path at) e)
