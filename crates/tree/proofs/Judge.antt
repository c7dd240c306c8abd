-- Lists of tests: `judge` passes one exactly where all of it holds, and otherwise tells what the first that fails has to
-- tell; lists that agree up to there are judged alike. Assumes nothing.
use mathlib.Core.Path.{◌≡◌, refl, sym, ◌∙◌, ap}
use mathlib.Core.Logic.{◌↔◌}
use mathlib.Core.Bool.{Bool, true, false}
use mathlib.Core.List.{List, [], ◌∷◌, map}
use Prim.Native.Nat.{ℕ, ◌≤◌, ◌<◌}
use native.Mathlib.Omega.{arith}
use lib.Dec.{leb, eqb}
use borrow.Author.Tests.{le-leb, lt-leb, eq-eqb, ne_eqb, leb-true, leb-false, eqb-true, eqb-false}
use Rattle.tree.specs.Told.{Told}
use Rattle.tree.specs.Reader.{Rule, at_most, equal, Tested, broken, sound, judge}

-- `cc` proves 0 ≡ 1 where two constructors would be equal, and so all else.
pub never : {A : Type 0} → ◌≡◌ {A = ℕ} 0 1 → A
never e = absurd (omega arith)

abbrev pub Holds : Rule → Type 0
Holds (at_most a b x) = a ≤ b
Holds (equal a b x) = a ≡ b

abbrev pub Fails : Rule → Type 0
Fails (at_most a b x) = b < a
Fails (equal a b x) = a ≡ b → ⊥

abbrev pub tells : Rule → Told
tells (at_most a b x) = x
tells (equal a b x) = x

abbrev pub All : List Rule → Type 0
All [] = Unit {0}
All (r ∷ rs) = Holds r × All rs

-- A rule holds or fails.
pub data Decided (r : Rule) : Type 0 where
  holds : Holds r → Decided r
  fails : Fails r → Decided r

pub decide : (r : Rule) → Decided r
decide (at_most a b x) = by (leb a b) refl
  where
    by : (t : Bool) → leb a b ≡ t → Decided (at_most a b x)
    by true e = holds (leb-true a b e)
    by false e = fails (leb-false a b e)
decide (equal a b x) = by (eqb a b) refl
  where
    by : (t : Bool) → eqb a b ≡ t → Decided (equal a b x)
    by true e = holds (eqb-true a b e)
    by false e = fails (eqb-false a b e)

pub judge-on : (r : Rule) (rs : List Rule) → Holds r → judge (r ∷ rs) ≡ judge rs
unfolding judge
judge-on (at_most a b x) rs h = rw (le-leb a b h, judge)
judge-on (equal a b x) rs h = rw (eq-eqb a b h, judge)

pub judge-off : (r : Rule) (rs : List Rule) → Fails r → judge (r ∷ rs) ≡ broken (tells r)
unfolding judge
judge-off (at_most a b x) rs h = rw (lt-leb a b h, judge)
judge-off (equal a b x) rs h = rw (ne_eqb a b h, judge)

pub passed : (rs : List Rule) → All rs → judge rs ≡ sound
passed [] h = unfold judge in refl
passed (r ∷ rs) h = judge-on r rs h.0 ∙ passed rs h.1

pub all_hold : (rs : List Rule) → judge rs ≡ sound → All rs
all_hold [] e = tt
all_hold (r ∷ rs) e =
    elim (decide r) [
      | holds h ↦ (h, all_hold rs (sym (judge-on r rs h) ∙ e))
      | fails h ↦ never (cc (judge-off r rs h))
    ]

-- `judge` by its answer
pub data Judged (rs : List Rule) : Type 0 where
  passes : All rs → judge rs ≡ sound → Judged rs
  breaks : (x : Told) → judge rs ≡ broken x → (All rs → ⊥) → Judged rs

pub judged : (rs : List Rule) → Judged rs
judged rs = go (judge rs) refl
  where
    go : (t : Tested) → judge rs ≡ t → Judged rs
    go sound e = passes (all_hold rs e) e
    go (broken x) e = breaks x e (λ h. never (cc (passed rs h)))

-- Two lists of tests, one beside the other: up to the first that fails, each holds just where its neighbour does.
abbrev pub JudgedAlike : List Rule → List Rule → Type 0
JudgedAlike [] [] = Unit {0}
JudgedAlike [] (q ∷ qs) = ⊥
JudgedAlike (r ∷ rs) [] = ⊥
JudgedAlike (r ∷ rs) (q ∷ qs) = (Holds r ↔ Holds q) × (Holds r → JudgedAlike rs qs)

-- a pair of tests that agree without a look at what comes before, and the tests behind them
pub onto : {A B C : Type 0} → A → C → A × (B → C)
onto a c = (a, λ _. c)

holds_fails : (r : Rule) → Holds r → Fails r → ⊥
holds_fails (at_most a b x) h f = omega arith
holds_fails (equal a b x) h f = f h

-- They are judged alike where they tell the same.
pub judge_alike : (rs qs : List Rule) → map tells rs ≡ map tells qs → JudgedAlike rs qs → judge rs ≡ judge qs
judge_alike [] [] e a = refl
judge_alike [] (q ∷ qs) e a = absurd a
judge_alike (r ∷ rs) [] e a = absurd a
judge_alike (r ∷ rs) (q ∷ qs) e a =
    let same : tells r ≡ tells q = cc in
    let more : map tells rs ≡ map tells qs = cc in
    elim (decide r) [
      | holds h ↦ judge-on r rs h ∙ judge_alike rs qs more (a.1 h) ∙ sym (judge-on q qs (a.0.0 h))
      | fails h ↦
          elim (decide q) [
            | holds k ↦ absurd (holds_fails r (a.0.1 k) h)
            | fails k ↦ judge-off r rs h ∙ ap broken same ∙ sym (judge-off q qs k)
          ]
    ]
