-- A test's answer. Assumes nothing.
use mathlib.Core.Path.{◌≡◌, sym, subst}
use mathlib.Core.Bool.{Bool, true, false}
use lib.Dec.{T}
use Rattle.pool.specs.Rule.{Says}

true≢false : true ≡ false → ⊥
true≢false e = subst T e tt

pub says_yes : {P : Type 0} → P → Says true P
says_yes p = record { yes = λ e. p; no = λ e q. true≢false e }

pub says_no : {P : Type 0} → (P → ⊥) → Says false P
says_no n = record { yes = λ e. absurd (true≢false (sym e)); no = λ e p. n p }

pub says_same : {P Q : Type 0} {r : Bool} → (P → Q) → (Q → P) → Says r P → Says r Q
says_same f g s = record { yes = λ e. f (s.yes e); no = λ e q. s.no e (g q) }
