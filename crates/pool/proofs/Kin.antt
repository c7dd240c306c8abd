-- The chain of children, a step at a time. Assumes nothing.
use mathlib.Core.Path.{◌≡◌, subst}
use mathlib.Core.List.{List}
use Prim.Native.Nat.{ℕ, ◌+◌, ◌<◌, ◌≤◌}
use native.Mathlib.Omega.{arith}
use Rattle.slots.specs.Layout.{span_of, first_of}
use Rattle.pool.specs.Rule.{Child, Children, done, child, NodeAt}

pub first-child : {ws bs : List ℕ} {base e least c : ℕ} → c < e → Children ws bs base e least c → Child ws bs base e least c
first-child l (done q) = absurd (omega arith)
first-child l (child f k) = f

pub later_children : {ws bs : List ℕ} {base e least c : ℕ} → c < e → Children ws bs base e least c → Children ws bs base e (first_of bs c + 1) (c + span_of ws c)
later_children l (done q) = absurd (omega arith)
later_children l (child f k) = k

-- where the code holds the first byte and the place under names of its own
pub children_from : {ws bs : List ℕ} {base e least least' c c' : ℕ} → least ≡ least' → c ≡ c' → Children ws bs base e least c → Children ws bs base e least' c'
children_from {ws} {bs} {base} {e} {least} {least'} {c} {c'} p q k =
    subst (λ (x : ℕ). Children ws bs base e x c') p (subst (λ (x : ℕ). Children ws bs base e least x) q k)

-- What a walk along the chain keeps: the rest of the chain is right where the whole is.
pub record Along (ws bs : List ℕ) (base e from least c : ℕ) : Type 0 where
  pub within : c ≤ e
  pub whole : Children ws bs base e least c → Children ws bs base e 0 from
  pub rest : Children ws bs base e 0 from → Children ws bs base e least c

pub node_of : {ws bs : List ℕ} {n n' i : ℕ} → n ≡ n' → NodeAt ws bs n i → NodeAt ws bs n' i
node_of {ws} {bs} {n} {n'} {i} e k = subst (λ (x : ℕ). NodeAt ws bs x i) e k
