-- Every node that has a number or a child leads to a stored key. Assumes nothing.
use mathlib.Core.Path.{◌≡◌, refl, ◌∙◌}
use mathlib.Core.List.{[], ◌∷◌, ◌++◌}
use mathlib.Core.Option.{none, some}
use Prim.Native.Nat.{ℕ}
use Rattle.tree.specs.Key.{Key}
use Rattle.tree.specs.Map.{Num}
use Rattle.tree.specs.Tree.{Forest, nil, node}
use Rattle.tree.proofs.Find.{look, find_f, find_f_eq, at, at_skip}
use Rattle.tree.proofs.Shapes.{Bearing}

pub on-label : (b : ℕ) (l : Key) (w : Num) (kids rest : Forest) (q : Key) → find_f (node b l w kids rest) b (l ++ q) ≡ look w (find_f kids) q
unfolding at
on-label b l w kids rest q = find_f_eq b l w kids rest b (l ++ q) refl ∙ at_skip l (look w (find_f kids)) q

abbrev pub Hits : Forest → Type 0
Hits nil = Unit {0}
Hits (node b l w kids rest) = (q : Key) × (v : ℕ) × (look w (find_f kids) q ≡ some v)

pub hits : (f : Forest) → Bearing f → Hits f
unfolding look
hits nil h = tt
hits (node b l (some v) kids rest) h = ([], v, refl)
hits (node b l none nil rest) h = absurd h.0
hits (node b l none (node c m u j i) rest) h =
    let g = hits (node c m u j i) h.1 in
    (c ∷ m ++ g.0, g.1, on-label c m u j i g.0 ∙ g.2)
