-- Where a search ends is a function of the tree and the key: so what `descend` ensures fixes its answer. Assumes nothing.
use mathlib.Core.Path.{◌≡◌, refl, sym, ◌∙◌}
use mathlib.Core.List.{[], ◌∷◌, ◌++◌}
use Prim.Native.Nat.{Ordering}
use Prim.Native.Nat.{ℕ, suc, ◌+◌, ◌<◌, compare}
use lib.ListN.{length}
use Rattle.tree.specs.Key.{Key, same, key_ends, label_ends, fork, part}
use Rattle.tree.specs.Map.{Num}
use Rattle.tree.specs.Tree.{Forest, nil, node, Tree, nodes_f}
use Rattle.tree.specs.Context.{Context, top, down, over, plug, depth, Leads, before, parent}
use Rattle.tree.proofs.Judge.{never}
use Rattle.tree.proofs.Order.{cmp_lt, cmp_gt, cmp_refl}
use Rattle.tree.proofs.Parts.{part_same, part-key_ends, part-label_ends, part-fork}
use Rattle.search.specs.declared.Stop.{Stop}
use Rattle.std.specs.Prelude.{Some, None}
use Rattle.std.specs.Prelude.{Option as Maybe}
use Rattle.search.specs.declared.Best.{Best}
use Rattle.search.specs.declared.Descent.{Descent}
use Rattle.search.specs.Landing.{descent_of, best_of, Ends, PlaceOf, Lands}

-- A search's end: how, at which slot, below which, behind how many bytes
pub record End : Type 0 where
  pub stop : Stop
  pub at : ℕ
  pub up : ℕ
  pub above : ℕ

abbrev ended : Stop → (at up above : ℕ) → End
ended stop at up above = record { stop = stop; at = at; up = up; above = above }

-- The end of the search for y ∷ r among siblings that begin at slot `at`
unfoldable end_f : Forest → (at up above y : ℕ) → Key → End
end_f nil at up above y r = ended Stop.Gap at up above
end_f (node b l w kids rest) at up above y r =
    elim (compare y b) [
      | Ordering.lt ↦ ended Stop.Gap at up above
      | Ordering.eq ↦
          elim (part r l) [
            | same ↦ ended Stop.Same at up above
            | key_ends x s ↦ ended (Stop.Inside (suc (length r))) at up above
            | label_ends z s ↦ end_f kids (at + 1) at (above + suc (length l)) z s
            | fork p z s x q ↦ ended (Stop.Fork (suc (length p))) at up above
          ]
      | Ordering.gt ↦ end_f rest (at + suc (nodes_f kids)) up above y r
    ]

-- It goes the key's way down,
end_through : (b : ℕ) (l : Key) (w : Num) (kids rest : Forest) (at up above y : ℕ) (r : Key)
    → end_f (node b l w kids rest) at up above b (l ++ y ∷ r) ≡ end_f kids (at + 1) at (above + suc (length l)) y r
unfolding end_f
end_through b l w kids rest at up above y r = rw (cmp_refl b, end_f, part-label_ends l y r)

end-past : (b : ℕ) (l : Key) (w : Num) (kids rest : Forest) (at up above y : ℕ) (r : Key) → b < y
    → end_f (node b l w kids rest) at up above y r ≡ end_f rest (at + suc (nodes_f kids)) up above y r
unfolding end_f
end-past b l w kids rest at up above y r h = rw (cmp_gt y b h, end_f)

end-plug : (C : Context) (f : Forest) (a : ℕ) (k : Key) (y : ℕ) (r : Key) → Leads C a k y r → end_f (plug C f) 1 0 0 a k ≡ end_f f (before C) (parent C) (depth C) y r
unfolding plug before parent depth
end-plug top f a k y r h = cc
end-plug (down b l w rest C) f a k y r h = end-plug C (node b l w f rest) a k b (l ++ y ∷ r) h ∙ end_through b l w f rest (before C) (parent C) (depth C) y r
end-plug (over b l w kids C) f a k y r h = end-plug C (node b l w kids f) a k y r h.1 ∙ end-past b l w kids f (before C) (parent C) (depth C) y r h.0

-- and ends as `Ends` says.
end_is : (stop : Stop) (f : Forest) (at up above y : ℕ) (r : Key) → Ends stop f y r → end_f f at up above y r ≡ ended stop at up above
unfolding end_f
end_is Stop.Root f at up above y r h = absurd h
end_is Stop.Gap nil at up above y r h = refl
end_is Stop.Gap (node b l w kids rest) at up above y r h = rw (cmp_lt y b h, end_f)
end_is Stop.Same f at up above y r h = rw (h.is, end_f, cmp_refl y, part_same r)
end_is (Stop.Inside m) f at up above y r h = rw (h.is, end_f, cmp_refl y, part-key_ends r h.x h.tail, h.bytes)
end_is (Stop.Fork m) f at up above y r h =
    rw (h.is, end_f, cmp_refl y, h.key, part-fork h.shared h.z h.left h.x h.tail h.differ, h.bytes)

unfoldable end_t : Tree → Key → End
end_t t [] = ended Stop.Root 0 0 0
end_t t (a ∷ k) = end_f t.kids 1 0 0 a k

place_end : (t : Tree) (key : Key) (stop : Stop) (at up above : ℕ) → PlaceOf t key stop at up above → end_t t key ≡ ended stop at up above
unfolding end_t
place_end t [] Stop.Root at up above p = sym (λ i. ended Stop.Root (p.at-is i) (p.parent_is i) (p.above-is i))
place_end t [] Stop.Gap at up above p = absurd p
place_end t [] Stop.Same at up above p = absurd p
place_end t [] (Stop.Inside m) at up above p = absurd p
place_end t [] (Stop.Fork m) at up above p = absurd p
place_end t (a ∷ k) stop at up above p =
    rw (p.tree, end-plug p.context p.forest a k p.y p.r p.leads, ← p.at-is, ← p.parent_is, ← p.above-is)
    (end_is stop p.forest at up above p.y p.r p.ends)

best_one : (b c : Maybe Best) → best_of b ≡ best_of c → b ≡ c
best_one None None e = refl
best_one None (Some y) e = never (cc)
best_one (Some x) None e = never (cc)
best_one (Some x) (Some y) e =
    let pair : ◌≡◌ {A = ℕ × ℕ} (x.length, x.number.0) (y.length, y.number.0) = cc in
    λ i. Some (record { length = (pair i).0; number = record { 0 = (pair i).1 } })

-- Two descents that end alike, with the same longest prefix and as many nodes looked at, are one.
pub descend_determined : {t : Tree} {key : Key} (d e : Descent) → Lands t key d → Lands t key e → d ≡ e
descend_determined {t} {key} d e p q =
    let x : ended d.stop d.at.0 d.parent.0 d.above ≡ ended e.stop e.at.0 e.parent.0 e.above =
    sym (place_end t key d.stop d.at.0 d.parent.0 d.above p.place) ∙ place_end t key e.stop e.at.0 e.parent.0 e.above q.place in
    let b : d.best ≡ e.best = best_one d.best e.best (p.best ∙ sym q.best) in
    let n : d.looked.0 ≡ e.looked.0 = p.looked ∙ sym q.looked in
    λ i. descent_of (x i).stop (x i).at (x i).up (x i).above (b i) (n i)
