-- Repeated steps of the code in one tree, each with the walk that the one before handed on: from a new walk they give exactly the
-- tree's pairs under the prefix, in their order, before the end. Assumes nothing.
use mathlib.Core.Path.{◌≡◌, refl, sym, ap, ◌∙◌}
use mathlib.Core.Bool.{Bool, true, false}
use mathlib.Core.List.{List, [], ◌∷◌}
use mathlib.Core.Option.{Option, none, some}
use Prim.Native.Nat.{ℕ, ◌≤◌}
use native.Mathlib.Omega.{arith}
use lib.ListN.{length, take, drop}
use lib.Seq.{take_at}
use lib.Dec.{leb}
use Rattle.std.specs.Prelude.{Ok, Err}
use Rattle.tree.specs.Key.{Key, key_max}
use Rattle.tree.specs.Map.{Pair, Pairs, next}
use Rattle.tree.specs.Tree.{Tree, WellFormed, pairs_t}
use Rattle.tree.specs.Walk.{step_t}
use Rattle.tree.specs.Told.{Answer, stepped_told}
use Rattle.tree.specs.Calls.{fits, last_fits, step_told, step_call}
use Rattle.tree.specs.declared.RuleNo.{RuleNo}
use Rattle.tree.specs.declared.Refusal.{Refusal}
use Rattle.tree.specs.declared.Stepped.{Stepped}
use Rattle.tree.proofs.MapLaws.{pairs_ascend}
use Rattle.walk.specs.declared.Walk.{Walk}
use Rattle.walk.specs.declared.Step.{Step}
use Rattle.walk.specs.Walks.{prefix_of, last_of, Begins, Leaves, step_of, Steps}
use Rattle.walk.specs.Whole.{Yields, ends, gives, under}
use Rattle.walk.proofs.Whole.{walk-whole, yields_unique}

-- A course of steps, and the pairs that stand in the outputs: a key at the front, and its number
pub data Course (t : Tree) : Walk → Pairs → Type 0 where
  stops : {w : Walk} {r : Step} {out out' : List ℕ} → Steps (some t) w r out out' → r.answer ≡ Err Refusal.NoKey → Course t w []
  goes : {w : Walk} {r : Step} {out out' : List ℕ} {n : ℕ} {v : RuleNo} {ys : Pairs} → Steps (some t) w r out out' → r.answer ≡ Ok (record { length = n; number = v }) → Course t r.walk ys
      → Course t w ((take n out', v.0) ∷ ys)

-- What a call that tells neither 2 nor 5 has come to
data Came (n : ℕ) (vs : List ℕ) (o : Option Pair) : Type 0 where
  ended : n ≡ 3 → o ≡ none → Came n vs o
  gave : (x : Pair) → n ≡ 0 → vs ≡ length x.0 ∷ x.1 ∷ [] → o ≡ some x → Came n vs o
  refused : n ≡ 2 → Came n vs o
  short : n ≡ 5 → Came n vs o

came_told : (room : ℕ) (o : Option Pair) → Came (step_told room o).number (step_told room o).values o
unfolding step_told
came_told room none = ended refl refl
came_told room (some x) = go (leb (length x.0) room) refl
  where
    go : (b : Bool) → leb (length x.0) room ≡ b → Came (step_told room (some x)).number (step_told room (some x)).values (some x)
    go true e = unfold step_told in (rw (e, step_told) (gave x refl refl refl))
    go false e = unfold step_told in (rw (e, step_told) (short refl))

came_call : (t : Tree) (p : Key) (l : Option Key) (room : ℕ) → Came (step_call (some t) p l room).number (step_call (some t) p l room).values (step_t t p l)
came_call t p l room = go (fits p) refl (last_fits l) refl
  where
    go : (b : Bool) → fits p ≡ b → (c : Bool) → last_fits l ≡ c → Came (step_call (some t) p l room).number (step_call (some t) p l room).values (step_t t p l)
    go false e c f = unfold step_call in (rw (e, step_call) (refused refl))
    go true e false f = unfold step_call in (rw (e, f, step_call) (refused refl))
    go true e true f = unfold step_call in (rw (e, f, step_call) (came_told room (step_t t p l)))

came : {t : Tree} {w : Walk} {r : Step} {out out' : List ℕ} → Steps (some t) w r out out' → (a : Answer Stepped) → r.answer ≡ a → Came (stepped_told a).number (stepped_told a).values (step_t t (prefix_of w) (last_of w))
came {t} {w} {r} {out} s a e = rw (sym s.said ∙ ap stepped_told e) at (came_call t (prefix_of w) (last_of w) (length out))

-- A step that ends has no next pair; one that gives has put it into the output, and the walk goes on from it.
step_ends : {t : Tree} {w : Walk} {r : Step} {out out' : List ℕ} → Steps (some t) w r out out' → r.answer ≡ Err Refusal.NoKey → next (pairs_t t) (prefix_of w) (last_of w) ≡ none
unfolding step_t
step_ends s e = elim (came s (Err Refusal.NoKey) e) [ ended i j ↦ j | gave x i j k ↦ absurd (omega arith) | refused i ↦ absurd (omega arith) | short i ↦ absurd (omega arith) ]

record Gave (t : Tree) (w : Walk) (r : Step) (x : Pair) : Type 0 where
  is : next (pairs_t t) (prefix_of w) (last_of w) ≡ some x
  prefix : prefix_of r.walk ≡ prefix_of w
  last : last_of r.walk ≡ some x.0

gave_left : (t : Tree) (w : Walk) (r : Step) (out out' : List ℕ) (n : ℕ) (v : RuleNo) (x : Pair) → n ∷ v.0 ∷ [] ≡ length x.0 ∷ x.1 ∷ [] → step_t t (prefix_of w) (last_of w) ≡ some x
    → Leaves 0 (step_t t (prefix_of w) (last_of w)) w r.walk out out' → Gave t w r (take n out', v.0)
unfolding step_t
gave_left t w r out out' n v x i k l =
    let g = rw k at l in
    let a : n ≡ length x.0 = cc in
    let b : v.0 ≡ x.1 = cc in
    let c : take n out' ≡ x.0 = rw g.bytes (take_at x.0 (drop (length x.0) out) n (sym a)) in
    let q : ◌≡◌ {A = Pair} x (take n out', v.0) = λ j. (sym c j, sym b j) in
    record { is = k ∙ ap some q; prefix = g.prefix; last = g.last ∙ ap some (sym c) }

step_gives : {t : Tree} {w : Walk} {r : Step} {out out' : List ℕ} {n : ℕ} {v : RuleNo} → Steps (some t) w r out out' → r.answer ≡ Ok (record { length = n; number = v }) → Gave t w r (take n out', v.0)
unfolding step_of
step_gives {t} {w} {r} {out} {out'} {n} {v} s e =
    elim (came s (Ok (record { length = n; number = v })) e) [
      | ended i j ↦ absurd (omega arith)
      | gave x i j k ↦ gave_left t w r out out' n v x j k (rw e at s.left)
      | refused i ↦ absurd (omega arith)
      | short i ↦ absurd (omega arith)
    ]

pub course_yields : {t : Tree} {w : Walk} {ys : Pairs} → Course t w ys → Yields (pairs_t t) (prefix_of w) (last_of w) ys
course_yields (stops s e) = ends (step_ends s e)
course_yields {t} {w} (goes {n = n} {v = v} {ys = ys} s e c) =
    let g = step_gives s e in
    gives g.is (rw (g.prefix, g.last) at (course_yields c))

-- From a new walk: the pairs of the tree under the prefix
pub course_whole : {t : Tree} {p : Key} {w : Walk} {ys : Pairs} → WellFormed t → length p ≤ key_max → Begins p w → Course t w ys → ys ≡ under p (pairs_t t)
course_whole {t} {p} h k b c = yields_unique (rw (b.prefix k, b.fresh) at (course_yields c)) (walk-whole (pairs_t t) p (pairs_ascend t h))
