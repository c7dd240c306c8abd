-- What holds of a forest from what holds of the tree around it: its slots, its rule, its nodes, what is left of the key,
-- and what the search makes of it. Assumes nothing.
use mathlib.Core.Path.{◌≡◌, refl, sym, ap, ◌∙◌}
use mathlib.Core.List.{List, [], ◌∷◌, ◌++◌}
use mathlib.Core.Option.{Option, none}
use Prim.Native.Nat.{ℕ, suc, ◌+◌, ◌≤◌}
use native.Mathlib.Omega.{arith}
use lib.ListN.{length, drop, length-drop, length-append}
use lib.Seq.{drop-drop, drop_at}
use Rattle.tree.specs.Key.{Key}
use Rattle.tree.specs.Map.{Num}
use Rattle.tree.specs.Tree.{Forest, node, Tree, Wf, nodes_f}
use Rattle.tree.specs.Search.{Look, in_part, whole, looks_f, looks_t, met, longest_in, longest_t}
use Rattle.tree.specs.Search.{shared_in, shared_t, get_t, looked_t}
use Rattle.tree.specs.Context.{Context, top, down, over, plug, depth, Leads, before, passed}
use Rattle.tree.proofs.Find.{find_f, find_t, look}
use Rattle.tree.proofs.Looks.{get_is_find}
use Rattle.tree.proofs.Context.{looks_plug, find_plug}
use Rattle.pool.proofs.Stands.{Stands}

-- The forest stands where the tree around it stands.
pub plug_stands : (ws bs : List ℕ) (C : Context) (f : Forest) → Stands ws bs 0 (plug C f) 1 → Stands ws bs (depth C) f (before C)
unfolding plug depth before
plug_stands ws bs top f h = h
plug_stands ws bs (down b l w rest C) f h = (plug_stands ws bs C (node b l w f rest) h).1
plug_stands ws bs (over b l w kids C) f h = (plug_stands ws bs C (node b l w kids f) h).2

pub plug-wf : (C : Context) (f : Forest) → Wf 0 (plug C f) → Wf (depth C) f
unfolding plug depth
plug-wf top f h = h
plug-wf (down b l w rest C) f h = (plug-wf C (node b l w f rest) h).wkids
plug-wf (over b l w kids C) f h = (plug-wf C (node b l w kids f) h).wrest

pub nodes-node : (b : ℕ) (l : Key) (w : Num) (kids rest : Forest) → nodes_f (node b l w kids rest) ≡ suc (nodes_f kids + nodes_f rest)
unfolding nodes_f
nodes-node b l w kids rest = refl

-- Its slots are the tree's.
pub plug-nodes : (C : Context) (f : Forest) → before C + nodes_f f ≤ suc (nodes_f (plug C f))
unfolding plug before
plug-nodes top f = omega arith
plug-nodes (down b l w rest C) f = omega (arith, plug-nodes C (node b l w f rest), nodes-node b l w f rest)
plug-nodes (over b l w kids C) f = omega (arith, plug-nodes C (node b l w kids f), nodes-node b l w kids f)

-- What is left of the key stands behind the bytes of the path.
pub leads-drop : (C : Context) (a : ℕ) (k : Key) (y : ℕ) (r : Key) → Leads C a k y r → drop (depth C) (a ∷ k) ≡ y ∷ r
unfolding depth
leads-drop top a k y r h = cc
leads-drop (down b l w rest C) a k y r h =
    sym (drop-drop (suc (length l)) (depth C) (a ∷ k))
    ∙ ap (drop (suc (length l))) (leads-drop C a k b (l ++ y ∷ r) h)
    ∙ drop_at (b ∷ l) (y ∷ r) (suc (length l)) refl
leads-drop (over b l w kids C) a k y r h = leads-drop C a k y r h.1

pub leads-length : (C : Context) (a : ℕ) (k : Key) (y : ℕ) (r : Key) → Leads C a k y r → suc (length k) ≡ depth C + suc (length r)
leads-length C a k y r h = omega (arith, length-drop (depth C) (a ∷ k), ap length (leads-drop C a k y r h))

-- Looks one after another
pub longest-append : (best : Option (ℕ × ℕ)) (xs ys : List Look) → longest_in best (xs ++ ys) ≡ longest_in (longest_in best xs) ys
unfolding longest_in
longest-append best [] ys = refl
longest-append best (in_part m ∷ xs) ys = longest-append best xs ys
longest-append best (whole m w ∷ xs) ys = longest-append (met m w best) xs ys

pub shared-append : (n : ℕ) (xs ys : List Look) → shared_in n (xs ++ ys) ≡ shared_in (shared_in n xs) ys
unfolding shared_in
shared-append n [] ys = refl
shared-append n (in_part m ∷ xs) ys = shared-append m xs ys
shared-append n (whole m w ∷ xs) ys = shared-append m xs ys

-- By then the bytes of the path have matched.
pub shared-passed : (C : Context) → shared_in 0 (passed C) ≡ depth C
unfolding passed depth shared_in
shared-passed top = refl
shared-passed (down b l w rest C) = shared-append 0 (passed C) (whole (depth C + suc (length l)) w ∷ [])
shared-passed (over b l w kids C) = shared-append 0 (passed C) (in_part (depth C) ∷ [])

-- No two nodes looked at are in one slot.
pub passed-before : (C : Context) → suc (length (passed C)) ≤ before C
unfolding passed before
passed-before top = omega arith
passed-before (down b l w rest C) =
    omega (arith, passed-before C, length-append (passed C) (whole (depth C + suc (length l)) w ∷ []))
passed-before (over b l w kids C) = omega (arith, passed-before C, length-append (passed C) (in_part (depth C) ∷ []))

-- What the search makes of the tree, it makes of the forest that it has come to.
module _ (t : Tree) (C : Context) (f : Forest) (a : ℕ) (k : Key) (y : ℕ) (r : Key) (tree : t.kids ≡ plug C f) (leads : Leads C a k y r) where
  pub longest-plug : longest_t t (a ∷ k) ≡ longest_in (longest_in (met 0 t.num none) (passed C)) (looks_f (depth C) f y r)
  unfolding longest_t looks_t longest_in
  longest-plug = rw (tree, looks_plug C f a k y r leads) (longest-append (met 0 t.num none) (passed C) (looks_f (depth C) f y r))

  pub shared-plug : shared_t t (a ∷ k) ≡ shared_in (depth C) (looks_f (depth C) f y r)
  unfolding shared_t looks_t shared_in
  shared-plug = rw (tree, looks_plug C f a k y r leads, shared-append 0 (passed C), shared-passed C)

  pub looked-plug : looked_t t (a ∷ k) ≡ suc (length (passed C) + length (looks_f (depth C) f y r))
  unfolding looked_t looks_t
  looked-plug = rw (tree, looks_plug C f a k y r leads, length-append (passed C) (looks_f (depth C) f y r))

  pub get_plug : get_t t (a ∷ k) ≡ find_f f y r
  unfolding find_t look
  get_plug = get_is_find t (a ∷ k) ∙ rw tree (find_plug C f a k y r leads)
