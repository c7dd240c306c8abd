-- A built tree is what its pairs build, put in one after another, and the order in which they come does not matter.
-- Assumes nothing.
use mathlib.Core.Path.{◌≡◌, ◌∙◌}
use mathlib.Core.List.{[], ◌∷◌, ◌++◌}
use Prim.Native.Nat.{ℕ, suc, ◌+◌, ◌≤◌}
use native.Mathlib.Omega.{arith}
use lib.ListN.{length, length-append}
use Rattle.tree.specs.Key.{Key, Bytes, key_max}
use Rattle.tree.specs.Map.{Pairs, AllKeys, lookup}
use Rattle.tree.specs.Tree.{Forest, nil, node, Tree, empty, room, WellFormed, labelled, own, pairs_f, pairs_t}
use Rattle.tree.specs.Insert.{insert_t}
use Rattle.tree.proofs.Find.{find_t, nowhere, find_empty}
use Rattle.tree.proofs.InsertFind.{insert_t_sem}
use Rattle.tree.proofs.InsertWf.{insert-wf}
use Rattle.tree.proofs.RemoveWf.{empty-wf, remove-wf, clear_wf}
use Rattle.tree.proofs.SplitWf.{split_wf}
use Rattle.tree.proofs.MapOps.{all_map, all_append, lookup_cons}
use Rattle.tree.proofs.Pairs.{all_labelled, all_own}
use Rattle.tree.proofs.MapLaws.{keys_bytes}
use Rattle.order.specs.Built.{Short, Built, fresh, inserted, erased, cleared, detached, remaining}
use Rattle.order.proofs.Compact.{Compact, CompactT, compact}
use Rattle.order.proofs.Trace.{no_trace_find, built_pairs}

-- The pairs of a list put into an empty tree, the last of them first
unfoldable pub build : Pairs → Tree
build [] = empty
build (x ∷ m) = insert_t (build m) x.0 x.1

-- where a key stands twice, the pair nearer to the front counts, as for lookup
build_find : (m : Pairs) → find_t (build m) ≡ lookup m
unfolding build
build_find [] = unfold lookup nowhere in find_empty
build_find (x ∷ m) = cc (insert_t_sem (build m) x.0 x.1, build_find m, lookup_cons x m)

build_built : (m : Pairs) → AllKeys Short m → Built (build m)
unfolding build
build_built [] h = fresh
build_built (x ∷ m) h = inserted x.0 x.1 h.0 (build_built m h.1)

-- A built tree is well-formed.
pub built_wf : {t : Tree} → Built t → WellFormed t
built_wf fresh = empty-wf
built_wf (inserted {t = t} k v s h) = insert-wf t k v (built_wf h) s.bytes (unfold key_max in omega (arith, s.few))
built_wf (erased {t = t} {u = u} k e h) = remove-wf t k u (built_wf h) e
built_wf (cleared {t = t} h) = clear_wf t
built_wf (detached {t = t} {d = d} {u = u} p e h) = (split_wf t p d u (built_wf h) e).0
built_wf (remaining {t = t} {d = d} {u = u} p e h) = (split_wf t p d u (built_wf h) e).1

-- Its keys have at most 255 bytes: so many behind a path of s.
abbrev Few : ℕ → Key → Type 0
Few s k = s + length k ≤ suc room

few-label : (s b : ℕ) (l k : Key) → Few (s + suc (length l)) k → Few s (b ∷ l ++ k)
few-label s b l k h = simp length-append (omega arith)

few_f : (f : Forest) (s : ℕ) → Compact s f → AllKeys (Few s) (pairs_f f)
unfolding pairs_f
few_f nil s h = tt
few_f (node b l w kids rest) s h =
    let m = own w (pairs_f kids) in
    let s' = s + suc (length l) in
    let k : AllKeys (Few s') m = all_own (Few s') w (pairs_f kids) (omega (arith, h.deep)) (few_f kids s' h.ckids) in
    all_append (Few s) (labelled (b ∷ l) m) (pairs_f rest)
    (all_labelled (Few s) (b ∷ l) m (all_map (Few s') (λ q. Few s (b ∷ l ++ q)) (few-label s b l) m k))
    (few_f rest s h.crest)

few_t : (t : Tree) → CompactT t → AllKeys (Few 0) (pairs_t t)
unfolding pairs_t
few_t t h = all_own (Few 0) t.num (pairs_f t.kids) (omega arith) (few_f t.kids 0 h)

all_short : (m : Pairs) → AllKeys Bytes m → AllKeys (Few 0) m → AllKeys Short m
unfolding room
all_short [] b h = tt
all_short (x ∷ m) b h = (record { bytes = b.0; few = omega (arith, h.0) }, all_short m b.1 h.1)

pub built_short : {t : Tree} → Built t → AllKeys Short (pairs_t t)
built_short {t} h = all_short (pairs_t t) (keys_bytes t (built_wf h)) (few_t t (compact h))

pub rebuild : {t : Tree} → Built t → build (pairs_t t) ≡ t
rebuild {t} h = no_trace_find (build_built (pairs_t t) (built_short h)) h (build_find (pairs_t t) ∙ built_pairs h)

-- Two lists that find the same, whatever their order, build one tree.
pub any_order : (m n : Pairs) → AllKeys Short m → AllKeys Short n → lookup m ≡ lookup n → build m ≡ build n
any_order m n h i e = no_trace_find (build_built m h) (build_built n i) (cc (build_find m, build_find n))
