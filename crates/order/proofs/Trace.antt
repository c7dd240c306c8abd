-- Order leaves no trace: two trees built from keys of at most 255 bytes that hold the same pairs are one tree, so that
-- their images are the same. Inserts and removes of different keys may change places, and either undoes the other.
-- Assumes nothing.
use mathlib.Core.Path.{◌≡◌, refl, sym, ap, ◌∙◌, subst}
use mathlib.Core.Option.{Option, none, some, bind}
use Prim.Native.Nat.{ℕ}
use Rattle.tree.specs.Key.{Key}
use Rattle.tree.specs.Map.{Num, lookup}
use Rattle.tree.specs.Tree.{Tree, pairs_t}
use Rattle.tree.specs.Search.{get_t}
use Rattle.tree.specs.Insert.{insert_t}
use Rattle.tree.specs.Remove.{erase_t, remove_t}
use Rattle.tree.specs.Image.{image_t, numbers_t}
use Rattle.tree.proofs.Find.{find_t, upd, upd_at, upd_off, upd_same}
use Rattle.tree.proofs.Looks.{get_is_find}
use Rattle.tree.proofs.Shapes.{Rising}
use Rattle.tree.proofs.InsertFind.{insert_t_sem}
use Rattle.tree.proofs.RemoveFind.{erase_t_sem, remove_absent, remove_stored, removed}
use Rattle.tree.proofs.MapOps.{on, upd_twice, upd_swap}
use Rattle.tree.proofs.Pairs.{lookup_pairs}
use Rattle.order.specs.Built.{Short, Built, inserted, erased}
use Rattle.order.proofs.Compact.{rising, erase_compact, compact}
use Rattle.order.proofs.Unique.{tree_unique}

-- By what keys find, by the pairs, and what that says of the image
pub no_trace_find : {t u : Tree} → Built t → Built u → find_t t ≡ find_t u → t ≡ u
no_trace_find {t} {u} h i e = tree_unique t u (compact h) (compact i) e

built_rising : {t : Tree} → Built t → Rising t.kids
built_rising {t} h = rising t.kids 0 (compact h)

pub built_pairs : {t : Tree} → Built t → lookup (pairs_t t) ≡ find_t t
built_pairs {t} h = lookup_pairs t (built_rising h)

pub no_trace_pairs : {t u : Tree} → Built t → Built u → pairs_t t ≡ pairs_t u → t ≡ u
no_trace_pairs h i e = no_trace_find h i (cc (built_pairs h, built_pairs i))

pub record SameImage (t u : Tree) : Type 0 where
  pub bytes : image_t t ≡ image_t u
  pub numbers : numbers_t t ≡ numbers_t u

pub no_trace : {t u : Tree} → Built t → Built u → pairs_t t ≡ pairs_t u → SameImage t u
no_trace h i e = let same = no_trace_pairs h i e in record { bytes = ap image_t same; numbers = ap numbers_t same }

-- Insert and remove as one change: of what stands at a key, to a number or to none
abbrev change : Tree → Key → Num → Tree
change t k none = erase_t t k
change t k (some v) = insert_t t k v

-- What it asks of the key: only a key that is put in has to be short.
abbrev Asks : Key → Num → Type 0
Asks k none = Unit {0}
Asks k (some v) = Short k

change_find : {t : Tree} → Built t → (k : Key) (w : Num) → find_t (change t k w) ≡ upd k w (find_t t)
change_find {t} h k none = erase_t_sem t k (built_rising h)
change_find {t} h k (some v) = insert_t_sem t k v

-- To erase a key that is not stored changes nothing; so the tree is built as well.
erase-absent : {t : Tree} → Built t → (k : Key) → find_t t k ≡ none → erase_t t k ≡ t
erase-absent {t} h k e =
    tree_unique (erase_t t k) t (erase_compact t k (compact h)) (compact h) (change_find h k none ∙ upd_same k none (find_t t) e)

change_built : {t : Tree} → Built t → (k : Key) (w : Num) → Asks k w → Built (change t k w)
change_built {t} h k none a = go (find_t t k) refl
  where
    go : (w : Num) → find_t t k ≡ w → Built (erase_t t k)
    go none e = subst (λ (u : Tree). Built u) (sym (erase-absent h k e)) h
    go (some v) e = erased k (remove_stored t k v e) h
change_built h k (some v) a = inserted k v a h

-- Two changes of different keys may change places.
swap : {t : Tree} → Built t → (k q : Key) (v w : Num) → Asks k v → Asks q w → ¬ (k ≡ q) → change (change t k v) q w ≡ change (change t q w) k v
swap {t} h k q v w a b ne =
    let i = change_built h k v a in
    let j = change_built h q w b in
    no_trace_find (change_built i q w b) (change_built j k v a)
    (cc (change_find i q w, change_find h k v, change_find j k v, change_find h q w, upd_swap k v q w (find_t t) ne))

-- A change back to what stood there leaves the old tree.
undo : {t : Tree} → Built t → (k : Key) (v w : Num) → Asks k v → Asks k w → find_t t k ≡ v → change (change t k w) k v ≡ t
undo {t} h k v w a b e =
    let i = change_built h k w b in
    no_trace_find (change_built i k v a) h (cc (change_find i k v, change_find h k w, upd_twice k v w (find_t t), upd_same k v (find_t t) e))

-- An answer given only where there is a number
unfoldable when : Num → Option Tree → Option Tree
when none o = none
when (some v) o = o

when_swap : (v w : Num) (o : Option Tree) → when v (when w o) ≡ when w (when v o)
unfolding when
when_swap none none o = refl
when_swap none (some w) o = refl
when_swap (some v) w o = refl

bind_when : (w : Num) (o : Option Tree) (f : Tree → Option Tree) → bind (when w o) f ≡ when w (bind o f)
unfolding when bind
bind_when none o f = refl
bind_when (some w) o f = refl

-- The call looks first whether the key is stored.
remove_when : (t : Tree) (k : Key) → remove_t t k ≡ when (find_t t k) (some (erase_t t k))
remove_when t k = go (find_t t k) refl
  where
    go : (w : Num) → find_t t k ≡ w → remove_t t k ≡ when w (some (erase_t t k))
    go none e = unfold when in remove_absent t k e
    go (some v) e = unfold when in remove_stored t k v e

-- after a change of another key it finds what it found
remove-after : {t : Tree} → Built t → (k : Key) (w : Num) (q : Key) → ¬ (q ≡ k)
    → remove_t (change t k w) q ≡ when (find_t t q) (some (erase_t (change t k w) q))
remove-after {t} h k w q ne = rw (remove_when (change t k w) q, change_find h k w, upd_off k w (find_t t) q ne)

two_removes : {t : Tree} → Built t → (k q : Key) → ¬ (q ≡ k)
    → bind (remove_t t k) (λ u. remove_t u q) ≡ when (find_t t k) (when (find_t t q) (some (erase_t (erase_t t k) q)))
unfolding bind
two_removes {t} h k q ne = rw (remove_when t k, bind_when, remove-after h k none q ne)

-- The calls, refusals and all
pub swap_inserts : {t : Tree} → Built t → (k q : Key) (v w : ℕ) → Short k → Short q → ¬ (k ≡ q)
    → insert_t (insert_t t k v) q w ≡ insert_t (insert_t t q w) k v
swap_inserts h k q v w a b ne = swap h k q (some v) (some w) a b ne

pub swap_removes : {t : Tree} → Built t → (k q : Key) → ¬ (k ≡ q)
    → bind (remove_t t k) (λ u. remove_t u q) ≡ bind (remove_t t q) (λ u. remove_t u k)
swap_removes {t} h k q ne =
    cc (
      two_removes h k q (λ e. ne (sym e)),
      two_removes h q k ne,
      when_swap (find_t t k) (find_t t q) (some (erase_t (erase_t t k) q)),
      swap h k q none none tt tt ne,
    )

pub swap_insert_remove : {t : Tree} → Built t → (k : Key) (v : ℕ) (q : Key) → Short k → ¬ (k ≡ q)
    → remove_t (insert_t t k v) q ≡ bind (remove_t t q) (λ u. some (insert_t u k v))
unfolding bind
swap_insert_remove {t} h k v q a ne = rw (remove-after h k (some v) q (λ e. ne (sym e)), remove_when t q, bind_when, swap h k q (some v) none a tt ne)

pub insert_undone : {t : Tree} → Built t → (k : Key) (v : ℕ) → Short k → get_t t k ≡ none → remove_t (insert_t t k v) k ≡ some t
insert_undone {t} h k v a e =
    let f : find_t t k ≡ none = cc (get_is_find t k) in
    let g : find_t (insert_t t k v) k ≡ some v = cc (on (insert_t_sem t k v) k, upd_at k (some v) (find_t t)) in
    cc (remove_stored (insert_t t k v) k v g, undo h k none (some v) tt a f)

pub remove_undone : {t u : Tree} → Built t → (k : Key) (v : ℕ) → Short k → get_t t k ≡ some v → remove_t t k ≡ some u → insert_t u k v ≡ t
remove_undone {t} {u} h k v a e r =
    let f : find_t t k ≡ some v = cc (get_is_find t k) in
    cc ((removed t k u r).tree, undo h k (some v) none a tt f)
