-- How a call that changes a pool came to be done: what was there, that it fits, and what is left. Assumes nothing.
use mathlib.Core.Path.{◌≡◌, refl}
use mathlib.Core.Bool.{Bool, true, false}
use mathlib.Core.List.{List, [], ◌∷◌}
use mathlib.Core.Option.{Option, none, some}
use Prim.Native.Nat.{ℕ, ◌≤◌}
use lib.ListN.{length}
use lib.Dec.{leb}
use borrow.Author.Tests.{leb-true}
use Rattle.tree.specs.Key.{Key, key_max}
use Rattle.tree.specs.Tree.{Tree, empty, nodes_t}
use Rattle.tree.specs.Search.{get_t, looked_t}
use Rattle.tree.specs.Insert.{insert_t}
use Rattle.tree.specs.Remove.{remove_t, clear_t}
use Rattle.tree.specs.Split.{Halves, absent, halves, split_t}
use Rattle.tree.specs.Image.{numbers_w}
use Rattle.tree.specs.Reader.{Verdict, refused_with, ok, read_t}
use Rattle.tree.specs.Calls.{leaves, leaves_both, fits, make_call, clear_call, insert_call, remove_told, remove_call, split_told, split_call, read_told, read_call}
use Rattle.tree.proofs.Judge.{never}

fits-short : (k : Key) → fits k ≡ true → length k ≤ key_max
unfolding fits
fits-short k e = leb-true _ _ e

-- Make leaves the empty tree in slices of the right lengths.
pub record MakeAccepted (slots : Option ℕ) (vs : List ℕ) (u : Tree) : Type 0 where
  pub size : ℕ
  pub sized : slots ≡ some size
  pub left : u ≡ empty
  pub values : vs ≡ []

pub make_accepted : (slots : Option ℕ) {vs : List ℕ} {u : Tree} → make_call slots ≡ leaves vs u → MakeAccepted slots vs u
unfolding make_call
make_accepted none e = never (cc)
make_accepted (some s) e = record { size = s; sized = refl; left = cc; values = cc }

-- Every other call had a tree to begin with.
pub record ClearAccepted (o : Option Tree) (vs : List ℕ) (u : Tree) : Type 0 where
  pub tree : Tree
  pub held : o ≡ some tree
  pub left : u ≡ clear_t tree
  pub values : vs ≡ []

pub clear_accepted : (o : Option Tree) {vs : List ℕ} {u : Tree} → clear_call o ≡ leaves vs u → ClearAccepted o vs u
unfolding clear_call
clear_accepted none e = never (cc)
clear_accepted (some t) e = record { tree = t; held = refl; left = cc; values = cc }

pub record InsertAccepted (o : Option Tree) (slots : ℕ) (k : Key) (v : ℕ) (vs : List ℕ) (u : Tree) : Type 0 where
  pub tree : Tree
  pub held : o ≡ some tree
  pub short : length k ≤ key_max
  pub room : nodes_t (insert_t tree k v) ≤ slots
  pub left : u ≡ insert_t tree k v
  pub values : vs ≡ numbers_w (get_t tree k) (looked_t tree k ∷ [])

pub insert-accepted : (o : Option Tree) (slots : ℕ) (k : Key) (v : ℕ) {vs : List ℕ} {u : Tree} → insert_call o slots k v ≡ leaves vs u → InsertAccepted o slots k v vs u
unfolding insert_call
insert-accepted none slots k v e = never (cc)
insert-accepted (some t) slots k v {vs} {u} e = go (fits k) (leb (nodes_t (insert_t t k v)) slots) refl refl
  where
    go : (a b : Bool) → fits k ≡ a → leb (nodes_t (insert_t t k v)) slots ≡ b → InsertAccepted (some t) slots k v vs u
    go false b f g = never (cc)
    go true false f g = never (cc)
    go true true f g =
        record { tree = t; held = refl; short = fits-short k f; room = leb-true _ _ g; left = cc; values = cc }

pub record RemoveAccepted (o : Option Tree) (k : Key) (vs : List ℕ) (u : Tree) : Type 0 where
  pub tree : Tree
  pub held : o ≡ some tree
  pub short : length k ≤ key_max
  pub left : remove_t tree k ≡ some u
  pub values : vs ≡ numbers_w (get_t tree k) (looked_t tree k ∷ [])

pub remove-accepted : (o : Option Tree) (k : Key) {vs : List ℕ} {u : Tree} → remove_call o k ≡ leaves vs u → RemoveAccepted o k vs u
unfolding remove_call remove_told
remove-accepted none k e = never (cc)
remove-accepted (some t) k {vs} {u} e = go (fits k) (remove_t t k) refl refl
  where
    go : (a : Bool) (w : Option Tree) → fits k ≡ a → remove_t t k ≡ w → RemoveAccepted (some t) k vs u
    go false w f g = never (cc)
    go true none f g = never (cc)
    go true (some x) f g = record { tree = t; held = refl; short = fits-short k f; left = cc; values = cc }

pub record SplitAccepted (o : Option Tree) (slots : Option ℕ) (p : Key) (d u : Tree) : Type 0 where
  pub tree : Tree
  pub held : o ≡ some tree
  pub size : ℕ
  pub sized : slots ≡ some size
  pub short : length p ≤ key_max
  pub parted : split_t tree p ≡ halves d u
  pub room : nodes_t d ≤ size

pub split_accepted : (o : Option Tree) (slots : Option ℕ) (p : Key) {d u : Tree} → split_call o slots p ≡ leaves_both d u → SplitAccepted o slots p d u
unfolding split_call split_told
split_accepted none slots p e = never (cc)
split_accepted (some t) none p e = never (cc)
split_accepted (some t) (some s) p {d} {u} e = go (fits p) (split_t t p) refl refl
  where
    roomy : (x y : Tree) (b : Bool) → fits p ≡ true → split_t t p ≡ halves x y → leb (nodes_t x) s ≡ b → SplitAccepted (some t) (some s) p d u
    roomy x y false f g h = never (cc)
    roomy x y true f g h =
        let same : x ≡ d = cc in
        record { tree = t; held = refl; size = s; sized = refl; short = fits-short p f; parted = cc; room = rw same at (leb-true (nodes_t x) s h) }

    go : (a : Bool) (h : Halves) → fits p ≡ a → split_t t p ≡ h → SplitAccepted (some t) (some s) p d u
    go false h f g = never (cc)
    go true absent f g = never (cc)
    go true (halves x y) f g = roomy x y (leb (nodes_t x) s) f g refl

pub record ReadAccepted (slots : Option ℕ) (s ns vs : List ℕ) (u : Tree) : Type 0 where
  pub size : ℕ
  pub sized : slots ≡ some size
  pub read : read_t s ns size ≡ ok u
  pub values : vs ≡ []

pub read_accepted : (slots : Option ℕ) (s ns : List ℕ) {vs : List ℕ} {u : Tree} → read_call slots s ns ≡ leaves vs u → ReadAccepted slots s ns vs u
unfolding read_call read_told
read_accepted none s ns e = never (cc)
read_accepted (some n) s ns {vs} {u} e = go (read_t s ns n) refl
  where
    go : (x : Verdict) → read_t s ns n ≡ x → ReadAccepted (some n) s ns vs u
    go (refused_with y) r = never (cc)
    go (ok t) r = record { size = n; sized = refl; read = cc; values = cc }
