-- The records of an image in their order: what each says, the table in which it finds its path, and what is behind it.
-- Assumes nothing.
use mathlib.Core.Path.{◌≡◌, refl, sym, ap, ◌∙◌}
use mathlib.Core.List.{List, [], ◌∷◌, ◌++◌, append_assoc, append-nil}
use Prim.Native.Nat.{ℕ, suc, ◌+◌, ◌≤◌}
use native.Mathlib.Omega.{arith}
use lib.ListN.{length, get_or, set, length-set}
use lib.Seq.{get_or-set_same, get_or-set_other}
use Rattle.tree.specs.Key.{Key, key_max}
use Rattle.tree.specs.Map.{Num}
use Rattle.tree.specs.Tree.{Forest, nil, node, Tree, Wf, WellFormed, room, keys_w}
use Rattle.tree.specs.Image.{flags, image_f, numbers_w, numbers_f, image_t, numbers_t}
use Rattle.tree.specs.Reader.{has_number}
use Rattle.tree.proofs.ReaderParts.{flags_say, headed, numbers-node}
use Rattle.slots.specs.Bare.{Bare, bare_of, bares_f, bares_t}

-- What a record says of its node, and the bytes of the path above it
pub record Item : Type 0 where
  pub level : ℕ
  pub path : ℕ
  pub flag : ℕ
  pub label : Key
  pub num : Num

unfoldable pub image_of : List Item → List ℕ
image_of [] = []
image_of (x ∷ xs) = headed x.flag (length x.label) x.level (x.label ++ image_of xs)

unfoldable pub numbers_of : List Item → List ℕ
numbers_of [] = []
numbers_of (x ∷ xs) = numbers_w x.num (numbers_of xs)

unfoldable pub bares_of : List Item → List Bare
bares_of [] = []
bares_of (x ∷ xs) = bare_of x.path x.label x.num ∷ bares_of xs

-- The nodes of a forest whose first are at a level and under a path of s bytes
unfoldable pub items_f : (level s : ℕ) → Forest → List Item
items_f n s nil = []
items_f n s (node b l w kids rest) =
    record { level = n; path = s; flag = flags w kids rest; label = b ∷ l; num = w } ∷ items_f (n + 1) (s + suc (length l)) kids ++ items_f n s rest

unfoldable pub items_t : Tree → List Item
items_t t = record { level = 0; path = 0; flag = flags t.num t.kids nil; label = []; num = t.num } ∷ items_f 1 0 t.kids

-- They have the forest's image, numbers and bare records.
items_image : (n s : ℕ) (f : Forest) (xs : List Item) → image_of (items_f n s f ++ xs) ≡ image_f n f ++ image_of xs
unfolding items_f image_f image_of
items_image n s nil xs = refl
items_image n s (node b l w kids rest) xs =
    let k = items_image (n + 1) (s + suc (length l)) kids (items_f n s rest ++ xs) in
    let r = items_image n s rest xs in
    rw (append_assoc (items_f (n + 1) (s + suc (length l)) kids) (items_f n s rest) xs, k, r) (simp append_assoc)

items_numbers : (n s : ℕ) (f : Forest) (xs : List Item) → numbers_of (items_f n s f ++ xs) ≡ numbers_f f ++ numbers_of xs
unfolding items_f numbers_of
items_numbers n s nil xs = unfold numbers_f in refl
items_numbers n s (node b l w kids rest) xs =
    let k = items_numbers (n + 1) (s + suc (length l)) kids (items_f n s rest ++ xs) in
    let r = items_numbers n s rest xs in
    rw (append_assoc (items_f (n + 1) (s + suc (length l)) kids) (items_f n s rest) xs, k, r) (sym (numbers-node b l w kids rest (numbers_of xs)))

bares-append : (xs ys : List Item) → bares_of (xs ++ ys) ≡ bares_of xs ++ bares_of ys
unfolding bares_of
bares-append [] ys = refl
bares-append (x ∷ xs) ys = ap (λ (z : List Bare). bare_of x.path x.label x.num ∷ z) (bares-append xs ys)

items_bares : (n s : ℕ) (f : Forest) → bares_of (items_f n s f) ≡ bares_f s f
unfolding items_f bares_of bares_f
items_bares n s nil = refl
items_bares n s (node b l w kids rest) =
    let k = items_bares (n + 1) (s + suc (length l)) kids in
    let r = items_bares n s rest in
    rw (bares-append (items_f (n + 1) (s + suc (length l)) kids) (items_f n s rest), k, r)

-- What the fill asks of a record: the table has its path at its level.
pub record ItemDue (starts : List ℕ) (x : Item) : Type 0 where
  pub here : get_or starts x.level 0 ≡ x.path
  pub shallow : x.level ≤ 4096
  pub short : length x.label ≤ 255
  pub deep : x.path + length x.label ≤ 4096
  pub number : has_number x.flag ≡ keys_w x.num

-- The table when the record has left there where its label ends
abbrev pub passed : List ℕ → Item → List ℕ
passed starts x = set starts (x.level + 1) (x.path + length x.label)

abbrev pub Due : List ℕ → List Item → Type 0
Due starts [] = Unit {0}
Due starts (x ∷ xs) = ItemDue starts x × Due (passed starts x) xs

-- The table says the same up to a level.
pub record Agree (starts others : List ℕ) (level : ℕ) : Type 0 where
  pub size : length others ≡ length starts
  pub same : (j : ℕ) → j ≤ level → get_or others j 0 ≡ get_or starts j 0

agree_then : {a b c : List ℕ} {n m : ℕ} → n ≤ m → Agree a b n → Agree b c m → Agree a c n
agree_then h p q = record { size = q.size ∙ p.size; same = λ j l. q.same j (omega arith) ∙ p.same j l }

agree_set : (starts : List ℕ) (n v : ℕ) → Agree starts (set starts (n + 1) v) n
agree_set starts n v =
    record { size = length-set starts (n + 1) v; same = λ j l. get_or-set_other starts (n + 1) j v 0 (λ e. omega arith) }

-- A forest's nodes leave the table as it was up to their level, whatever comes behind them.
items_due : (n s : ℕ) (f : Forest) (xs : List Item) (starts : List ℕ) → Wf s f → length starts ≡ 4098 → n ≤ s + 1 → get_or starts n 0 ≡ s
    → ((others : List ℕ) → Agree starts others n → Due others xs) → Due starts (items_f n s f ++ xs)
unfolding items_f key_max room
items_due n s nil xs starts wf size shallow here more = more starts (record { size = refl; same = λ j l. refl })
items_due n s (node b l w kids rest) xs starts wf size shallow here more =
    let d = s + suc (length l) in
    let first : ItemDue starts (record { level = n; path = s; flag = flags w kids rest; label = b ∷ l; num = w }) =
    record {
      here = here;
      shallow = omega (arith, wf.deep);
      short = omega (arith, wf.short);
      deep = wf.deep;
      number = (flags_say w kids rest).number;
    } in
    let left : Agree starts (set starts (n + 1) d) n = agree_set starts n d in
    let behind : (others : List ℕ) → Agree (set starts (n + 1) d) others (n + 1) → Due others (items_f n s rest ++ xs) =
    λ others a.
    let a₂ = agree_then (omega arith) left a in
    items_due n s rest xs others wf.wrest (a₂.size ∙ size) shallow (a₂.same n (omega arith) ∙ here)
    (λ more-others a₃. more more-others (agree_then (omega arith) a₂ a₃)) in
    let below = items_due (n + 1) d kids (items_f n s rest ++ xs) (set starts (n + 1) d) wf.wkids (left.size ∙ size) (omega arith)
    (get_or-set_same starts (n + 1) d 0 (omega (arith, wf.deep))) behind in
    rw (append_assoc (items_f (n + 1) d kids) (items_f n s rest) xs) (first, below)

-- The same of a tree, whose root is a record at level 0 without a label
pub tree-image : (t : Tree) → image_of (items_t t) ≡ image_t t
unfolding items_t image_of image_t
tree-image t =
    let k = items_image 1 0 t.kids [] in
    let e : image_of (items_f 1 0 t.kids) ≡ image_f 1 t.kids = simp append-nil at k in
    rw e

pub tree-numbers : (t : Tree) → numbers_of (items_t t) ≡ numbers_t t
unfolding items_t numbers_of numbers_t
tree-numbers t =
    let k = items_numbers 1 0 t.kids [] in
    let e : numbers_of (items_f 1 0 t.kids) ≡ numbers_f t.kids = simp append-nil at k in
    rw e

pub tree-bares : (t : Tree) → bares_of (items_t t) ≡ bares_t t
unfolding items_t bares_of bares_t
tree-bares t = rw (items_bares 1 0 t.kids)

pub tree-due : (t : Tree) (starts : List ℕ) → WellFormed t → length starts ≡ 4098 → get_or starts 0 0 ≡ 0 → Due starts (items_t t)
unfolding items_t
tree-due t starts wf size here =
    let below = items_due 1 0 t.kids [] (set starts 1 0) wf (length-set starts 1 0 ∙ size) (omega arith) (get_or-set_same starts 1 0 0 (omega arith)) (λ others a. tt) in (
      record { here = here; shallow = omega arith; short = omega arith; deep = omega arith; number = (flags_say t.num t.kids nil).number },
      rw append-nil at below,
    )
