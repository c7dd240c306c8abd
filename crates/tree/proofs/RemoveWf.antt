-- Remove and clear keep a tree well-formed. Assumes nothing.
use mathlib.Core.Path.{◌≡◌, refl, sym, subst}
use mathlib.Core.Bool.{Bool, true, false}
use mathlib.Core.List.{[], ◌∷◌, ◌++◌}
use mathlib.Core.Option.{Option, none, some}
use Prim.Native.Nat.{ℕ, suc, ◌+◌, ◌≤◌, ◌<◌}
use native.Mathlib.Omega.{arith}
use lib.ListN.{length, length-append}
use borrow.Author.Tests.{leb-true, leb-false}
use Rattle.tree.specs.Key.{Key, pick, strip}
use Rattle.tree.specs.Map.{Num}
use Rattle.tree.specs.Tree.{Forest, nil, node, Tree, Above, Used, Wf, WellFormed, room, empty}
use Rattle.tree.specs.Remove.{joins, settle, erase_f, erase_t, remove_t, clear_t}
use Rattle.tree.proofs.Order.{less, even, more, cmp}
use Rattle.tree.proofs.Parts.{bytes-append}
use Rattle.tree.proofs.RemoveFind.{erase_f_lt, erase_f_gt, erase_f-none, erase_f-here, erase_f-there, removed}
use Rattle.tree.proofs.Shapes.{Rising, wf-rising, wf-beside, above_trans}
use Rattle.tree.proofs.InsertWf.{wf-at}

pub settle-above : (c b : ℕ) (l : Key) (w : Num) (kids rest : Forest) → c < b → Above b rest → Above c (settle b l w kids rest)
unfolding settle pick
settle-above c b l (some v) kids rest i h = i
settle-above c b l none nil rest i h = above_trans c b rest i h
settle-above c b l none (node x r w k nil) rest i h =
    elim (joins l r) as (λ t. Above c (pick t (node b (l ++ x ∷ r) w k rest) (node b l none (node x r w k nil) rest))) [ true ↦ i | false ↦ i ]
settle-above c b l none (node x r w k (node d s u j m)) rest i h = i

-- what the test of a merge says
pub joins_true : (l r : Key) → joins l r ≡ true → length l + suc (length r) ≤ room
unfolding joins
joins_true l r e = leb-true (length l + suc (length r)) room e

pub joins_false : (l r : Key) → joins l r ≡ false → room < length l + suc (length r)
unfolding joins
joins_false l r e = leb-false (length l + suc (length r)) room e

module _ (s b : ℕ) (l : Key) (w₀ : Num) (kids₀ rest : Forest) (h : Wf s (node b l w₀ kids₀ rest)) where
  -- the node with another number and other children
  renew : (w : Num) (kids : Forest) → Used w kids → Wf (s + suc (length l)) kids → Wf s (node b l w kids rest)
  renew w kids u j = record { byte = h.byte; bytes = h.bytes; short = h.short; deep = h.deep; above = h.above; used = u; wkids = j; wrest = h.wrest }

  merge : (x : ℕ) (r : Key) (w : Num) (k f : Forest) → Wf (s + suc (length l)) (node x r w k f) → length l + suc (length r) ≤ room → Wf s (node b (l ++ x ∷ r) w k rest)
  merge x r w k f j i =
      let n : length (l ++ x ∷ r) ≡ length l + suc (length r) = length-append l (x ∷ r) in
      let e : s + suc (length l) + suc (length r) ≡ s + suc (length (l ++ x ∷ r)) = omega arith in
      record {
        byte = h.byte;
        bytes = bytes-append l (x ∷ r) h.bytes (j.byte, j.bytes);
        short = omega arith;
        deep = omega (arith, j.deep);
        above = h.above;
        used = j.used;
        wkids = wf-at k e j.wkids;
        wrest = h.wrest;
      }

  pub settle-wf : (w : Num) (kids : Forest) → Wf (s + suc (length l)) kids → Wf s (settle b l w kids rest)
  unfolding settle pick
  settle-wf (some v) kids j = renew (some v) kids tt j
  settle-wf none nil j = h.wrest
  settle-wf none (node x r w k nil) j = go (joins l r) refl
    where
      go : (t : Bool) → joins l r ≡ t → Wf s (pick t (node b (l ++ x ∷ r) w k rest) (node b l none (node x r w k nil) rest))
      go true e = merge x r w k nil j (joins_true l r e)
      go false e = renew none (node x r w k nil) tt j
  settle-wf none (node x r w k (node d t u i m)) j = renew none (node x r w k (node d t u i m)) tt j

pub erase-above : (c : ℕ) (f : Forest) → Rising f → (a : ℕ) (k : Key) → Above c f → Above c (erase_f f a k)
unfolding erase_f
erase-above c nil h a k i = tt
erase-above c (node b l w kids rest) h a k i =
    elim (cmp a b) [
      | less j e ↦ rw (erase_f_lt b l w kids rest a k j) i
      | even j e ↦ go j (strip l k) refl
      | more j e ↦ rw (erase_f_gt b l w kids rest a k j) i
    ]
  where
    go : a ≡ b → (o : Option Key) → strip l k ≡ o → Above c (erase_f (node b l w kids rest) a k)
    go j none e = rw (erase_f-none b l w kids rest a k j e) i
    go j (some []) e = rw (erase_f-here b l w kids rest a k j e) (settle-above c b l none kids rest i h.0)
    go j (some (y ∷ r)) e = rw (erase_f-there b l w kids rest a k y r j e) (settle-above c b l w (erase_f kids y r) rest i h.0)

pub erase_f-wf : (f : Forest) (s : ℕ) → Wf s f → (a : ℕ) (k : Key) → Wf s (erase_f f a k)
unfolding erase_f
erase_f-wf nil s h a k = tt
erase_f-wf (node b l w kids rest) s h a k =
    elim (cmp a b) [
      | less j e ↦ rw (erase_f_lt b l w kids rest a k j) h
      | even j e ↦ go j (λ y r. erase_f-wf kids (s + suc (length l)) h.wkids y r) (strip l k) refl
      | more j e ↦
          rw (erase_f_gt b l w kids rest a k j)
          (wf-beside h (erase-above b rest (wf-rising rest s h.wrest) a k h.above) (erase_f-wf rest s h.wrest a k))
    ]
  where
    go : a ≡ b → ((y : ℕ) (r : Key) → Wf (s + suc (length l)) (erase_f kids y r)) → (o : Option Key) → strip l k ≡ o → Wf s (erase_f (node b l w kids rest) a k)
    go j ih none e = rw (erase_f-none b l w kids rest a k j e) h
    go j ih (some []) e = rw (erase_f-here b l w kids rest a k j e) (settle-wf s b l w kids rest h none kids h.wkids)
    go j ih (some (y ∷ r)) e = rw (erase_f-there b l w kids rest a k y r j e) (settle-wf s b l w kids rest h w (erase_f kids y r) (ih y r))

pub erase-wf : (t : Tree) (k : Key) → WellFormed t → WellFormed (erase_t t k)
unfolding erase_t
erase-wf t [] h = h
erase-wf t (a ∷ k) h = erase_f-wf t.kids 0 h a k

pub remove-wf : (t : Tree) (k : Key) (u : Tree) → WellFormed t → remove_t t k ≡ some u → WellFormed u
remove-wf t k u h e = subst (λ (x : Tree). WellFormed x) (sym (removed t k u e).tree) (erase-wf t k h)

pub empty-wf : WellFormed empty
unfolding empty
empty-wf = tt

pub clear_wf : (t : Tree) → WellFormed (clear_t t)
unfolding clear_t
clear_wf t = empty-wf
