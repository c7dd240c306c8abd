-- Both halves of a split are well-formed. Assumes nothing.
use mathlib.Core.Path.{◌≡◌, refl, sym, subst}
use mathlib.Core.List.{[], ◌∷◌, ◌++◌}
use mathlib.Core.Option.{some}
use Prim.Native.Nat.{ℕ, suc, ◌+◌, ◌≤◌}
use native.Mathlib.Omega.{arith}
use lib.ListN.{length}
use Rattle.tree.specs.Key.{Key, Parting, same, key_ends, label_ends, fork, part}
use Rattle.tree.specs.Tree.{Forest, nil, node, Tree, Above, Wf, WellFormed, empty}
use Rattle.tree.specs.Split.{detach_f, leave_f, halves, split_t}
use Rattle.tree.proofs.Order.{less, even, more, cmp}
use Rattle.tree.proofs.Parts.{Parts, parts}
use Rattle.tree.proofs.Shapes.{Rising, wf-rising, wf-beside, above_trans}
use Rattle.tree.proofs.InsertWf.{lower}
use Rattle.tree.proofs.RemoveWf.{settle-above, settle-wf, empty-wf}
use Rattle.tree.proofs.SplitFind.{AllO, halved, detach_f_lt, detach_f_gt, detach_f-same, detach_f-key_ends, detach_f-label_ends, detach_f-fork, leave_f_lt, leave_f_gt, leave_f-same, leave_f-key_ends, leave_f-label_ends, leave_f-fork}

wf-shallow : (f : Forest) (s t : ℕ) → t ≤ s → Wf s f → Wf t f
wf-shallow nil s t i h = tt
wf-shallow (node b l w kids rest) s t i h =
    record {
      byte = h.byte;
      bytes = h.bytes;
      short = h.short;
      deep = omega (arith, h.deep);
      above = h.above;
      used = h.used;
      wkids = wf-shallow kids (s + suc (length l)) (t + suc (length l)) (omega arith) h.wkids;
      wrest = wf-shallow rest s t i h.wrest;
    }

pub leave_above : (c : ℕ) (f : Forest) → Rising f → (a : ℕ) (k : Key) → Above c f → Above c (leave_f f a k)
leave_above c nil h a k i = unfold leave_f in tt
leave_above c (node b l w kids rest) h a k i =
    elim (cmp a b) [
      | less j e ↦ rw (leave_f_lt b l w kids rest a k j) i
      | even j e ↦ go j (part k l) refl
      | more j e ↦ rw (leave_f_gt b l w kids rest a k j) i
    ]
  where
    go : a ≡ b → (s : Parting) → part k l ≡ s → Above c (leave_f (node b l w kids rest) a k)
    go j same e = rw (leave_f-same b l w kids rest a k j e) (above_trans c b rest i h.0)
    go j (key_ends x r) e = rw (leave_f-key_ends b l w kids rest a k x r j e) (above_trans c b rest i h.0)
    go j (label_ends y r) e = rw (leave_f-label_ends b l w kids rest a k y r j e) (settle-above c b l w (leave_f kids y r) rest i h.0)
    go j (fork p y k₁ x l₁) e = rw (leave_f-fork b l w kids rest a k p y k₁ x l₁ j e) i

leave_f-wf : (f : Forest) (s : ℕ) → Wf s f → (a : ℕ) (k : Key) → Wf s (leave_f f a k)
leave_f-wf nil s h a k = unfold leave_f in tt
leave_f-wf (node b l w kids rest) s h a k =
    elim (cmp a b) [
      | less j e ↦ rw (leave_f_lt b l w kids rest a k j) h
      | even j e ↦ go j (λ y r. leave_f-wf kids (s + suc (length l)) h.wkids y r) (part k l) refl
      | more j e ↦
          rw (leave_f_gt b l w kids rest a k j)
          (wf-beside h (leave_above b rest (wf-rising rest s h.wrest) a k h.above) (leave_f-wf rest s h.wrest a k))
    ]
  where
    go : a ≡ b → ((y : ℕ) (r : Key) → Wf (s + suc (length l)) (leave_f kids y r)) → (o : Parting) → part k l ≡ o → Wf s (leave_f (node b l w kids rest) a k)
    go j ih same e = rw (leave_f-same b l w kids rest a k j e) h.wrest
    go j ih (key_ends x r) e = rw (leave_f-key_ends b l w kids rest a k x r j e) h.wrest
    go j ih (label_ends y r) e = rw (leave_f-label_ends b l w kids rest a k y r j e) (settle-wf s b l w kids rest h w (leave_f kids y r) (ih y r))
    go j ih (fork p y k₁ x l₁) e = rw (leave_f-fork b l w kids rest a k p y k₁ x l₁ j e) h

detach_f-wf : (f : Forest) (s : ℕ) → Wf s f → (a : ℕ) (k : Key) → AllO WellFormed (detach_f f a k)
detach_f-wf nil s h a k = unfold detach_f in tt
detach_f-wf (node b l w kids rest) s h a k =
    elim (cmp a b) [
      | less j e ↦ rw (detach_f_lt b l w kids rest a k j) tt
      | even j e ↦ go j (λ y r. detach_f-wf kids (s + suc (length l)) h.wkids y r) (part k l) refl (parts k l)
      | more j e ↦ rw (detach_f_gt b l w kids rest a k j) (detach_f-wf rest s h.wrest a k)
    ]
  where
    go : a ≡ b → ((y : ℕ) (r : Key) → AllO WellFormed (detach_f kids y r)) → (o : Parting) → part k l ≡ o → Parts k l o → AllO WellFormed (detach_f (node b l w kids rest) a k)
    go j ih same e p = rw (detach_f-same b l w kids rest a k j e) (wf-shallow kids (s + suc (length l)) 0 (omega arith) h.wkids)
    go j ih (key_ends x r) e p =
        let p' : l ≡ k ++ x ∷ r = unfold Parts in p in
        let h' : Wf s (node b (k ++ x ∷ r) w kids rest) = rw p' at h in
        rw (detach_f-key_ends b l w kids rest a k x r j e) (wf-shallow (node x r w kids nil) (s + suc (length k)) 0 (omega arith) (lower s b k x r w kids rest h'))
    go j ih (label_ends y r) e p = rw (detach_f-label_ends b l w kids rest a k y r j e) (ih y r)
    go j ih (fork p y k₁ x l₁) e q = rw (detach_f-fork b l w kids rest a k p y k₁ x l₁ j e) tt

pub split_wf : (t : Tree) (p : Key) (d u : Tree) → WellFormed t → split_t t p ≡ halves d u → WellFormed d × WellFormed u
split_wf t [] d u h e =
    let e' : halves t empty ≡ halves d u = unfold split_t in e in
    let i : t ≡ d = cc in
    let j : empty ≡ u = cc in
    (rw i at h, rw j at empty-wf)
split_wf t (a ∷ k) d u h e =
    let g = halved t a k d u e in
    let i : AllO WellFormed (some d) = rw g.cut at (detach_f-wf t.kids 0 h a k) in
    (i, subst (λ (x : Tree). WellFormed x) (sym g.left) (leave_f-wf t.kids 0 h a k))
