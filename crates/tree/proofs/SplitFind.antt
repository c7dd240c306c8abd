-- Split by a prefix: what a key finds in either half. Assumes nothing.
use mathlib.Core.Path.{◌≡◌, refl, sym, ap, ◌∙◌, fun_ext}
use mathlib.Core.List.{[], ◌∷◌, ◌++◌, append_assoc}
use mathlib.Core.Option.{Option, none, some}
use Prim.Native.Nat.{ℕ, ◌<◌, compare}
use native.Mathlib.Omega.{arith}
use Rattle.tree.specs.Key.{Key, strip, Parting, same, key_ends, label_ends, fork, part}
use Rattle.tree.specs.Map.{Num}
use Rattle.tree.specs.Tree.{Forest, nil, node, Tree, Above, empty}
use Rattle.tree.specs.Remove.{settle}
use Rattle.tree.specs.Split.{detach_f, leave_f, absent, halves, with, split_t}
use Rattle.tree.proofs.Order.{less, even, more, cmp, cmp_lt, cmp_gt, cmp_refl, three}
use Rattle.tree.proofs.Parts.{Parts, parts}
use Rattle.tree.proofs.Find.{under, look, find_f, find_t, at, at_cons, at-append, at_skip, find_f_lt, find_f_eq, find_f_gt, above-none, at₂, look_node, node_sem, nowhere}
use Rattle.tree.proofs.RemoveFind.{settle_sem}
use Rattle.tree.proofs.Shapes.{Rising, Bearing}
use Rattle.tree.proofs.Hits.{on-label, Hits, hits}

-- The definitions' cases
module _ (b : ℕ) (l : Key) (w : Num) (kids rest : Forest) (a : ℕ) (k : Key) where
  pub detach_f_lt : a < b → detach_f (node b l w kids rest) a k ≡ none
  unfolding detach_f
  detach_f_lt h = rw (cmp_lt a b h, detach_f)

  pub detach_f_gt : b < a → detach_f (node b l w kids rest) a k ≡ detach_f rest a k
  unfolding detach_f
  detach_f_gt h = rw (cmp_gt a b h, detach_f)

  pub detach_f-same : a ≡ b → part k l ≡ same → detach_f (node b l w kids rest) a k ≡ some (record { num = w; kids = kids })
  unfolding detach_f
  detach_f-same h s = rw (h, detach_f, cmp_refl b, s)

  pub detach_f-key_ends : (x : ℕ) (r : Key) → a ≡ b → part k l ≡ key_ends x r → detach_f (node b l w kids rest) a k ≡ some (record { num = none; kids = node x r w kids nil })
  unfolding detach_f
  detach_f-key_ends x r h s = rw (h, detach_f, cmp_refl b, s)

  pub detach_f-label_ends : (y : ℕ) (r : Key) → a ≡ b → part k l ≡ label_ends y r → detach_f (node b l w kids rest) a k ≡ detach_f kids y r
  unfolding detach_f
  detach_f-label_ends y r h s = rw (h, detach_f, cmp_refl b, s)

  pub detach_f-fork : (p : Key) (y : ℕ) (k₁ : Key) (x : ℕ) (l₁ : Key) → a ≡ b → part k l ≡ fork p y k₁ x l₁ → detach_f (node b l w kids rest) a k ≡ none
  unfolding detach_f
  detach_f-fork p y k₁ x l₁ h s = rw (h, detach_f, cmp_refl b, s)

  pub leave_f_lt : a < b → leave_f (node b l w kids rest) a k ≡ node b l w kids rest
  unfolding leave_f
  leave_f_lt h = rw (cmp_lt a b h, leave_f)

  pub leave_f_gt : b < a → leave_f (node b l w kids rest) a k ≡ node b l w kids (leave_f rest a k)
  unfolding leave_f
  leave_f_gt h = rw (cmp_gt a b h, leave_f)

  pub leave_f-same : a ≡ b → part k l ≡ same → leave_f (node b l w kids rest) a k ≡ rest
  unfolding leave_f
  leave_f-same h s = rw (h, leave_f, cmp_refl b, s)

  pub leave_f-key_ends : (x : ℕ) (r : Key) → a ≡ b → part k l ≡ key_ends x r → leave_f (node b l w kids rest) a k ≡ rest
  unfolding leave_f
  leave_f-key_ends x r h s = rw (h, leave_f, cmp_refl b, s)

  pub leave_f-label_ends : (y : ℕ) (r : Key) → a ≡ b → part k l ≡ label_ends y r → leave_f (node b l w kids rest) a k ≡ settle b l w (leave_f kids y r) rest
  unfolding leave_f
  leave_f-label_ends y r h s = rw (h, leave_f, cmp_refl b, s)

  pub leave_f-fork : (p : Key) (y : ℕ) (k₁ : Key) (x : ℕ) (l₁ : Key) → a ≡ b → part k l ≡ fork p y k₁ x l₁ → leave_f (node b l w kids rest) a k ≡ node b l w kids rest
  unfolding leave_f
  leave_f-fork p y k₁ x l₁ h s = rw (h, leave_f, cmp_refl b, s)

-- What a key finds in what is detached: nothing, if nothing is
unfoldable pub seek : Option Tree → Key → Num
seek none q = none
seek (some d) q = find_t d q

at_fork : (x : ℕ) (l : Key) (m : Key → Num) (y : ℕ) (q : Key) → ¬ (y ≡ x) → at (x ∷ l) m (y ∷ q) ≡ none
unfolding three
at_fork x l m y q ne =
    elim (cmp y x) [ less h e ↦ rw (at_cons x l m y q, e) | even h e ↦ absurd (ne h) | more h e ↦ rw (at_cons x l m y q, e) ]

pub detach_f_sem : (f : Forest) (a : ℕ) (k q : Key) → seek (detach_f f a k) q ≡ find_f f a (k ++ q)
unfolding seek
detach_f_sem nil a k q = unfold detach_f find_f in refl
detach_f_sem (node b l w kids rest) a k q =
    elim (cmp a b) [
      | less h e ↦ cc (detach_f_lt b l w kids rest a k h, find_f_lt b l w kids rest a (k ++ q) h)
      | even h e ↦ find_f_eq' h (go h (λ y r. detach_f_sem kids y r q) (part k l) refl (parts k l))
      | more h e ↦ cc (detach_f_gt b l w kids rest a k h, find_f_gt b l w kids rest a (k ++ q) h, detach_f_sem rest a k q)
    ]
  where
    m : Key → Num
    m = look w (find_f kids)

    find_f_eq' : a ≡ b → seek (detach_f (node b l w kids rest) a k) q ≡ at l m (k ++ q) → seek (detach_f (node b l w kids rest) a k) q ≡ find_f (node b l w kids rest) a (k ++ q)
    find_f_eq' h e = e ∙ unfold at in (sym (find_f_eq b l w kids rest a (k ++ q) h))

    go : a ≡ b → ((y : ℕ) (r : Key) → seek (detach_f kids y r) q ≡ find_f kids y (r ++ q)) → (s : Parting) → part k l ≡ s → Parts k l s → seek (detach_f (node b l w kids rest) a k) q ≡ at l m (k ++ q)
    go h ih same e p = rw (detach_f-same b l w kids rest a k h e) (unfold Parts find_t in cc (p, at_skip l m q))
    go h ih (key_ends x r) e p =
        rw (detach_f-key_ends b l w kids rest a k x r h e)
        (unfold Parts find_t in cc (p, look_node x r w kids, at-append k (x ∷ r) m, at_skip k (at (x ∷ r) m) q))
    go h ih (label_ends y r) e p =
        let g : m (y ∷ r ++ q) ≡ find_f kids y (r ++ q) = unfold look in refl in
        let p' : k ≡ l ++ y ∷ r = unfold Parts in p in
        rw (detach_f-label_ends b l w kids rest a k y r h e)
        (cc (p', ih y r, append_assoc l (y ∷ r) q, at_skip l m (y ∷ r ++ q), g))
    go h ih (fork p y k₁ x l₁) e d =
        let d' : (k ≡ p ++ y ∷ k₁) × (l ≡ p ++ x ∷ l₁) × (¬ (y ≡ x)) = unfold Parts in d in
        rw (detach_f-fork b l w kids rest a k p y k₁ x l₁ h e)
        (cc (d'.0, d'.1, append_assoc p (y ∷ k₁) q, at-append p (x ∷ l₁) m, at_skip p (at (x ∷ l₁) m) (y ∷ k₁ ++ q), at_fork x l₁ m y (k₁ ++ q) d'.2))

-- A map without what begins with k
unfoldable pub wipe : Option Key → Num → Num
wipe none v = v
wipe (some r) v = none

unfoldable pub clip : Key → (Key → Num) → Key → Num
clip k m q = wipe (strip k q) (m q)

unfoldable pub clip_f : ℕ → Key → (ℕ → Key → Num) → ℕ → Key → Num
clip_f a k g c q = three (compare c a) (g c q) (wipe (strip k q) (g c q)) (g c q)

wipe_none : (o : Option Key) → wipe o none ≡ none
unfolding wipe
wipe_none none = refl
wipe_none (some r) = refl

clip_cons : (x : ℕ) (k : Key) (m : Key → Num) (y : ℕ) (q : Key) → clip (x ∷ k) m (y ∷ q) ≡ three (compare y x) (m (y ∷ q)) (wipe (strip k q) (m (y ∷ q))) (m (y ∷ q))
unfolding clip wipe three strip
clip_cons x k m y q = elim (cmp y x) [ less h e ↦ rw (e, strip) | even h e ↦ rw (e, strip) | more h e ↦ rw (e, strip) ]

at_clip_at : (k : Key) (m : Key → Num) (l q : Key) → at l (clip k m) q ≡ clip (l ++ k) (at l m) q
at_clip_at k m [] q = unfold at under strip clip in refl
at_clip_at k m (x ∷ l) [] = unfold at under strip clip wipe in refl
at_clip_at k m (x ∷ l) (y ∷ q) = go (at_clip_at k m l q)
  where
    go : at l (clip k m) q ≡ clip (l ++ k) (at l m) q → at (x ∷ l) (clip k m) (y ∷ q) ≡ clip (x ∷ l ++ k) (at (x ∷ l) m) (y ∷ q)
    go ih =
        unfold three clip in
        (elim (cmp y x) [
          | less h e ↦ rw (clip_cons x (l ++ k) (at (x ∷ l) m) y q, at_cons x l (clip k m) y q, at_cons x l m y q, e)
          | even h e ↦ rw (clip_cons x (l ++ k) (at (x ∷ l) m) y q, at_cons x l (clip k m) y q, at_cons x l m y q, e) ih
          | more h e ↦ rw (clip_cons x (l ++ k) (at (x ∷ l) m) y q, at_cons x l (clip k m) y q, at_cons x l m y q, e)
        ])

at_clip : (l k : Key) (m : Key → Num) → at l (clip k m) ≡ clip (l ++ k) (at l m)
at_clip l k m = fun_ext (at_clip_at k m l)

look_clip : (y : ℕ) (r : Key) (w : Num) (g : ℕ → Key → Num) → look w (clip_f y r g) ≡ clip (y ∷ r) (look w g)
look_clip y r w g = fun_ext go
  where
    go : (q : Key) → look w (clip_f y r g) q ≡ clip (y ∷ r) (look w g) q
    go [] = unfold look clip strip wipe in refl
    go (x ∷ q) = unfold look clip_f in (sym (clip_cons y r (look w g) x q))

clip_gone : (k : Key) (m : Key → Num) → clip k (at k m) ≡ nowhere
unfolding clip at nowhere
clip_gone k m = fun_ext λ q. go (strip k q)
  where
    go : (o : Option Key) → wipe o (under o m) ≡ none
    go none = unfold wipe under in refl
    go (some r) = unfold wipe in refl

clip_fork : (y : ℕ) (k : Key) (x : ℕ) (l : Key) (m : Key → Num) → ¬ (y ≡ x) → clip (y ∷ k) (at (x ∷ l) m) ≡ at (x ∷ l) m
clip_fork y k x l m ne = fun_ext go
  where
    go : (q : Key) → clip (y ∷ k) (at (x ∷ l) m) q ≡ at (x ∷ l) m q
    go [] = unfold clip strip wipe in refl
    go (c ∷ q) =
        unfold three in
        (elim (cmp c y) [
          | less h e ↦ rw (clip_cons y k (at (x ∷ l) m) c q, e)
          | even h e ↦ rw (clip_cons y k (at (x ∷ l) m) c q, e, at_fork x l m c q (λ f. ne (sym h ∙ f))) (wipe_none (strip k q))
          | more h e ↦ rw (clip_cons y k (at (x ∷ l) m) c q, e)
        ])

clip_off : (f : Forest) (a : ℕ) (k : Key) → ((q : Key) → find_f f a q ≡ none) → find_f f ≡ clip_f a k (find_f f)
unfolding three clip_f
clip_off f a k h = fun_ext λ c. fun_ext λ q.
    elim (cmp c a) [
      | less i e ↦ rw e
      | even i e ↦ rw (e, i, h q) (sym (wipe_none (strip k q)))
      | more i e ↦ rw e
    ]

module _ (b : ℕ) (l : Key) (w : Num) (kids rest : Forest) (k : Key) where
  clip_rest : (a : ℕ) (f : Forest) → b < a → find_f f ≡ clip_f a k (find_f rest) → find_f (node b l w kids f) ≡ clip_f a k (find_f (node b l w kids rest))
  unfolding three clip_f
  clip_rest a f h ih = fun_ext λ c. fun_ext λ q.
      elim (cmp c b) [
        | less i e ↦ rw (node_sem b l w kids f, node_sem b l w kids rest, e, cmp_lt c a (omega arith))
        | even i e ↦ rw (node_sem b l w kids f, node_sem b l w kids rest, e, cmp_lt c a (omega arith))
        | more i e ↦ rw (node_sem b l w kids f, node_sem b l w kids rest, e) (at₂ ih c q)
      ]

  clip_node : (l' : Key) (w' : Num) (kids' : Forest) → at l' (look w' (find_f kids')) ≡ clip k (at l (look w (find_f kids))) → find_f (node b l' w' kids' rest) ≡ clip_f b k (find_f (node b l w kids rest))
  unfolding three clip_f clip
  clip_node l' w' kids' h = fun_ext λ c. fun_ext λ q.
      elim (cmp c b) [
        | less i e ↦ rw (node_sem b l w kids rest, node_sem b l' w' kids' rest, e)
        | even i e ↦ rw (node_sem b l w kids rest, node_sem b l' w' kids' rest, e) (ap (λ (m : Key → Num). m q) h)
        | more i e ↦ rw (node_sem b l w kids rest, node_sem b l' w' kids' rest, e)
      ]

  clip_drop : Above b rest → clip k (at l (look w (find_f kids))) ≡ nowhere → find_f rest ≡ clip_f b k (find_f (node b l w kids rest))
  unfolding three clip_f clip nowhere
  clip_drop ab h = fun_ext λ c. fun_ext λ q.
      elim (cmp c b) [
        | less i e ↦ rw (node_sem b l w kids rest, e) (above-none b rest ab c q (omega arith))
        | even i e ↦ rw (node_sem b l w kids rest, e) (above-none b rest ab c q (omega arith) ∙ sym (ap (λ (m : Key → Num). m q) h))
        | more i e ↦ rw (node_sem b l w kids rest, e)
      ]

pub leave_f_sem : (f : Forest) → Rising f → (a : ℕ) (k : Key) → find_f (leave_f f a k) ≡ clip_f a k (find_f f)
leave_f_sem nil h a k = unfold leave_f in (clip_off nil a k (λ q. unfold find_f in refl))
leave_f_sem (node b l w kids rest) h a k =
    elim (cmp a b) [
      | less i e ↦ rw (leave_f_lt b l w kids rest a k i) (clip_off (node b l w kids rest) a k (λ q. find_f_lt b l w kids rest a q i))
      | even i e ↦ go i (λ y r. leave_f_sem kids h.1 y r) (part k l) refl (parts k l)
      | more i e ↦ rw (leave_f_gt b l w kids rest a k i) (clip_rest b l w kids rest k a (leave_f rest a k) i (leave_f_sem rest h.2 a k))
    ]
  where
    m : Key → Num
    m = look w (find_f kids)

    go : a ≡ b → ((y : ℕ) (r : Key) → find_f (leave_f kids y r) ≡ clip_f y r (find_f kids)) → (s : Parting) → part k l ≡ s → Parts k l s
        → find_f (leave_f (node b l w kids rest) a k) ≡ clip_f a k (find_f (node b l w kids rest))
    go i ih same e p = rw (leave_f-same b l w kids rest a k i e, i) (clip_drop b l w kids rest k h.0 (unfold Parts in cc (p, clip_gone l m)))
    go i ih (key_ends x r) e p =
        rw (leave_f-key_ends b l w kids rest a k x r i e, i) (clip_drop b l w kids rest k h.0 (unfold Parts in cc (p, at-append k (x ∷ r) m, clip_gone k (at (x ∷ r) m))))
    go i ih (label_ends y r) e p =
        rw (leave_f-label_ends b l w kids rest a k y r i e, i, settle_sem b l w (leave_f kids y r) rest h.0)
        (clip_node b l w kids rest k l w (leave_f kids y r) (unfold Parts in cc (p, ih y r, look_clip y r w (find_f kids), at_clip l (y ∷ r) m)))
    go i ih (fork p y k₁ x l₁) e d =
        let d' : (k ≡ p ++ y ∷ k₁) × (l ≡ p ++ x ∷ l₁) × (¬ (y ≡ x)) = unfold Parts in d in
        rw (leave_f-fork b l w kids rest a k p y k₁ x l₁ i e, i)
        (clip_node b l w kids rest k l w kids (cc (d'.0, d'.1, at-append p (x ∷ l₁) m, at_clip p (y ∷ k₁) (at (x ∷ l₁) m), clip_fork y k₁ x l₁ m d'.2)))

-- What is detached, if anything, has a property
abbrev pub AllO : (Tree → Type 0) → Option Tree → Type 0
AllO P none = Unit {0}
AllO P (some d) = P d

-- A key is stored in it
pub record Full (d : Tree) : Type 0 where
  pub key : Key
  pub number : ℕ
  pub found : find_t d key ≡ some number

pub detach_f-full : (f : Forest) → Bearing f → (a : ℕ) (k : Key) → AllO Full (detach_f f a k)
detach_f-full nil h a k = unfold detach_f in tt
detach_f-full (node b l w kids rest) h a k =
    elim (cmp a b) [
      | less j e ↦ rw (detach_f_lt b l w kids rest a k j) tt
      | even j e ↦ go j (λ y r. detach_f-full kids h.1 y r) (part k l) refl
      | more j e ↦ rw (detach_f_gt b l w kids rest a k j) (detach_f-full rest h.2 a k)
    ]
  where
    g : Hits (node b l w kids rest)
    g = hits (node b l w kids rest) h

    go : a ≡ b → ((y : ℕ) (r : Key) → AllO Full (detach_f kids y r)) → (o : Parting) → part k l ≡ o → AllO Full (detach_f (node b l w kids rest) a k)
    go j ih same e = rw (detach_f-same b l w kids rest a k j e) (record { key = g.0; number = g.1; found = unfold find_t in g.2 })
    go j ih (key_ends x r) e =
        rw (detach_f-key_ends b l w kids rest a k x r j e)
        (record { key = x ∷ r ++ g.0; number = g.1; found = unfold find_t look in (on-label x r w kids nil g.0 ∙ g.2) })
    go j ih (label_ends y r) e = rw (detach_f-label_ends b l w kids rest a k y r j e) (ih y r)
    go j ih (fork p y k₁ x l₁) e = rw (detach_f-fork b l w kids rest a k p y k₁ x l₁ j e) tt

-- Trees
clip_all : (m : Key → Num) → find_t empty ≡ clip [] m
clip_all m = fun_ext go
  where
    go : (q : Key) → find_t empty q ≡ clip [] m q
    go [] = unfold find_t empty look clip strip wipe in refl
    go (c ∷ q) = unfold find_t empty look find_f clip strip wipe in refl

-- The tree without what starts with a ∷ k
abbrev pub remainder : Tree → ℕ → Key → Tree
remainder t a k = record { num = t.num; kids = leave_f t.kids a k }

-- `split_t` by its answer
pub data Splits (t : Tree) (a : ℕ) (k : Key) : Type 0 where
  misses : detach_f t.kids a k ≡ none → split_t t (a ∷ k) ≡ absent → Splits t a k
  cuts : (d : Tree) → detach_f t.kids a k ≡ some d → split_t t (a ∷ k) ≡ halves d (remainder t a k) → Splits t a k

pub splits : (t : Tree) (a : ℕ) (k : Key) → Splits t a k
splits t a k = go (detach_f t.kids a k) refl
  where
    go : (o : Option Tree) → detach_f t.kids a k ≡ o → Splits t a k
    go none e = misses e (unfold split_t with in rw (e, with))
    go (some d) e = cuts d e (unfold split_t with in rw (e, with))

absent-halves : (d u : Tree) → absent ≡ halves d u → ⊥
absent-halves d u e = let z : ◌≡◌ {A = ℕ} 0 1 = cc in omega arith

-- where a split gives halves, they are those
pub record Halved (t : Tree) (a : ℕ) (k : Key) (d u : Tree) : Type 0 where
  pub cut : detach_f t.kids a k ≡ some d
  pub left : u ≡ remainder t a k

pub halved : (t : Tree) (a : ℕ) (k : Key) (d u : Tree) → split_t t (a ∷ k) ≡ halves d u → Halved t a k d u
halved t a k d u e =
    elim (splits t a k) [
      | misses f g ↦ absurd (absent-halves d u (sym g ∙ e))
      | cuts c f g ↦ record { cut = cc; left = cc }
    ]

-- What a key finds in either half
pub record Divides (t : Tree) (p : Key) (d u : Tree) : Type 0 where
  pub one : (q : Key) → find_t d q ≡ find_t t (p ++ q)
  pub other : find_t u ≡ clip p (find_t t)

pub split_divides : (t : Tree) (p : Key) (d u : Tree) → Rising t.kids → split_t t p ≡ halves d u → Divides t p d u
split_divides t [] d u h e =
    let e' : halves t empty ≡ halves d u = unfold split_t in e in
    record { one = λ q. cc; other = cc (clip_all (find_t t)) }
split_divides t (a ∷ k) d u h e =
    let g = halved t a k d u e in
    record {
      one = λ q.
          let x : seek (some d) q ≡ find_t d q = unfold seek in refl in
          let y : find_t t (a ∷ k ++ q) ≡ find_f t.kids a (k ++ q) = unfold find_t look in refl in
          cc (detach_f_sem t.kids a k q);
      other =
          let x : find_t (remainder t a k) ≡ look t.num (find_f (leave_f t.kids a k)) = unfold find_t in refl in
          let y : find_t t ≡ look t.num (find_f t.kids) = unfold find_t in refl in
          cc (leave_f_sem t.kids h a k, look_clip a k t.num (find_f t.kids));
    }

-- A split that finds nothing: no stored key starts with the prefix.
pub split_absent : (t : Tree) (p : Key) → split_t t p ≡ absent → (q : Key) → find_t t (p ++ q) ≡ none
split_absent t [] e q = absurd (absent-halves t empty (sym e ∙ unfold split_t in refl))
split_absent t (a ∷ k) e q =
    elim (splits t a k) [
      | misses f g ↦
          let x : seek none q ≡ none = unfold seek in refl in
          let y : find_t t (a ∷ k ++ q) ≡ find_f t.kids a (k ++ q) = unfold find_t look in refl in
          cc (detach_f_sem t.kids a k q)
      | cuts d f g ↦ absurd (absent-halves d (remainder t a k) (sym e ∙ g))
    ]

-- A split by a prefix that is not empty has found a key that starts with it.
pub split_full : (t : Tree) (a : ℕ) (k : Key) (d u : Tree) → Bearing t.kids → split_t t (a ∷ k) ≡ halves d u → Full d
split_full t a k d u b e =
    let g = halved t a k d u e in
    let i : AllO Full (some d) = rw g.cut at (detach_f-full t.kids b a k) in
    i
