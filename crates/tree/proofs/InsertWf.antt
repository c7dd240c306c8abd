-- Insert keeps a tree well-formed. Assumes nothing.
use mathlib.Core.Path.{◌≡◌, refl, ap, subst}
use mathlib.Core.List.{[], ◌∷◌, ◌++◌}
use mathlib.Core.Option.{none, some}
use Prim.Native.Nat.{ℕ, zero, suc, ◌+◌, ◌≤◌, ◌<◌}
use native.Mathlib.Omega.{arith}
use lib.ListN.{length, take, drop, length-append, length-take, length-drop, take-append-drop}
use Rattle.tree.specs.Key.{Key, Bytes, key_max, Parting, same, key_ends, label_ends, fork, part}
use Rattle.tree.specs.Map.{Num}
use Rattle.tree.specs.Tree.{Forest, nil, node, Tree, Above, Used, Wf, WellFormed, room}
use Rattle.tree.specs.Insert.{chain, leaf, beside, insert_f, insert_t}
use Rattle.tree.proofs.Order.{less, even, more, cmp}
use Rattle.tree.proofs.Parts.{Parts, parts, bytes_left, bytes-right}
use Rattle.tree.proofs.Shapes.{wf-beside}
use Rattle.tree.proofs.InsertFind.{insert_f_lt, insert_f_gt, insert_f-same, insert_f-key_ends, insert_f-label_ends, insert_f-fork}

pub wf-at : (f : Forest) {s t : ℕ} → s ≡ t → Wf s f → Wf t f
wf-at f e h = subst (λ (n : ℕ). Wf n f) e h

-- A new leaf
abbrev pub Starts : ℕ → Forest → Type 0
Starts a nil = ⊥
Starts a (node b l w kids rest) = a ≡ b

pub starts-above : (c a : ℕ) (f : Forest) → Starts a f → c < a → Above c f
starts-above c a nil h i = tt
starts-above c a (node b l w kids rest) h i = omega arith

starts-used : (w : Num) (a : ℕ) (f : Forest) → Starts a f → Used w f
starts-used (some v) a f h = tt
starts-used none a nil h = h
starts-used none a (node b l w kids rest) h = tt

chain-starts : (n a : ℕ) (k : Key) (v : ℕ) (rest : Forest) → Starts a (chain n a k v rest)
unfolding chain
chain-starts zero a k v rest = refl
chain-starts (suc n) a k v rest = go (drop room k) refl
  where
    go : (d : Key) → drop room k ≡ d → Starts a (chain (suc n) a k v rest)
    go [] e = rw (e, chain) refl
    go (y ∷ r) e = rw (e, chain) refl

chain-wf : (n s a : ℕ) (k : Key) (v : ℕ) (rest : Forest) → length k ≤ n → a < 256 → Bytes k → s + suc (length k) ≤ key_max → Above a rest → Wf s rest
    → Wf s (chain n a k v rest)
unfolding chain
chain-wf zero s a k v rest z ha hk d ab hr =
    record { byte = ha; bytes = hk; short = omega arith; deep = d; above = ab; used = tt; wkids = tt; wrest = hr }
chain-wf (suc n) s a k v rest z ha hk d ab hr = go (drop room k) refl (λ y r. chain-wf n (s + suc (length (take room k))) y r v nil)
  where
    go : (o : Key) → drop room k ≡ o
        → ((y : ℕ) (r : Key) → length r ≤ n → y < 256 → Bytes r → s + suc (length (take room k)) + suc (length r) ≤ key_max → Unit {0} → Unit {0} → Wf (s + suc (length (take room k))) (chain n y r v nil))
        → Wf s (chain (suc n) a k v rest)
    go [] e ih =
        rw (e, chain)
        (record { byte = ha; bytes = hk; short = omega (arith, length-drop room k, ap length e); deep = d; above = ab; used = tt; wkids = tt; wrest = hr })
    go (y ∷ r) e ih =
        let f : k ≡ take room k ++ y ∷ r = cc (take-append-drop room k, e) in
        let g : length k ≡ length (take room k) + suc (length r) = simp length-append at (ap length f) in
        let b : Bytes (take room k ++ y ∷ r) = rw f at hk in
        rw (e, chain)
        (record {
          byte = ha;
          bytes = bytes_left (take room k) (y ∷ r) b;
          short = omega (arith, length-take room k);
          deep = omega arith;
          above = ab;
          used = starts-used none y (chain n y r v nil) (chain-starts n y r v nil);
          wkids = ih y r (omega (arith, length-drop room k, ap length e)) (bytes-right (take room k) (y ∷ r) b).0 (bytes-right (take room k) (y ∷ r) b).1 (omega arith) tt tt;
          wrest = hr;
        })

pub leaf-wf : (s a : ℕ) (k : Key) (v : ℕ) (rest : Forest) → a < 256 → Bytes k → s + suc (length k) ≤ key_max → Above a rest → Wf s rest → Wf s (leaf a k v rest)
unfolding leaf
leaf-wf s a k v rest = chain-wf (length k) s a k v rest (omega arith)

pub leaf-starts : (a : ℕ) (k : Key) (v : ℕ) (rest : Forest) → Starts a (leaf a k v rest)
unfolding leaf
leaf-starts a k v rest = chain-starts (length k) a k v rest

-- What stands first after insert
pub data First (f : Forest) (a : ℕ) (g : Forest) : Type 0 where
  new : Starts a g → First f a g
  old : (b : ℕ) → Starts b f → Starts b g → First f a g

ins_eq_starts : (b : ℕ) (l : Key) (w : Num) (kids rest : Forest) (a : ℕ) (k : Key) (v : ℕ) → a ≡ b → (s : Parting) → part k l ≡ s → Starts b (insert_f (node b l w kids rest) a k v)
ins_eq_starts b l w kids rest a k v h same e = rw (insert_f-same b l w kids rest a k v h e) refl
ins_eq_starts b l w kids rest a k v h (key_ends x r) e = rw (insert_f-key_ends b l w kids rest a k v x r h e) refl
ins_eq_starts b l w kids rest a k v h (label_ends y r) e = rw (insert_f-label_ends b l w kids rest a k v y r h e) refl
ins_eq_starts b l w kids rest a k v h (fork p y k₁ x l₁) e = rw (insert_f-fork b l w kids rest a k v p y k₁ x l₁ h e) refl

pub ins_first : (f : Forest) (a : ℕ) (k : Key) (v : ℕ) → First f a (insert_f f a k v)
unfolding insert_f
ins_first nil a k v = new (leaf-starts a k v nil)
ins_first (node b l w kids rest) a k v =
    elim (cmp a b) [
      | less h e ↦ new (rw (insert_f_lt b l w kids rest a k v h) (leaf-starts a k v (node b l w kids rest)))
      | even h e ↦ old b refl (ins_eq_starts b l w kids rest a k v h (part k l) refl)
      | more h e ↦ old b refl (rw (insert_f_gt b l w kids rest a k v h) refl)
    ]

pub ins_above : (c : ℕ) (f : Forest) (a : ℕ) (g : Forest) → First f a g → c < a → Above c f → Above c g
ins_above c f a g (new h) i j = starts-above c a g h i
ins_above c (node b' l w kids rest) a g (old b h₁ h₂) i j = starts-above c b g h₂ (omega arith)
ins_above c nil a g (old b h₁ h₂) i j = absurd h₁

ins_used : (w : Num) (f : Forest) (a : ℕ) (g : Forest) → First f a g → Used w g
ins_used w f a g (new h) = starts-used w a g h
ins_used w f a g (old b h₁ h₂) = starts-used w b g h₂

beside-starts : (y : ℕ) (k : Key) (v x : ℕ) (l : Key) (w : Num) (kids : Forest) → ¬ (y ≡ x) → First (node x l w kids nil) y (beside y k v x l w kids)
unfolding beside
beside-starts y k v x l w kids ne =
    elim (cmp y x) [
      | less h e ↦ rw (e, beside) (new (leaf-starts y k v (node x l w kids nil)))
      | even h e ↦ absurd (ne h)
      | more h e ↦ rw (e, beside) (old x refl refl)
    ]

beside-wf : (s y : ℕ) (k : Key) (v x : ℕ) (l : Key) (w : Num) (kids : Forest) → ¬ (y ≡ x) → y < 256 → Bytes k → s + suc (length k) ≤ key_max → Wf s (node x l w kids nil)
    → Wf s (beside y k v x l w kids)
unfolding beside
beside-wf s y k v x l w kids ne hy hk d h =
    elim (cmp y x) [
      | less i e ↦ rw (e, beside) (leaf-wf s y k v (node x l w kids nil) hy hk d i h)
      | even i e ↦ absurd (ne i)
      | more i e ↦
          rw (e, beside)
          (wf-beside h (starts-above x y (leaf y k v nil) (leaf-starts y k v nil) i) (leaf-wf s y k v nil hy hk d tt tt))
    ]

-- The lower part of a node whose label is parted
pub lower : (s b : ℕ) (p : Key) (x : ℕ) (r : Key) (w : Num) (kids rest : Forest) → Wf s (node b (p ++ x ∷ r) w kids rest) → Wf (s + suc (length p)) (node x r w kids nil)
lower s b p x r w kids rest h =
    let n : length (p ++ x ∷ r) ≡ length p + suc (length r) = length-append p (x ∷ r) in
    let e : s + suc (length (p ++ x ∷ r)) ≡ s + suc (length p) + suc (length r) = omega arith in
    record {
      byte = (bytes-right p (x ∷ r) h.bytes).0;
      bytes = (bytes-right p (x ∷ r) h.bytes).1;
      short = omega (arith, h.short);
      deep = omega (arith, h.deep);
      above = tt;
      used = h.used;
      wkids = wf-at kids e h.wkids;
      wrest = tt;
    }

-- The upper part, with new children
upper : (s b : ℕ) (p : Key) (x : ℕ) (r : Key) (w : Num) (kids rest : Forest) (u : Num) (f : Forest) → Wf s (node b (p ++ x ∷ r) w kids rest) → Used u f → Wf (s + suc (length p)) f
    → Wf s (node b p u f rest)
upper s b p x r w kids rest u f h i j =
    let n : length (p ++ x ∷ r) ≡ length p + suc (length r) = length-append p (x ∷ r) in
    record {
      byte = h.byte;
      bytes = bytes_left p (x ∷ r) h.bytes;
      short = omega (arith, h.short);
      deep = omega (arith, h.deep);
      above = h.above;
      used = i;
      wkids = j;
      wrest = h.wrest;
    }

module _ (b : ℕ) (l : Key) (w : Num) (kids rest : Forest) (a : ℕ) (k : Key) (v s : ℕ) where
  ins_eq_wf : a ≡ b → Wf s (node b l w kids rest) → Bytes k → s + suc (length k) ≤ key_max
      → ((y : ℕ) (r : Key) → y < 256 → Bytes r → s + suc (length l) + suc (length r) ≤ key_max → Wf (s + suc (length l)) (insert_f kids y r v))
      → (o : Parting) → part k l ≡ o → Parts k l o → Wf s (insert_f (node b l w kids rest) a k v)
  unfolding Parts
  ins_eq_wf h hf hk d ih same e p =
      rw (insert_f-same b l w kids rest a k v h e)
      (record { byte = hf.byte; bytes = hf.bytes; short = hf.short; deep = hf.deep; above = hf.above; used = tt; wkids = hf.wkids; wrest = hf.wrest })
  ins_eq_wf h hf hk d ih (key_ends x r) e p =
      let hf' : Wf s (node b (k ++ x ∷ r) w kids rest) = rw p at hf in
      rw (insert_f-key_ends b l w kids rest a k v x r h e) (upper s b k x r w kids rest (some v) (node x r w kids nil) hf' tt (lower s b k x r w kids rest hf'))
  ins_eq_wf h hf hk d ih (label_ends y r) e p =
      let hk' : Bytes (l ++ y ∷ r) = rw p at hk in
      let n : length k ≡ length l + suc (length r) = simp length-append at (ap length p) in
      let c : Bytes (y ∷ r) = bytes-right l (y ∷ r) hk' in
      rw (insert_f-label_ends b l w kids rest a k v y r h e)
      (record {
        byte = hf.byte;
        bytes = hf.bytes;
        short = hf.short;
        deep = hf.deep;
        above = hf.above;
        used = ins_used w kids y (insert_f kids y r v) (ins_first kids y r v);
        wkids = ih y r c.0 c.1 (omega arith);
        wrest = hf.wrest;
      })
  ins_eq_wf h hf hk d ih (fork p y k₁ x l₁) e o =
      let hf' : Wf s (node b (p ++ x ∷ l₁) w kids rest) = rw o.1 at hf in
      let hk' : Bytes (p ++ y ∷ k₁) = rw o.0 at hk in
      let n : length k ≡ length p + suc (length k₁) = simp length-append at (ap length o.0) in
      let c : Bytes (y ∷ k₁) = bytes-right p (y ∷ k₁) hk' in
      rw (insert_f-fork b l w kids rest a k v p y k₁ x l₁ h e)
      (upper s b p x l₁ w kids rest none (beside y k₁ v x l₁ w kids) hf'
      (ins_used none (node x l₁ w kids nil) y (beside y k₁ v x l₁ w kids) (beside-starts y k₁ v x l₁ w kids o.2))
      (beside-wf (s + suc (length p)) y k₁ v x l₁ w kids o.2 c.0 c.1 (omega arith) (lower s b p x l₁ w kids rest hf')))

pub insert_f-wf : (f : Forest) (s a : ℕ) (k : Key) (v : ℕ) → Wf s f → a < 256 → Bytes k → s + suc (length k) ≤ key_max → Wf s (insert_f f a k v)
unfolding insert_f
insert_f-wf nil s a k v h ha hk d = leaf-wf s a k v nil ha hk d tt tt
insert_f-wf (node b l w kids rest) s a k v h ha hk d =
    elim (cmp a b) [
      | less i e ↦ rw (insert_f_lt b l w kids rest a k v i) (leaf-wf s a k v (node b l w kids rest) ha hk d i h)
      | even i e ↦ ins_eq_wf b l w kids rest a k v s i h hk d (λ y r. insert_f-wf kids (s + suc (length l)) y r v h.wkids) (part k l) refl (parts k l)
      | more i e ↦
          rw (insert_f_gt b l w kids rest a k v i)
          (wf-beside h (ins_above b rest a (insert_f rest a k v) (ins_first rest a k v) i h.above) (insert_f-wf rest s a k v h.wrest ha hk d))
    ]

pub insert-wf : (t : Tree) (k : Key) (v : ℕ) → WellFormed t → Bytes k → length k ≤ key_max → WellFormed (insert_t t k v)
unfolding insert_t
insert-wf t [] v h b d = h
insert-wf t (a ∷ k) v h b d = insert_f-wf t.kids 0 a k v h b.0 b.1 (omega arith)
