-- A compact tree is determined by what its keys find. Assumes nothing.
use mathlib.Core.Path.{◌≡◌, refl, sym, ◌∙◌, fun_ext}
use mathlib.Core.List.{[], ◌∷◌, ◌++◌}
use mathlib.Core.Option.{none, some}
use Prim.Native.Nat.{ℕ, suc, ◌+◌, ◌≤◌, ◌<◌}
use native.Mathlib.Omega.{arith}
use lib.ListN.{length}
use Rattle.tree.specs.Key.{Key, strip}
use Rattle.tree.specs.Map.{Num}
use Rattle.tree.specs.Tree.{Forest, nil, node, Tree}
use Rattle.tree.proofs.Order.{less, even, more, cmp, three, none-some}
use Rattle.tree.proofs.Parts.{alike, inside, beyond, apart, parted}
use Rattle.tree.proofs.Find.{under, look, find_f, find_t, find_f_lt, find_f_eq, find_f_gt, at, at_cons, at-append, at_skip, at₂, above-none}
use Rattle.tree.proofs.Hits.{on-label, hits}
use Rattle.tree.proofs.MapOps.{on}
use Rattle.order.proofs.Compact.{Compact, CompactT, bearing}

-- A key that begins with the byte b is stored.
record Leads (f : Forest) (b : ℕ) : Type 0 where
  pub key : Key
  pub number : ℕ
  pub finds : find_f f b key ≡ some number

leads : (s b : ℕ) (l : Key) (w : Num) (kids rest : Forest) → Compact s (node b l w kids rest) → Leads (node b l w kids rest) b
leads s b l w kids rest h =
    let g = hits (node b l w kids rest) (bearing (node b l w kids rest) s h) in
    record { key = l ++ g.0; number = g.1; finds = on-label b l w kids rest g.0 ∙ g.2 }

no_lead : (f g : Forest) (b : ℕ) → Leads f b → find_f f ≡ find_f g → ¬ ((q : Key) → find_f g b q ≡ none)
no_lead f g b i e none-at = none-some i.number (cc (none-at i.key, at₂ e b i.key, i.finds))

-- Equal behind a label, equal
at_inj : (l : Key) (m n : Key → Num) → at l m ≡ at l n → m ≡ n
at_inj l m n e = fun_ext λ q. cc (at_skip l m q, at_skip l n q, on e (l ++ q))

-- What is stored behind a label begins with its first byte.
only_at : (x : ℕ) (r : Key) (m : Key → Num) (c : ℕ) (q : Key) (v : ℕ) → at (x ∷ r) m (c ∷ q) ≡ some v → c ≡ x
unfolding three
only_at x r m c q v e =
    elim (cmp c x) [
      | less h i ↦ absurd (none-some v (rw (at_cons x r m c q, i) at e))
      | even h i ↦ h
      | more h i ↦ absurd (none-some v (rw (at_cons x r m c q, i) at e))
    ]

-- A map with a number at the empty key, or with keys of two first bytes: the label before it could not have been longer.
data Thick (m : Key → Num) : Type 0 where
  numbered : (v : ℕ) → m [] ≡ some v → Thick m
  branching : (x : ℕ) (q : Key) (v y : ℕ) (r : Key) (u : ℕ) → x < y → m (x ∷ q) ≡ some v → m (y ∷ r) ≡ some u → Thick m

thick : (s b : ℕ) (l : Key) (w : Num) (kids rest : Forest) → Compact s (node b l w kids rest) → Thick (look w (find_f kids))
unfolding look
thick s b l (some v) kids rest h = numbered v refl
thick s b l none nil rest h = absurd h.kept
thick s b l none (node c m u j nil) rest h = absurd h.kept
thick s b l none (node c m u j (node d n z i o)) rest h =
    let a : c < d = h.ckids.above in
    let g = leads (s + suc (length l)) c m u j (node d n z i o) h.ckids in
    let k = leads (s + suc (length l)) d n z i o h.ckids.crest in
    branching c g.key g.number d k.key k.number a g.finds (find_f_gt c m u j (node d n z i o) d k.key a ∙ k.finds)

-- it finds something
thick_hit : (m : Key → Num) → Thick m → (q : Key) × (v : ℕ) × (m q ≡ some v)
thick_hit m (numbered v e) = ([], v, e)
thick_hit m (branching x q v y r u i e f) = (x ∷ q, v, e)

no_longer : (x : ℕ) (r : Key) (m n : Key → Num) → Thick m → ¬ (m ≡ at (x ∷ r) n)
no_longer x r m n (numbered v e) p =
    let a : at (x ∷ r) n [] ≡ none = unfold at under strip in refl in
    none-some v (cc (on p []))
no_longer x r m n (branching y q v z s u i e f) p =
    let a : y ≡ x = only_at x r n y q v (cc (on p (y ∷ q))) in
    let b : z ≡ x = only_at x r n z s u (cc (on p (z ∷ s))) in
    omega arith

-- Two labels before thick maps are one.
label_unique : (l k : Key) (m n : Key → Num) → Thick m → Thick n → at l m ≡ at k n → l ≡ k
label_unique l k m n i j e =
    elim (parted l k) [
      | alike p s ↦ p
      | inside x r p s ↦ absurd (no_longer x r m n i (at_inj l m (at (x ∷ r) n) (cc (at-append l (x ∷ r) n))))
      | beyond y r p s ↦ absurd (no_longer y r n m j (at_inj k n (at (y ∷ r) m) (cc (at-append k (y ∷ r) m))))
      | apart p y l₁ x k₁ f g ne s ↦
          let d = at_inj p (at (y ∷ l₁) m) (at (x ∷ k₁) n) (cc (at-append p (y ∷ l₁) m, at-append p (x ∷ k₁) n)) in
          let o = thick_hit m i in
          absurd (ne (only_at x k₁ n y (l₁ ++ o.0) o.1 (cc (on d (y ∷ l₁ ++ o.0), at_skip (y ∷ l₁) m o.0, o.2))))
    ]

-- Two nodes of one map have one first byte, label and number, and their children and their younger siblings have one map.
record Same (b : ℕ) (l : Key) (w : Num) (kids rest : Forest) (c : ℕ) (k : Key) (u : Num) (sons next : Forest) : Type 0 where
  pub byte : b ≡ c
  pub label : l ≡ k
  pub num : w ≡ u
  pub below : find_f kids ≡ find_f sons
  pub beside : find_f rest ≡ find_f next

not_below : (s b : ℕ) (l : Key) (w : Num) (kids rest : Forest) → Compact s (node b l w kids rest) → (c : ℕ) (k : Key) (u : Num) (sons next : Forest)
    → find_f (node b l w kids rest) ≡ find_f (node c k u sons next) → ¬ (b < c)
not_below s b l w kids rest h c k u sons next e j =
    no_lead (node b l w kids rest) (node c k u sons next) b (leads s b l w kids rest h) e (λ q. find_f_lt c k u sons next b q j)

module _ (s b : ℕ) (l : Key) (w : Num) (kids rest : Forest) (h : Compact s (node b l w kids rest))
    (t c : ℕ) (k : Key) (u : Num) (sons next : Forest) (i : Compact t (node c k u sons next))
    (e : find_f (node b l w kids rest) ≡ find_f (node c k u sons next)) where
  same_byte : b ≡ c
  same_byte =
      elim (cmp b c) [
        | less j f ↦ absurd (not_below s b l w kids rest h c k u sons next e j)
        | even j f ↦ j
        | more j f ↦ absurd (not_below t c k u sons next i b l w kids rest (sym e) j)
      ]

  -- behind their labels
  same-behind : at l (look w (find_f kids)) ≡ at k (look u (find_f sons))
  unfolding at
  same-behind = fun_ext λ q. cc (find_f_eq b l w kids rest b q refl, at₂ e b q, find_f_eq c k u sons next b q same_byte)

  same-label : l ≡ k
  same-label = label_unique l k (look w (find_f kids)) (look u (find_f sons)) (thick s b l w kids rest h) (thick t c k u sons next i) same-behind

  same-below : look w (find_f kids) ≡ look u (find_f sons)
  same-below = at_inj l (look w (find_f kids)) (look u (find_f sons)) (cc (same-behind, same-label))

  -- siblings ascend, so that the younger ones find nothing up to the first byte
  same_beside : find_f rest ≡ find_f next
  same_beside = fun_ext λ x. fun_ext λ q.
      let f : b ≡ c = same_byte in
      let early : x ≤ b → find_f rest x q ≡ find_f next x q = λ j. above-none b rest h.above x q j ∙ sym (above-none c next i.above x q (omega arith)) in
      elim (cmp x b) [
        | less j o ↦ early (omega arith)
        | even j o ↦ early (omega arith)
        | more j o ↦ cc (find_f_gt b l w kids rest x q j, at₂ e x q, find_f_gt c k u sons next x q (omega arith))
      ]

  same : Same b l w kids rest c k u sons next
  unfolding look
  same =
      record {
        byte = same_byte;
        label = same-label;
        num = on same-below [];
        below = fun_ext λ x. fun_ext λ q. on same-below (x ∷ q);
        beside = same_beside;
      }

pub forest_unique : (f : Forest) (s : ℕ) → Compact s f → (g : Forest) (t : ℕ) → Compact t g → find_f f ≡ find_f g → f ≡ g
forest_unique nil s h nil t i e = refl
forest_unique nil s h (node c k u sons next) t i e = absurd (no_lead (node c k u sons next) nil c (leads t c k u sons next i) (sym e) (λ q. unfold find_f in refl))
forest_unique (node b l w kids rest) s h nil t i e = absurd (no_lead (node b l w kids rest) nil b (leads s b l w kids rest h) e (λ q. unfold find_f in refl))
forest_unique (node b l w kids rest) s h (node c k u sons next) t i e =
    let g = same s b l w kids rest h t c k u sons next i e in
    cc (
      forest_unique kids (s + suc (length l)) h.ckids sons (t + suc (length k)) i.ckids g.below,
      forest_unique rest s h.crest next t i.crest g.beside,
    )

pub tree_unique : (t u : Tree) → CompactT t → CompactT u → find_t t ≡ find_t u → t ≡ u
unfolding find_t look
tree_unique t u h i e = λ j. record { num = on e [] j; kids = same-kids j }
  where
    same-kids : t.kids ≡ u.kids
    same-kids = forest_unique t.kids 0 h u.kids 0 i (fun_ext λ x. fun_ext λ q. on e (x ∷ q))
