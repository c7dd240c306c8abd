-- The looks of a search, case by case; get from them is what the key finds; how many there are. Assumes nothing.
use mathlib.Core.Path.{◌≡◌, refl, sym, ap, ◌∙◌}
use mathlib.Core.List.{List, [], ◌∷◌, ◌++◌, append-nil}
use mathlib.Core.Option.{none, some}
use Prim.Native.Nat.{ℕ, suc, ◌+◌, ◌<◌}
use native.Mathlib.Nat.{zero-add}
use native.Mathlib.Omega.{arith}
use lib.ListN.{length, length-append}
use borrow.Author.Tests.{eq-eqb, ne_eqb}
use Rattle.tree.specs.Key.{Key, strip, same, key_ends, label_ends, fork, part}
use Rattle.tree.specs.Map.{Num}
use Rattle.tree.specs.Tree.{Forest, nil, node, Tree}
use Rattle.tree.specs.Search.{Look, in_part, whole, looks_f, looks_t, get_in, get_t}
use Rattle.tree.proofs.Order.{less, even, more, cmp, cmp_lt, cmp_gt, cmp_refl}
use Rattle.tree.proofs.Parts.{alike, inside, beyond, apart, parted, strip-append, strip-short, strip-fork}
use Rattle.tree.proofs.Find.{under, look, find_f, find_t, find_f_lt, find_f_eq, find_f_gt}

module _ (d b : ℕ) (l : Key) (w : Num) (kids rest : Forest) (c : ℕ) (q : Key) where
  pub looks_lt : c < b → looks_f d (node b l w kids rest) c q ≡ in_part d ∷ []
  unfolding looks_f
  looks_lt h = rw (cmp_lt c b h, looks_f)

  pub looks_gt : b < c → looks_f d (node b l w kids rest) c q ≡ in_part d ∷ looks_f d rest c q
  unfolding looks_f
  looks_gt h = rw (cmp_gt c b h, looks_f)

  pub looks_same : c ≡ b → part q l ≡ same → looks_f d (node b l w kids rest) c q ≡ whole (d + suc (length l)) w ∷ []
  unfolding looks_f
  looks_same h s = rw (h, looks_f, cmp_refl b, s)

  pub looks_key_ends : (x : ℕ) (r : Key) → c ≡ b → part q l ≡ key_ends x r → looks_f d (node b l w kids rest) c q ≡ in_part (d + suc (length q)) ∷ []
  unfolding looks_f
  looks_key_ends x r h s = rw (h, looks_f, cmp_refl b, s)

  pub looks_label_ends : (y : ℕ) (r : Key) → c ≡ b → part q l ≡ label_ends y r
      → looks_f d (node b l w kids rest) c q ≡ whole (d + suc (length l)) w ∷ looks_f (d + suc (length l)) kids y r
  unfolding looks_f
  looks_label_ends y r h s = rw (h, looks_f, cmp_refl b, s)

  pub looks_fork : (p : Key) (y : ℕ) (k : Key) (x : ℕ) (r : Key) → c ≡ b → part q l ≡ fork p y k x r
      → looks_f d (node b l w kids rest) c q ≡ in_part (d + suc (length p)) ∷ []
  unfolding looks_f
  looks_fork p y k x r h s = rw (h, looks_f, cmp_refl b, s)

-- Get
get_past : (m n : ℕ) (ls : List Look) → get_in n (in_part m ∷ ls) ≡ get_in n ls
unfolding get_in
get_past m n ls = refl

get_nil : (n : ℕ) → get_in n [] ≡ none
unfolding get_in
get_nil n = refl

get_here : (m n : ℕ) (w : Num) (ls : List Look) → m ≡ n → get_in n (whole m w ∷ ls) ≡ w
unfolding get_in
get_here m n w ls h = rw (eq-eqb m n h, get_in)

get_further : (m n : ℕ) (w : Num) (ls : List Look) → m < n → get_in n (whole m w ∷ ls) ≡ get_in n ls
unfolding get_in
get_further m n w ls h = rw (ne_eqb m n (λ e. omega arith), get_in)

-- what the key finds in a node whose first byte it has
module _ (b : ℕ) (l : Key) (w : Num) (kids rest : Forest) (c : ℕ) where
  pub find_here : c ≡ b → find_f (node b l w kids rest) c l ≡ w
  unfolding under look
  find_here h =
      let s : strip l l ≡ some [] = ap (strip l) (sym (append-nil l)) ∙ strip-append l [] in
      find_f_eq b l w kids rest c l h ∙ rw s

  pub find_further : (y : ℕ) (r : Key) → c ≡ b → find_f (node b l w kids rest) c (l ++ y ∷ r) ≡ find_f kids y r
  unfolding under look
  find_further y r h = find_f_eq b l w kids rest c (l ++ y ∷ r) h ∙ rw (strip-append l (y ∷ r))

  pub find_nothing : (q : Key) → c ≡ b → strip l q ≡ none → find_f (node b l w kids rest) c q ≡ none
  unfolding under
  find_nothing q h s = find_f_eq b l w kids rest c q h ∙ rw s

get_is_find_f : (f : Forest) (d c : ℕ) (q : Key) → get_in (d + suc (length q)) (looks_f d f c q) ≡ find_f f c q
get_is_find_f nil d c q = unfold looks_f find_f in get_nil (d + suc (length q))
get_is_find_f (node b l w kids rest) d c q =
    elim (cmp c b) [
      | less h e ↦ rw (looks_lt d b l w kids rest c q h, find_f_lt b l w kids rest c q h, get_past, get_nil)
      | even h e ↦
          elim (parted q l) [
            | alike i s ↦ rw (looks_same d b l w kids rest c q h s, get_here (d + suc (length l)) (d + suc (length q)) w [] (rw i), i) (sym (find_here b l w kids rest c h))
            | inside x r i s ↦
                rw (looks_key_ends d b l w kids rest c q x r h s, find_nothing b l w kids rest c q h (rw i (strip-short q x r)), get_past, get_nil)
            | beyond y r i s ↦
                let n : length q ≡ length l + suc (length r) = simp length-append at (ap length i) in
                let m : d + suc (length q) ≡ d + suc (length l) + suc (length r) = omega arith in
                let g : find_f (node b l w kids rest) c q ≡ find_f kids y r = rw i (find_further b l w kids rest c y r h) in
                let k = get_further (d + suc (length l)) (d + suc (length q)) w (looks_f (d + suc (length l)) kids y r) (omega arith) in
                rw (looks_label_ends d b l w kids rest c q y r h s, k, m, g) (get_is_find_f kids (d + suc (length l)) y r)
            | apart p y k₁ x l₁ i j ne s ↦
                rw (looks_fork d b l w kids rest c q p y k₁ x l₁ h s, find_nothing b l w kids rest c q h (rw (i, j) (strip-fork p x l₁ y k₁ ne)), get_past, get_nil)
          ]
      | more h e ↦ rw (looks_gt d b l w kids rest c q h, find_f_gt b l w kids rest c q h, get_past) (get_is_find_f rest d c q)
    ]

pub get_is_find : (t : Tree) (k : Key) → get_t t k ≡ find_t t k
unfolding get_t looks_t find_t look
get_is_find t [] = get_here 0 0 t.num [] refl
get_is_find t (c ∷ q) = get_further 0 (suc (length q)) t.num (looks_f 0 t.kids c q) (omega arith) ∙ rw zero-add at (get_is_find_f t.kids 0 c q)
