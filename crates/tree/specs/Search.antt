-- Searching. Get, longest stored prefix and longest shared length search alike: each goes by the nodes that one search
-- looks at.
use Rattle.std.specs.Prelude.{List, [], ◌∷◌, true, false, length, eqb}
use Rattle.std.proofs.Math.Option.{Option, none, some}
use Prim.Native.Nat.{ℕ, suc, ◌+◌, compare, Ordering}
use Rattle.tree.specs.Key.{Key, same, key_ends, label_ends, fork, part}
use Rattle.tree.specs.Map.{Num}
use Rattle.tree.specs.Tree.{Forest, nil, node, Tree}

-- A node looked at: how many leading bytes of the key the labels down to it have matched, its own bytes included; where
-- its label matched whole, with its number.
pub data Look : Type 0 where
  in_part : (matched : ℕ) → Look
  whole : (matched : ℕ) (num : Num) → Look

-- The looks at a node's children, in order, as far as the first whose first byte is not below the key's next byte c; q is
-- what the key has behind c, and d bytes were matched above. They go on below a label that matched whole, while key bytes
-- remain.
unfoldable pub looks_f : (d : ℕ) → Forest → (c : ℕ) (q : Key) → List Look
looks_f d nil c q = []
looks_f d (node b l w kids rest) c q =
    elim (compare c b) [
      | Ordering.lt ↦ in_part d ∷ []
      | Ordering.eq ↦
          elim (part q l) [
            | same ↦ whole (d + suc (length l)) w ∷ []
            | key_ends x r ↦ in_part (d + suc (length q)) ∷ []
            | label_ends y r ↦ whole (d + suc (length l)) w ∷ looks_f (d + suc (length l)) kids y r
            | fork p y k x r ↦ in_part (d + suc (length p)) ∷ []
          ]
      | Ordering.gt ↦ in_part d ∷ looks_f d rest c q
    ]

-- The root is looked at, and its empty label matches whole; then, if the key has any byte, its children.
unfoldable pub looks_t : Tree → Key → List Look
looks_t t [] = whole 0 t.num ∷ []
looks_t t (c ∷ q) = whole 0 t.num ∷ looks_f 0 t.kids c q

-- Get: the number of the node at which all n bytes of the key have matched
unfoldable pub get_in : (n : ℕ) → List Look → Num
get_in n [] = none
get_in n (in_part m ∷ ls) = get_in n ls
get_in n (whole m w ∷ ls) = elim (eqb m n) [ true ↦ w | false ↦ get_in n ls ]

unfoldable pub get_t : Tree → Key → Num
get_t t k = get_in (length k) (looks_t t k)

-- Longest stored prefix: the last number met at a label that matched whole, with the length matched there
unfoldable pub met : ℕ → Num → Option (ℕ × ℕ) → Option (ℕ × ℕ)
met m none best = best
met m (some v) best = some (m, v)

unfoldable pub longest_in : Option (ℕ × ℕ) → List Look → Option (ℕ × ℕ)
longest_in best [] = best
longest_in best (in_part m ∷ ls) = longest_in best ls
longest_in best (whole m w ∷ ls) = longest_in (met m w best) ls

unfoldable pub longest_t : Tree → Key → Option (ℕ × ℕ)
longest_t t q = longest_in none (looks_t t q)

-- Longest shared length: what had been matched at the last look
unfoldable pub shared_in : ℕ → List Look → ℕ
shared_in n [] = n
shared_in n (in_part m ∷ ls) = shared_in m ls
shared_in n (whole m w ∷ ls) = shared_in m ls

unfoldable pub shared_t : Tree → Key → ℕ
shared_t t q = shared_in 0 (looks_t t q)

-- How many nodes' labels the search compared
unfoldable pub looked_t : Tree → Key → ℕ
looked_t t k = length (looks_t t k)
