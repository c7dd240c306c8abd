-- The tree that a pool holds, or none where the lent lists are no pool. Slot i holds the i-th node of the tree in
-- preorder; the slots behind the last node are free and may hold anything.
use Rattle.std.specs.Prelude.{List, [], ◌∷◌, true, false, ℕ, zero, suc, ◌+◌, length, drop, eqb}
use Rattle.std.proofs.Math.Option.{Option, none, some}
use Rattle.tree.specs.Key.{Key, key_max}
use Rattle.tree.specs.Map.{Num}
use Rattle.tree.specs.Tree.{Forest, nil, node, Tree}
use Rattle.tree.specs.Told.{refusal}
use Rattle.tree.specs.Reader.{Rule, at_most, equal, broken, sound, judge}
use Rattle.slots.specs.Layout.{words_for, bytes_for, slots_in, nodes_of, start_of, len_of, has_of, span_of, first_of, label_of, num_at}

-- A test of a pool: what fails is told as 1.
abbrev pub most : ℕ → ℕ → Rule
most a b = at_most a b (refusal 1)

abbrev pub is : ℕ → ℕ → Rule
is a b = equal a b (refusal 1)

-- The lengths: S slots, from 1 to 16,384, are 255·S bytes and 8·S + 8 words.
abbrev pub length_rules : (ws bs : List ℕ) (slots : ℕ) → List Rule
length_rules ws bs slots = most 1 slots ∷ most slots 16384 ∷ is (length bs) (bytes_for slots) ∷ is (length ws) (words_for slots) ∷ []

-- The number of slots, or none where the lengths are wrong
unfoldable pub slots_of : (ws bs : List ℕ) → Option ℕ
slots_of ws bs = elim (judge (length_rules ws bs (slots_in bs))) [ broken x ↦ none | sound ↦ some (slots_in bs) ]

-- Slot c as a child under a path of s bytes: its own subtree ends before slot e, and its first byte is at least `least`,
-- one more than its elder's.
abbrev pub child_rules : (ws bs : List ℕ) (s least c e : ℕ) → List Rule
child_rules ws bs s least c e =
    is (start_of ws c) s
    ∷ most 1 (len_of ws c)
    ∷ most (len_of ws c) 255
    ∷ most (s + len_of ws c) key_max
    ∷ most (has_of ws c) 1
    ∷ most 1 (span_of ws c)
    ∷ most (c + span_of ws c) e
    ∷ most 2 (has_of ws c + span_of ws c)
    ∷ most least (first_of bs c)
    ∷ []

-- A node over what was found for its children and its younger siblings
unfoldable pub joined : ℕ → Key → Num → (kids rest : Option Forest) → Option Forest
joined b l w (some ks) (some r) = some (node b l w ks r)
joined b l w (some ks) none = none
joined b l w none r = none

-- The siblings from slot c up to slot e, where n bounds their nodes. The first child of a slot is the next slot; its next
-- younger sibling is the slot past its span.
unfoldable pub forest_at : (n : ℕ) (ws bs : List ℕ) (s least c e : ℕ) → Option Forest
forest_at zero ws bs s least c e = elim (eqb c e) [ true ↦ some nil | false ↦ none ]
forest_at (suc n) ws bs s least c e =
    elim (eqb c e) [
      | true ↦ some nil
      | false ↦
          elim (judge (child_rules ws bs s least c e)) [
            | broken x ↦ none
            | sound ↦
                joined (first_of bs c) (drop 1 (label_of ws bs c)) (num_at ws c)
                (forest_at n ws bs (s + len_of ws c) 0 (c + 1) (c + span_of ws c))
                (forest_at n ws bs s (first_of bs c + 1) (c + span_of ws c) e)
          ]
    ]

-- The root: an empty label, and all the nodes in its span
abbrev pub root_rules : (ws : List ℕ) (slots : ℕ) → List Rule
root_rules ws slots =
    most 1 (nodes_of ws)
    ∷ most (nodes_of ws) slots
    ∷ is (start_of ws 0) 0
    ∷ is (len_of ws 0) 0
    ∷ most (has_of ws 0) 1
    ∷ is (span_of ws 0) (nodes_of ws)
    ∷ []

unfoldable pub rooted : Num → Option Forest → Option Tree
rooted w none = none
rooted w (some ks) = some (record { num = w; kids = ks })

unfoldable pub pool_tree : (ws bs : List ℕ) → Option Tree
pool_tree ws bs =
    elim (slots_of ws bs) [
      | none ↦ none
      | some slots ↦
          elim (judge (root_rules ws slots)) [
            | broken x ↦ none
            | sound ↦ rooted (num_at ws 0) (forest_at (nodes_of ws) ws bs 0 0 1 (nodes_of ws))
          ]
    ]
