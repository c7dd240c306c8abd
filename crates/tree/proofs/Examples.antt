-- The worked examples that document 01 marks P, in one table, with what get and remove say of the same trees, how many
-- nodes the searches look at, and images with bits that stand alone: what the definitions give, beside what is due; and
-- one proof over the table. Assumes nothing.
use mathlib.Core.Path.{◌≡◌, refl}
use mathlib.Core.List.{List, [], ◌∷◌, map}
use mathlib.Core.Option.{some}
use Prim.Native.Nat.{ℕ, ◌+◌}
use Rattle.tree.specs.Key.{strip, part, push, key_max, pick}
use Rattle.tree.specs.Map.{Pairs}
use Rattle.tree.specs.Tree.{Tree, empty, room, pairs_f, pairs_t, labelled, own, nodes_f, nodes_t}
use Rattle.tree.specs.Search.{looks_f, looks_t, get_in, get_t, met, longest_in, longest_t, shared_in, shared_t, looked_t}
use Rattle.tree.specs.Insert.{chain, leaf, beside, insert_f, insert_t}
use Rattle.tree.specs.Remove.{joins, settle, erase_f, erase_t, if_stored, remove_t}
use Rattle.tree.specs.Split.{detach_f, leave_f, with, split_t}
use Rattle.tree.specs.Image.{flags_w, flags_f, flags, image_f, image_t, numbers_w, numbers_f, numbers_t}
use Rattle.tree.specs.Told.{Told, done, refusal, refusal_at}
use Rattle.tree.specs.Reader.{judge, below, number_of, numbers_past, over_kids, read_node, over_rest, read_kids, read_t}
use Rattle.tree.specs.Cleared.{lone, cleared_flag, cleared_from, cleared}
use Rattle.tree.specs.Calls.{Outcome, refuses, leaves, SplitOutcome, refuses_both, leaves_both, fits, number_told, longest_told, get_call, insert_call, longest_call, shared_call, remove_told, remove_call, split_told, split_call, read_told, read_call}

-- What an example shows: what is told; an image with its numbers; the pairs of a tree and its number of nodes
pub data Shown : Type 0 where
  told : Told → Shown
  bytes : (image numbers : List ℕ) → Shown
  holds : Pairs → (nodes : ℕ) → Shown

abbrev written : Tree → Shown
written t = bytes (image_t t) (numbers_t t)

abbrev tree : Tree → Shown
tree t = holds (pairs_t t) (nodes_t t)

-- what a call tells, and the tree that it leaves
abbrev tells : Outcome → Shown
tells (refuses x) = told x
tells (leaves vs t) = told (done vs)

abbrev after : Outcome → Shown
after (refuses x) = told x
after (leaves vs t) = tree t

abbrev image : Outcome → Shown
image (refuses x) = told x
image (leaves vs t) = written t

abbrev second : SplitOutcome → Shown
second (refuses_both x) = told x
second (leaves_both d u) = tree d

abbrev first : SplitOutcome → Shown
first (refuses_both x) = told x
first (leaves_both d u) = tree u

-- bytes of keys
abbrev a : ℕ
a = 0x61

abbrev b : ℕ
b = 0x62

abbrev c : ℕ
c = 0x63

abbrev d : ℕ
d = 0x64

unfoldable pub ab_ac : Tree
ab_ac = insert_t (insert_t empty (a ∷ b ∷ []) 1) (a ∷ c ∷ []) 2

unfoldable pub ab : Tree
ab = insert_t empty (a ∷ b ∷ []) 1

unfoldable pub a_abc : Tree
a_abc = insert_t (insert_t empty (a ∷ []) 1) (a ∷ b ∷ c ∷ []) 2

unfoldable pub ab_ac_b : Tree
ab_ac_b = insert_t ab_ac (b ∷ []) 3

unfoldable pub abc : Tree
abc = insert_t empty (a ∷ b ∷ c ∷ []) 1

pub record Example : Type 0 where
  pub given : Shown
  pub due : Shown

abbrev nineteen : List ℕ
nineteen = 0x0C ∷ 0 ∷ 0 ∷ 0 ∷ 0x0C ∷ 1 ∷ 0 ∷ 1 ∷ 0x61 ∷ 0x33 ∷ 1 ∷ 0 ∷ 2 ∷ 0x62 ∷ 3 ∷ 1 ∷ 0 ∷ 2 ∷ 0x63 ∷ []

-- what the old software writes of a = 1, b = 2 with b removed, and the same cleared
abbrev nine : List ℕ
nine = 0x0C ∷ 0 ∷ 0 ∷ 0 ∷ 0x13 ∷ 1 ∷ 0 ∷ 1 ∷ 0x61 ∷ []

abbrev nine_cleared : List ℕ
nine_cleared = 0x0C ∷ 0 ∷ 0 ∷ 0 ∷ 3 ∷ 1 ∷ 0 ∷ 1 ∷ 0x61 ∷ []

-- a root alone, and a leaf a under a root, by their flags
abbrev root_with : ℕ → List ℕ
root_with f = f ∷ 0 ∷ 0 ∷ 0 ∷ []

abbrev leaf_with : ℕ → List ℕ
leaf_with f = 0x0C ∷ 0 ∷ 0 ∷ 0 ∷ f ∷ 1 ∷ 0 ∷ 1 ∷ 0x61 ∷ []

unfoldable pub table : List Example
table =
    -- the empty tree's image; no bytes give 6
    record { given = written empty; due = bytes (0 ∷ 0 ∷ 0 ∷ 0 ∷ []) [] }
    ∷ record { given = tells (read_call (some 1) [] []); due = told (refusal_at 6 0) }
    -- the 19 bytes, written and read
    ∷ record { given = written ab_ac; due = bytes nineteen (1 ∷ 2 ∷ []) }
    ∷ record { given = after (read_call (some 4) nineteen (1 ∷ 2 ∷ [])); due = tree ab_ac }
    -- and what get finds in that tree, at the younger of two siblings and nowhere
    ∷ record { given = told (get_call (some ab_ac) (a ∷ c ∷ [])); due = told (done (2 ∷ 4 ∷ [])) }
    ∷ record { given = told (get_call (some ab_ac) (a ∷ [])); due = told (refusal_at 3 2) }
    -- a search looks at the root, and at the child at which it stops because that begins above the key's next byte
    ∷ record { given = told (get_call (some ab_ac) []); due = told (refusal_at 3 1) }
    ∷ record { given = told (get_call (some ab_ac) (a ∷ a ∷ [])); due = told (refusal_at 3 3) }
    -- after removing ab; what is not stored is not removed
    ∷ record { given = image (remove_call (some ab_ac) (a ∷ b ∷ [])); due = bytes (0x0C ∷ 0 ∷ 0 ∷ 0 ∷ 3 ∷ 2 ∷ 0 ∷ 1 ∷ 0x61 ∷ 0x63 ∷ []) (2 ∷ []) }
    ∷ record { given = tells (remove_call (some ab_ac) (a ∷ [])); due = told (refusal_at 3 2) }
    -- what insert and remove look at is the tree as it was before
    ∷ record { given = tells (remove_call (some ab_ac) (a ∷ c ∷ [])); due = told (done (2 ∷ 4 ∷ [])) }
    ∷ record { given = tells (insert_call (some empty) 2 (a ∷ []) 7); due = told (done (1 ∷ [])) }
    ∷ record { given = tells (insert_call (some ab) 2 (a ∷ b ∷ []) 7); due = told (done (1 ∷ 2 ∷ [])) }
    -- one slot takes the empty key, and no other
    ∷ record { given = after (insert_call (some empty) 1 [] 7); due = holds (([], 7) ∷ []) 1 }
    ∷ record { given = tells (insert_call (some empty) 1 (a ∷ []) 7); due = told (refusal 4) }
    -- three slots with ab take a, and not ac
    ∷ record { given = after (insert_call (some ab) 3 (a ∷ []) 7); due = holds ((a ∷ [], 7) ∷ (a ∷ b ∷ [], 1) ∷ []) 3 }
    ∷ record { given = tells (insert_call (some ab) 3 (a ∷ c ∷ []) 7); due = told (refusal 4) }
    -- a = 1, abc = 2: the queries abd and b
    ∷ record { given = told (longest_call (some a_abc) (a ∷ b ∷ d ∷ [])); due = told (done (1 ∷ 1 ∷ 3 ∷ [])) }
    ∷ record { given = told (shared_call (some a_abc) (a ∷ b ∷ d ∷ [])); due = told (done (2 ∷ 3 ∷ [])) }
    ∷ record { given = told (longest_call (some a_abc) (b ∷ [])); due = told (refusal_at 3 2) }
    ∷ record { given = told (shared_call (some a_abc) (b ∷ [])); due = told (done (0 ∷ 2 ∷ [])) }
    -- ab, ac, b split by a
    ∷ record { given = second (split_call (some ab_ac_b) (some 3) (a ∷ [])); due = holds ((b ∷ [], 1) ∷ (c ∷ [], 2) ∷ []) 3 }
    ∷ record { given = first (split_call (some ab_ac_b) (some 3) (a ∷ [])); due = holds ((b ∷ [], 3) ∷ []) 2 }
    -- and by ab
    ∷ record { given = second (split_call (some ab_ac_b) (some 1) (a ∷ b ∷ [])); due = holds (([], 1) ∷ []) 1 }
    ∷ record { given = first (split_call (some ab_ac_b) (some 1) (a ∷ b ∷ [])); due = holds ((a ∷ c ∷ [], 2) ∷ (b ∷ [], 3) ∷ []) 3 }
    -- abc split by a
    ∷ record { given = second (split_call (some abc) (some 2) (a ∷ [])); due = holds ((b ∷ c ∷ [], 1) ∷ []) 2 }
    -- the nine bytes of the old software, read, written back and cleared
    ∷ record { given = after (read_call (some 2) nine (1 ∷ [])); due = holds ((a ∷ [], 1) ∷ []) 2 }
    ∷ record { given = image (read_call (some 2) nine (1 ∷ [])); due = bytes nine_cleared (1 ∷ []) }
    ∷ record { given = bytes (cleared nine) []; due = bytes nine_cleared [] }
    -- bits that stand alone on the root, and a sibling of the root
    ∷ record { given = image (read_call (some 1) (root_with (1 + 4 + 16)) []); due = bytes (root_with 0) [] }
    ∷ record { given = tells (read_call (some 1) (root_with (16 + 32)) []); due = told (refusal_at 7 0) }
    -- a lone 1 is no number, so that the leaf is idle; a lone 4 is no child; a lone 2 is refused
    ∷ record { given = tells (read_call (some 2) (leaf_with 1) (1 ∷ [])); due = told (refusal_at 11 4) }
    ∷ record { given = image (read_call (some 2) (leaf_with (3 + 4)) (1 ∷ [])); due = bytes (leaf_with 3) (1 ∷ []) }
    ∷ record { given = tells (read_call (some 2) (leaf_with 2) (1 ∷ [])); due = told (refusal_at 7 4) }
    ∷ []

pub examples : map (λ (e : Example). e.given) table ≡ map (λ (e : Example). e.due) table
unfolding table ab ab_ac a_abc ab_ac_b abc empty room strip part push key_max pick joins pairs_f pairs_t labelled own nodes_f nodes_t looks_f looks_t get_in get_t met longest_in longest_t shared_in shared_t looked_t chain leaf beside insert_f insert_t settle erase_f erase_t if_stored remove_t detach_f leave_f with split_t flags_w flags_f flags image_f image_t numbers_w numbers_f numbers_t judge below number_of numbers_past over_kids read_node over_rest read_kids read_t fits number_told longest_told get_call insert_call longest_call shared_call remove_told remove_call split_told split_call read_told read_call cleared_from cleared_flag lone
examples = refl
