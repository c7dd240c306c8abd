-- Where the search for a key ends in a tree, as the code tells it.
use Rattle.std.specs.Prelude.{◌≡◌, List, [], ◌∷◌, ◌++◌, length, Some, None}
use Rattle.std.specs.Prelude.{Option as Maybe}
use Rattle.std.proofs.Math.Option.{Option, none, some}
use Prim.Native.Nat.{Ordering}
use Prim.Native.Nat.{ℕ, suc, ◌≤◌, compare}
use Rattle.tree.specs.Key.{Key, key_max, same, key_ends, label_ends, fork, part}
use Rattle.tree.specs.Map.{Num}
use Rattle.tree.specs.Tree.{Forest, node, Tree, Above}
use Rattle.tree.specs.Search.{longest_t, looked_t}
use Rattle.tree.specs.Context.{Context, plug, depth, Leads, before, parent}
use Rattle.slots.specs.Layout.{WordsIn, RoomIn, len_of}
use Rattle.pool.specs.Lent.{Lent, tree_in}
use Rattle.pool.specs.Whole.{Whole}
use Rattle.search.specs.declared.Meeting.{Meeting}
use Rattle.search.specs.declared.Stop.{Stop}
use Rattle.search.specs.declared.Best.{Best}
use Rattle.search.specs.declared.Descent.{Descent}

-- Slot c lies within the buffers, and its label is not empty and within its room.
pub record InPool (ws bs : List ℕ) (c : ℕ) : Type 0 where
  pub words : WordsIn ws c
  pub labels : RoomIn bs c
  pub some : 1 ≤ len_of ws c
  pub short : len_of ws c ≤ 255

-- How a key and a label meet, by their first bytes and by how they part
abbrev pub meeting_of : (key label : Key) → Meeting
meeting_of [] l = Meeting.Before
meeting_of (y ∷ k) [] = Meeting.Before
meeting_of (y ∷ k) (b ∷ l) =
    elim (compare y b) [
      | Ordering.lt ↦ Meeting.Before
      | Ordering.eq ↦
          elim (part k l) [
            | same ↦ Meeting.Same
            | key_ends x r ↦ Meeting.Inside (suc (length k))
            | label_ends z r ↦ Meeting.Through (suc (length l))
            | fork p z r x q ↦ Meeting.Fork (suc (length p))
          ]
      | Ordering.gt ↦ Meeting.Past
    ]

-- A descent by its parts
abbrev pub descent_of : Stop → (at parent above : ℕ) → Maybe Best → (looked : ℕ) → Descent
descent_of stop at parent above best looked =
    record {
      stop = stop;
      at = record { 0 = at };
      parent = record { 0 = parent };
      above = above;
      best = best;
      looked = record { 0 = looked };
    }

-- The code's longest prefix as the definition has it
abbrev pub best_of : Maybe Best → Option (ℕ × ℕ)
best_of None = none
best_of (Some x) = some (x.length, x.number.0)

-- How the forest f begins where y ∷ r is left of the key
pub record SameAt (f : Forest) (y : ℕ) (r : Key) : Type 0 where
  pub num : Num
  pub kids : Forest
  pub rest : Forest
  pub is : f ≡ node y r num kids rest

pub record InsideAt (f : Forest) (y : ℕ) (r : Key) (m : ℕ) : Type 0 where
  pub x : ℕ
  pub tail : Key
  pub num : Num
  pub kids : Forest
  pub rest : Forest
  pub is : f ≡ node y (r ++ x ∷ tail) num kids rest
  pub bytes : m ≡ suc (length r)

pub record ForkAt (f : Forest) (y : ℕ) (r : Key) (m : ℕ) : Type 0 where
  pub shared : Key
  pub z : ℕ
  pub left : Key
  pub x : ℕ
  pub tail : Key
  pub num : Num
  pub kids : Forest
  pub rest : Forest
  pub key : r ≡ shared ++ z ∷ left
  pub is : f ≡ node y (shared ++ x ∷ tail) num kids rest
  pub differ : ¬ (z ≡ x)
  pub bytes : m ≡ suc (length shared)

abbrev pub Ends : Stop → Forest → ℕ → Key → Type 0
Ends Stop.Root f y r = ⊥
Ends Stop.Gap f y r = Above y f
Ends Stop.Same f y r = SameAt f y r
Ends (Stop.Inside m) f y r = InsideAt f y r m
Ends (Stop.Fork m) f y r = ForkAt f y r m

-- The descent has come to a forest, with y ∷ r left of the key a ∷ k.
pub record Place (t : Tree) (a : ℕ) (k : Key) (stop : Stop) (at over above : ℕ) : Type 0 where
  pub context : Context
  pub forest : Forest
  pub y : ℕ
  pub r : Key
  pub tree : t.kids ≡ plug context forest
  pub leads : Leads context a k y r
  pub at-is : at ≡ before context
  pub parent_is : over ≡ parent context
  pub above-is : above ≡ depth context
  pub ends : Ends stop forest y r

-- The empty key ends at the root.
pub record AtRoot (at over above : ℕ) : Type 0 where
  pub at-is : at ≡ 0
  pub parent_is : over ≡ 0
  pub above-is : above ≡ 0

abbrev pub PlaceOf : Tree → Key → Stop → (at over above : ℕ) → Type 0
PlaceOf t [] Stop.Root at over above = AtRoot at over above
PlaceOf t [] Stop.Gap at over above = ⊥
PlaceOf t [] Stop.Same at over above = ⊥
PlaceOf t [] (Stop.Inside m) at over above = ⊥
PlaceOf t [] (Stop.Fork m) at over above = ⊥
PlaceOf t (a ∷ k) stop at over above = Place t a k stop at over above

-- Where the descent for a key has come to, with the longest stored prefix of the key and the number of nodes looked at
pub record Lands (t : Tree) (key : Key) (d : Descent) : Type 0 where
  pub place : PlaceOf t key d.stop d.at.0 d.parent.0 d.above
  pub best : best_of d.best ≡ longest_t t key
  pub looked : d.looked.0 ≡ looked_t t key

-- What a descent in a tested pool, for a tested key, says: also that both are what they were tested for.
pub record Descends (l : Lent) (key : Key) (d : Descent) : Type 0 where
  pub whole : Whole l
  pub short : length key ≤ key_max
  pub lands : (t : Tree) → tree_in l ≡ some t → Lands t key d
