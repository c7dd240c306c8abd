-- Keys: byte lists, their order, what two of them share.
use Rattle.std.specs.Prelude.{List, [], ◌∷◌, Bool, true, false}
use Rattle.std.proofs.Math.Option.{Option, none, some}
use Prim.Native.Nat.{ℕ, suc, ◌<◌, compare, Ordering}

-- A key is a list of bytes, each a number below 256.
abbrev pub Key : Type 0
Key = List ℕ

abbrev pub Bytes : Key → Type 0
Bytes [] = Unit {0}
Bytes (x ∷ xs) = (x < 256) × Bytes xs

-- No key, query, prefix or path is longer.
unfoldable pub key_max : ℕ
key_max = 4096

-- One of two by a test
unfoldable pub pick {ℓ} : {A : Type ℓ} → Bool → A → A → A
pick true x y = x
pick false x y = y

-- Keys are ordered byte by byte as numbers; a key comes before its own extensions.
unfoldable pub order : Key → Key → Ordering
order [] [] = Ordering.eq
order [] (y ∷ k) = Ordering.lt
order (x ∷ q) [] = Ordering.gt
order (x ∷ q) (y ∷ k) = elim (compare x y) [ Ordering.lt ↦ Ordering.lt | Ordering.eq ↦ order q k | Ordering.gt ↦ Ordering.gt ]

-- What is left of the key q behind the prefix p, if q starts with p
unfoldable pub strip : (p q : Key) → Option Key
strip [] q = some q
strip (x ∷ p) [] = none
strip (x ∷ p) (y ∷ q) = elim (compare y x) [ Ordering.lt ↦ none | Ordering.eq ↦ strip p q | Ordering.gt ↦ none ]

-- How many leading bytes two keys share
unfoldable pub common : Key → Key → ℕ
common [] l = 0
common (x ∷ k) [] = 0
common (x ∷ k) (y ∷ l) = elim (compare x y) [ Ordering.lt ↦ 0 | Ordering.eq ↦ suc (common k l) | Ordering.gt ↦ 0 ]

-- How a key and a label part: they are the same; the key ends, and x ∷ l is left of the label; the label ends, and y ∷ k
-- is left of the key; or behind the shared bytes p the key goes on with y ∷ k and the label with x ∷ l.
pub data Parting : Type 0 where
  same : Parting
  key_ends : (x : ℕ) (l : Key) → Parting
  label_ends : (y : ℕ) (k : Key) → Parting
  fork : (p : Key) (y : ℕ) (k : Key) (x : ℕ) (l : Key) → Parting

-- one shared byte more in front
unfoldable pub push : ℕ → Parting → Parting
push z same = same
push z (key_ends x l) = key_ends x l
push z (label_ends y k) = label_ends y k
push z (fork p y k x l) = fork (z ∷ p) y k x l

unfoldable pub part : (key label : Key) → Parting
part [] [] = same
part [] (x ∷ l) = key_ends x l
part (y ∷ k) [] = label_ends y k
part (y ∷ k) (x ∷ l) =
    elim (compare y x) [ Ordering.lt ↦ fork [] y k x l | Ordering.eq ↦ push x (part k l) | Ordering.gt ↦ fork [] y k x l ]
