-- The parts of one record, as the writer puts them and as the reader takes them: flags, level, number, label.
-- Assumes nothing.
use mathlib.Core.Path.{◌≡◌, refl}
use mathlib.Core.List.{List, [], ◌∷◌, ◌++◌, append_assoc}
use mathlib.Core.Option.{none, some}
use Prim.Native.Nat.{ℕ, ◌+◌, ◌*◌, ◌/◌, ◌%◌, ◌≤◌, ◌<◌, zero, suc, ◌-◌}
use native.Mathlib.Omega.{arith}
use lib.ListN.{length, get_or, take, drop, length-append, take-append-drop}
use lib.Seq.{drop-cons, drop-drop, get_or-drop}
use Rattle.tree.specs.Key.{Key}
use Rattle.tree.specs.Map.{Num}
use Rattle.tree.specs.Tree.{Forest, nil, node, keys_w}
use Rattle.tree.specs.Image.{flags_w, flags_f, flags, image_f, numbers_w, numbers_f}
use Rattle.tree.specs.Reader.{has_number, has_child, has_sibling, number_of, numbers_past}
use Rattle.tree.specs.Cleared.{cleared_flag}
use Rattle.tree.proofs.Bits.{cleared_sum}
use Rattle.tree.proofs.ReaderRules.{Allocated}

-- 1 for a forest that has a node, 0 for the other; `keys_w` says the same of a number.
abbrev pub has : Forest → ℕ
has f = flags_f 1 f

-- A flag byte that is taken, and what it says
pub record Says (f x y z : ℕ) : Type 0 where
  pub bits : Allocated f
  pub number : has_number f ≡ x
  pub child : has_child f ≡ y
  pub sibling : has_sibling f ≡ z

-- The flags that the writer sets
pub flags_say : (w : Num) (kids rest : Forest) → Says (flags w kids rest) (keys_w w) (has kids) (has rest)
unfolding flags flags_w flags_f keys_w
flags_say none nil nil = omega arith
flags_say none nil (node b l w kids rest) = omega arith
flags_say none (node b l w kids rest) nil = omega arith
flags_say none (node b l w kids rest) (node c m u ks r) = omega arith
flags_say (some v) nil nil = omega arith
flags_say (some v) nil (node b l w kids rest) = omega arith
flags_say (some v) (node b l w kids rest) nil = omega arith
flags_say (some v) (node b l w kids rest) (node c m u ks r) = omega arith

flags_w-is : (w : Num) → flags_w w ≡ 3 * keys_w w
unfolding flags_w keys_w
flags_w-is none = refl
flags_w-is (some v) = refl

flags_f-is : (p : ℕ) (f : Forest) → flags_f p f ≡ p * has f
unfolding flags_f
flags_f-is p nil = omega arith
flags_f-is p (node b l w kids rest) = omega arith

-- The writer sets again the flags that the reader took, but for the bits that stand alone.
pub flags-back : (f : ℕ) (w : Num) (kids rest : Forest) → Says f (keys_w w) (has kids) (has rest)
    → cleared_flag f ≡ flags w kids rest
unfolding flags
flags-back f w kids rest p =
    let b = p.bits in
    let sum = cleared_sum f b.unused b.number b.child b.sibling in
    omega (arith, sum, flags_w-is w, flags_f-is 12 kids, flags_f-is 48 rest)

-- A node's number
pub number_forth : (w : Num) (ns : List ℕ) → number_of (keys_w w) (numbers_w w ns) ≡ w
unfolding number_of numbers_w keys_w
number_forth none ns = refl
number_forth (some v) ns = refl

pub past_forth : (w : Num) (ns : List ℕ) → numbers_past (keys_w w) (numbers_w w ns) ≡ ns
unfolding numbers_past numbers_w keys_w
past_forth none ns = refl
past_forth (some v) ns = refl

pub record Own (flag : ℕ) (ns : List ℕ) : Type 0 where
  pub keys : keys_w (number_of flag ns) ≡ flag
  pub numbers : ns ≡ numbers_w (number_of flag ns) (numbers_past flag ns)

pub own : (flag : ℕ) (ns : List ℕ) → flag ≤ 1 → flag ≤ length ns → Own flag ns
unfolding number_of numbers_past numbers_w keys_w
own zero ns h g = record { keys = refl; numbers = refl }
own (suc i) [] h g = absurd (omega arith)
own (suc i) (v ∷ ns) h g = record { keys = omega arith; numbers = refl }

-- A record's four bytes before its label
abbrev pub headed : (f m level : ℕ) → Key → Key
headed f m level xs = f ∷ m ∷ (level / 256) ∷ (level % 256) ∷ xs

-- the byte i of what stands at `at`
pub byte_at : (s : Key) (at i : ℕ) {xs : Key} → drop at s ≡ xs → get_or s (at + i) 0 ≡ get_or xs i 0
byte_at s at i e = rw (← e, get_or-drop)

-- The reader's view of a record, byte by byte
next : (s : Key) (i j : ℕ) → i < length s → suc i ≡ j → drop i s ≡ get_or s i 0 ∷ drop j s
next s i j h e = rw (← e) (drop-cons s i 0 h)

pub head-is : (s : Key) (at : ℕ) → at + 4 ≤ length s
    → drop at s ≡ get_or s at 0 ∷ get_or s (at + 1) 0 ∷ get_or s (at + 2) 0 ∷ get_or s (at + 3) 0 ∷ drop (at + 4) s
head-is s at h =
    cc (
      next s at (at + 1) (omega arith) (omega arith),
      next s (at + 1) (at + 2) (omega arith) (omega arith),
      next s (at + 2) (at + 3) (omega arith) (omega arith),
      next s (at + 3) (at + 4) (omega arith) (omega arith),
    )

pub label_is : (s : Key) (at m : ℕ) → 1 ≤ m → at + 4 + m ≤ length s
    → drop (at + 4) s ≡ get_or s (at + 4) 0 ∷ (take (m - 1) (drop (at + 5) s) ++ drop (at + 4 + m) s)
label_is s at m h g =
    let e : at + 5 + (m - 1) ≡ at + 4 + m = omega arith in
    cc (next s (at + 4) (at + 5) (omega arith) (omega arith), take-append-drop (m - 1) (drop (at + 5) s), drop-drop (m - 1) (at + 5) s)

-- What a node writes, with more behind it
pub image-node : (level b : ℕ) (l : Key) (w : Num) (kids rest : Forest) (bs : Key)
    → image_f level (node b l w kids rest) ++ bs
    ≡ headed (flags w kids rest) (suc (length l)) level (b ∷ (l ++ (image_f (level + 1) kids ++ (image_f level rest ++ bs))))
unfolding image_f
image-node level b l w kids rest bs = simp append_assoc

pub image-length : (level b : ℕ) (l : Key) (w : Num) (kids rest : Forest)
    → length (image_f level (node b l w kids rest)) ≡ 5 + length l + length (image_f (level + 1) kids) + length (image_f level rest)
unfolding image_f
image-length level b l w kids rest = simp length-append (omega arith)

pub number_append : (w : Num) (ns ms : List ℕ) → numbers_w w ns ++ ms ≡ numbers_w w (ns ++ ms)
unfolding numbers_w
number_append none ns ms = refl
number_append (some v) ns ms = refl

pub numbers-node : (b : ℕ) (l : Key) (w : Num) (kids rest : Forest) (ns : List ℕ)
    → numbers_f (node b l w kids rest) ++ ns ≡ numbers_w w (numbers_f kids ++ (numbers_f rest ++ ns))
unfolding numbers_f
numbers-node b l w kids rest ns = rw (number_append, append_assoc)
