-- Every flag byte, on the root and on another node, by what its bits mean: what the reader takes, what it takes the
-- byte to say, and what is left of it when it is cleared, beside what is due; and one proof over all 256. Assumes
-- nothing.
use mathlib.Core.Path.{◌≡◌, refl}
use mathlib.Core.Bool.{Bool, true, false, not, ◌&&◌}
use mathlib.Core.List.{List, [], ◌∷◌, ◌++◌, map}
use Prim.Native.Nat.{ℕ, zero, suc, ◌+◌}
use Rattle.tree.specs.Told.{Told}
use Rattle.tree.specs.Reader.{Tested, broken, sound, judge, below, flag_rules, has_number, has_child, has_sibling}
use Rattle.tree.specs.Cleared.{lone, cleared_flag}

-- What the two bits of a pair say: neither is set, the allocated one alone, the initialised one alone, both
pub data BitPair : Type 0 where
  neither allocated initialised both : BitPair

-- What the eight bits say; the last two are used for nothing.
pub record EightBits : Type 0 where
  pub number : BitPair
  pub child : BitPair
  pub sibling : BitPair
  pub unused : BitPair

-- The byte, by the bits' numbers: 1 and 2, 4 and 8, 16 and 32, 64 and 128
abbrev pair_of : (lower upper : ℕ) → BitPair → ℕ
pair_of l u neither = 0
pair_of l u allocated = l
pair_of l u initialised = u
pair_of l u both = l + u

abbrev byte_of : EightBits → ℕ
byte_of f = pair_of 1 2 f.number + pair_of 4 8 f.child + pair_of 16 32 f.sibling + pair_of 64 128 f.unused

-- An initialised bit wants its allocated one, which may stand alone; no other bit is set; the root has no sibling.
abbrev sane : BitPair → Bool
sane initialised = false
sane neither = true
sane allocated = true
sane both = true

abbrev there : BitPair → Bool
there both = true
there initialised = true
there neither = false
there allocated = false

abbrev unset : BitPair → Bool
unset neither = true
unset allocated = false
unset initialised = false
unset both = false

abbrev taken : EightBits → Bool
taken f = sane f.number && sane f.child && sane f.sibling && unset f.unused

abbrev taken_on_root : EightBits → Bool
taken_on_root f = taken f && not (there f.sibling)

-- A bit that stands alone is cleared, and no other.
abbrev clear : BitPair → BitPair
clear neither = neither
clear allocated = neither
clear initialised = initialised
clear both = both

abbrev clear_all : EightBits → EightBits
clear_all f =
    record { number = clear f.number; child = clear f.child; sibling = clear f.sibling; unused = f.unused }

-- All of them, in the order of the bytes
abbrev each : {A : Type 0} → (BitPair → List A) → List A
each f = f neither ++ f allocated ++ f initialised ++ f both

abbrev all_flags : List EightBits
all_flags =
    each (λ u. each (λ s. each (λ c. each (λ n. record { number = n; child = c; sibling = s; unused = u } ∷ []))))

abbrev up_to : ℕ → List ℕ
up_to zero = []
up_to (suc n) = up_to n ++ (n ∷ [])

abbrev tested : Told → Bool → Tested
tested x true = sound
tested x false = broken x

abbrev bit : Bool → ℕ
bit true = 1
bit false = 0

pub record FlagsAsMeant (x : Told) (level : ℕ) : Type 0 where
  pub bytes : map byte_of all_flags ≡ up_to 256
  pub on-root : map (λ f. judge (flag_rules (byte_of f) 0 x)) all_flags ≡ map (λ f. tested x (taken_on_root f)) all_flags
  pub elsewhere :
      map (λ f. judge (flag_rules (byte_of f) (suc level) x)) all_flags ≡ map (λ f. tested x (taken f)) all_flags
  pub number : map (λ f. has_number (byte_of f)) all_flags ≡ map (λ f. bit (there f.number)) all_flags
  pub child : map (λ f. has_child (byte_of f)) all_flags ≡ map (λ f. bit (there f.child)) all_flags
  pub sibling : map (λ f. has_sibling (byte_of f)) all_flags ≡ map (λ f. bit (there f.sibling)) all_flags
  pub cleared : map (λ f. cleared_flag (byte_of f)) all_flags ≡ map (λ f. byte_of (clear_all f)) all_flags

pub flag_table : (x : Told) (level : ℕ) → FlagsAsMeant x level
unfolding judge below cleared_flag lone
flag_table x level =
    record {
      bytes = refl;
      on-root = refl;
      elsewhere = refl;
      number = refl;
      child = refl;
      sibling = refl;
      cleared = refl;
    }
