-- What an exported call returns and leaves, from the contract of the call that it hands on. Assumes nothing.
use mathlib.Core.Path.{◌≡◌, refl, ap}
use mathlib.Core.List.{List, [], ◌∷◌}
use mathlib.Core.Option.{Option}
use Prim.Native.Nat.{ℕ, suc}
use native.Mathlib.Omega.{arith}
use lib.ListN.{length, get_or}
use Rattle.tree.specs.Tree.{Tree}
use Rattle.tree.specs.Told.{Told}
use Rattle.tree.specs.Calls.{Outcome, refuses, leaves, SplitOutcome, refuses_both, leaves_both}
use Rattle.pool.specs.Lent.{Lent}
use Rattle.pool.specs.Post.{Does}
use Rattle.split.specs.Post.{DoesBoth}
use Rattle.writer.specs.Post.{Writes}
use Rattle.host.specs.Host.{given, GivesTwo, Storing, over, over_last, over_flagged, HoldTwo, HoldThree}
use Rattle.host.specs.Host.{Returns, Changes, Splits, Written}

over_none : (vs : List ℕ) → [] ≡ over vs []
unfolding over
over_none [] = refl
over_none (v ∷ vs) = refl

over_one : (vs : List ℕ) (a : ℕ) → (get_or vs 0 a ∷ []) ≡ over vs (a ∷ [])
unfolding over
over_one [] a = refl
over_one (v ∷ vs) a = ap (λ (l : List ℕ). v ∷ l) (over_none vs)

over_two : (vs : List ℕ) (a b : ℕ) → (get_or vs 0 a ∷ get_or vs 1 b ∷ []) ≡ over vs (a ∷ b ∷ [])
unfolding over
over_two [] a b = refl
over_two (v ∷ vs) a b = ap (λ (l : List ℕ). v ∷ l) (over_one vs b)

-- The number, and each result by itself, of an answer that tells so
pub returns-none : (told : Told) {r : ℕ} → r ≡ told.number → Returns over told r [] []
returns-none told e = record { number = e; values = over_none told.values }

pub returns_one : (told : Told) {r a a' : ℕ} → r ≡ told.number → a' ≡ given told 0 a
    → Returns over told r (a ∷ []) (a' ∷ [])
returns_one told {r} {a} e f = record { number = e; values = rw f (over_one told.values a) }

pub returns_two : (told : Told) {r a b a' b' : ℕ} → r ≡ told.number → GivesTwo told a b a' b'
    → Returns over told r (a ∷ b ∷ []) (a' ∷ b' ∷ [])
returns_two told {r} {a} {b} e g = record { number = e; values = rw (g.first, g.second) (over_two told.values a b) }

-- The same of a search. There are as many results as there were.
pub last-length : (vs rs : List ℕ) → length (over_last vs rs) ≡ length rs
last-length [] rs = refl
last-length (v ∷ vs) [] = refl
last-length (v ∷ []) (r ∷ []) = refl
last-length (v ∷ []) (r ∷ s ∷ rs) = ap suc (last-length (v ∷ []) (s ∷ rs))
last-length (v ∷ w ∷ vs) (r ∷ rs) = ap suc (last-length (w ∷ vs) rs)

pub flagged_length : (vs rs : List ℕ) → length (over_flagged vs rs) ≡ length rs
flagged_length [] rs = refl
flagged_length (v ∷ vs) rs = last-length (length vs ∷ v ∷ vs) rs

two_are : (xs : List ℕ) {a b : ℕ} → length xs ≡ 2 → HoldTwo xs a b → (a ∷ b ∷ []) ≡ xs
two_are [] n h = absurd (omega arith)
two_are (x ∷ []) n h = absurd (omega arith)
two_are (x ∷ y ∷ []) n h = cc (h.first, h.second)
two_are (x ∷ y ∷ z ∷ xs) n h = absurd (omega arith)

three_are : (xs : List ℕ) {a b c : ℕ} → length xs ≡ 3 → HoldThree xs a b c → (a ∷ b ∷ c ∷ []) ≡ xs
three_are [] n h = absurd (omega arith)
three_are (x ∷ xs) n h =
    let rest = two_are xs (omega arith) (record { first = h.second; second = h.third }) in
    cc h.first

module _ {store : Storing} (kept : (vs rs : List ℕ) → length (store vs rs) ≡ length rs) (told : Told) {r : ℕ}
    (e : r ≡ told.number) where
  pub held_two : {a b a' b' : ℕ} → HoldTwo (store told.values (a ∷ b ∷ [])) a' b'
      → Returns store told r (a ∷ b ∷ []) (a' ∷ b' ∷ [])
  held_two h = record { number = e; values = two_are _ (kept _ _) h }

  pub held_three : {a b c a' b' c' : ℕ} → HoldThree (store told.values (a ∷ b ∷ c ∷ [])) a' b' c'
      → Returns store told r (a ∷ b ∷ c ∷ []) (a' ∷ b' ∷ c' ∷ [])
  held_three h = record { number = e; values = three_are _ (kept _ _) h }

-- What the call tells is what its definition says.
pub returned : {store : Storing} {told x : Told} {r : ℕ} {rs rs' : List ℕ} → told ≡ x
    → Returns store told r rs rs' → Returns store x r rs rs'
returned e h = rw e at h

pub changes : {store : Storing} {r : ℕ} {rs rs' : List ℕ} {was is : Lent} {told : Told} (o : Outcome)
    → Does o told was is → Returns store told r rs rs' → Changes store o r rs rs' was is
changes (refuses x) m h =
    record { returns = returned m.said h; left = record { said = refl; words = m.words; labels = m.labels } }
changes (leaves vs t) m h =
    record { returns = returned m.said h; left = record { said = refl; tree = m.tree; slots = m.slots } }

pub splits : {told : Told} {r : ℕ} {was was₂ is is₂ : Lent} (o : SplitOutcome) → DoesBoth o told was was₂ is is₂
    → Returns over told r [] [] → Splits o r was was₂ is is₂
splits (refuses_both x) m h =
    record {
      returns = returned m.said h;
      left = record { said = refl; words = m.words; labels = m.labels; words₂ = m.words₂; labels₂ = m.labels₂ };
    }
splits (leaves_both d u) m h =
    record {
      returns = returned m.said h;
      left = record { said = refl; tree = m.tree; tree₂ = m.tree₂; slots = m.slots; slots₂ = m.slots₂ };
    }

pub written : {o : Option Tree} {told : Told} {r : ℕ} {rs rs' tree numbers tree' numbers' : List ℕ}
    → Writes o told tree numbers tree' numbers'
    → Returns over told r rs rs' → Written o r rs rs' tree numbers tree' numbers'
written w h = record { returns = returned w.said h; left = record { said = refl; bytes = rw w.said at w.bytes; nums = rw w.said at w.nums } }
