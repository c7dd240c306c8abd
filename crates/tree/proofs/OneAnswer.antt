-- What is told is one answer of the code: each answer can be had back from its number and values. Assumes nothing.
use mathlib.Core.Path.{◌≡◌, refl, sym, ap, ◌∙◌}
use mathlib.Core.List.{List, [], ◌∷◌}
use Prim.Native.Nat.{ℕ}
use lib.ListN.{get_or}
use Rattle.std.specs.Prelude.{Option, Some, None, Ok, Err, ⊤}
use Rattle.tree.specs.Told.{Told, refusal_told, Answer, answer_told, number_of, bare_told, got_told, old_before, inserted_told, prefixed_told, sharing_told, stepped_told, counted_told, written_told}
use Rattle.tree.specs.declared.RuleNo.{RuleNo}
use Rattle.tree.specs.declared.Looked.{Looked}
use Rattle.tree.specs.declared.Refusal.{Refusal}
use Rattle.tree.specs.declared.Got.{Got}
use Rattle.tree.specs.declared.Inserted.{Inserted}
use Rattle.tree.specs.declared.Prefixed.{Prefixed}
use Rattle.tree.specs.declared.Sharing.{Sharing}
use Rattle.tree.specs.declared.Stepped.{Stepped}
use Rattle.tree.specs.declared.Counted.{Counted}
use Rattle.tree.specs.declared.Written.{Written}

-- Values that can be had back from what they tell
retract : {A B : Type 0} (told : A → B) (back : B → A) → ((a : A) → back (told a) ≡ a) → (a b : A) → told a ≡ told b → a ≡ b
retract told back h a b e = sym (h a) ∙ ap back e ∙ h b

abbrev at_first : List ℕ → ℕ
at_first vs = get_or vs 0 0

abbrev rule : ℕ → RuleNo
rule v = record { 0 = v }

abbrev count : ℕ → Looked
count n = record { 0 = n }

-- The refusals by their numbers, each from the values told with it; a number that none has gives a last one.
found : List ℕ → Refusal
found [] = Refusal.NoKey
found (n ∷ vs) = Refusal.NotFound (count n)

short : List ℕ → Refusal
short [] = Refusal.NotPool
short (n ∷ []) = Refusal.KeyShort n
short (b ∷ n ∷ vs) = Refusal.ImageShort (record { bytes = b; numbers = n })

refusals : List (List ℕ → Refusal)
refusals =
    (λ vs. Refusal.NotPool)
    ∷ (λ vs. Refusal.NotPool)
    ∷ (λ vs. Refusal.TooLong)
    ∷ found
    ∷ (λ vs. Refusal.NoRoom)
    ∷ short
    ∷ (λ vs. Refusal.CutShort (at_first vs))
    ∷ (λ vs. Refusal.FlagByte (at_first vs))
    ∷ (λ vs. Refusal.WrongLevel (at_first vs))
    ∷ (λ vs. Refusal.LabelLength (at_first vs))
    ∷ (λ vs. Refusal.SiblingOrder (at_first vs))
    ∷ (λ vs. Refusal.IdleNode (at_first vs))
    ∷ (λ vs. Refusal.NumberCount (at_first vs))
    ∷ (λ vs. Refusal.BytesLeft (at_first vs))
    ∷ []

by : Told → Refusal
by t = get_or refusals t.number (λ vs. Refusal.NotPool) t.values

pub refusal_one : (a b : Refusal) → refusal_told a ≡ refusal_told b → a ≡ b
unfolding by refusals found short
refusal_one = retract refusal_told by back
  where
    back : (a : Refusal) → by (refusal_told a) ≡ a
    back Refusal.NotPool = refl
    back Refusal.TooLong = refl
    back (Refusal.NotFound n) = refl
    back Refusal.NoKey = refl
    back Refusal.NoRoom = refl
    back (Refusal.KeyShort n) = refl
    back (Refusal.ImageShort w) = refl
    back (Refusal.CutShort at) = refl
    back (Refusal.FlagByte at) = refl
    back (Refusal.WrongLevel at) = refl
    back (Refusal.LabelLength at) = refl
    back (Refusal.SiblingOrder at) = refl
    back (Refusal.IdleNode at) = refl
    back (Refusal.NumberCount at) = refl
    back (Refusal.BytesLeft at) = refl

-- No refusal tells 0.
pub refusal_positive : (a : Refusal) → ¬ ((refusal_told a).number ≡ 0)
refusal_positive Refusal.NotPool e = absurd (cc)
refusal_positive Refusal.TooLong e = absurd (cc)
refusal_positive (Refusal.NotFound n) e = absurd (cc)
refusal_positive Refusal.NoKey e = absurd (cc)
refusal_positive Refusal.NoRoom e = absurd (cc)
refusal_positive (Refusal.KeyShort n) e = absurd (cc)
refusal_positive (Refusal.ImageShort w) e = absurd (cc)
refusal_positive (Refusal.CutShort at) e = absurd (cc)
refusal_positive (Refusal.FlagByte at) e = absurd (cc)
refusal_positive (Refusal.WrongLevel at) e = absurd (cc)
refusal_positive (Refusal.LabelLength at) e = absurd (cc)
refusal_positive (Refusal.SiblingOrder at) e = absurd (cc)
refusal_positive (Refusal.IdleNode at) e = absurd (cc)
refusal_positive (Refusal.NumberCount at) e = absurd (cc)
refusal_positive (Refusal.BytesLeft at) e = absurd (cc)

-- An answer is one where what is given can be had back from its values.
pub answer_one : {A : Type 0} (values : A → List ℕ) (back : List ℕ → A) → ((a : A) → back (values a) ≡ a)
    → (a b : Answer A) → answer_told values a ≡ answer_told values b → a ≡ b
answer_one values back h (Ok x) (Ok y) e = ap Ok (retract values back h x y (ap (λ (z : Told). z.values) e))
answer_one values back h (Ok x) (Err y) e = absurd (refusal_positive y (sym (ap (λ (z : Told). z.number) e)))
answer_one values back h (Err x) (Ok y) e = absurd (refusal_positive x (ap (λ (z : Told). z.number) e))
answer_one values back h (Err x) (Err y) e = ap Err (refusal_one x y e)

pub bare_one : (a b : Answer ⊤) → bare_told a ≡ bare_told b → a ≡ b
bare_one = answer_one _ (λ vs. tt) (λ a. refl)

pub got_one : (a b : Answer Got) → got_told a ≡ got_told b → a ≡ b
got_one = answer_one _ (λ vs. record { number = rule (get_or vs 0 0); looked = count (get_or vs 1 0) }) (λ a. refl)

old_of : List ℕ → Inserted
old_of [] = record { old = None; looked = count 0 }
old_of (n ∷ []) = record { old = None; looked = count n }
old_of (v ∷ n ∷ vs) = record { old = Some (rule v); looked = count n }

pub inserted_one : (a b : Answer Inserted) → inserted_told a ≡ inserted_told b → a ≡ b
unfolding old_of
inserted_one = answer_one _ old_of (λ a. back a.old a.looked)
  where
    back : (o : Option RuleNo) (n : Looked) → old_of (old_before o (n.0 ∷ [])) ≡ record { old = o; looked = n }
    back None n = refl
    back (Some v) n = refl

pub prefixed_one : (a b : Answer Prefixed) → prefixed_told a ≡ prefixed_told b → a ≡ b
prefixed_one = answer_one _ (λ vs. record { length = get_or vs 0 0; number = rule (get_or vs 1 0); looked = count (get_or vs 2 0) }) (λ a. refl)

pub sharing_one : (a b : Answer Sharing) → sharing_told a ≡ sharing_told b → a ≡ b
sharing_one = answer_one _ (λ vs. record { length = get_or vs 0 0; looked = count (get_or vs 1 0) }) (λ a. refl)

pub stepped_one : (a b : Answer Stepped) → stepped_told a ≡ stepped_told b → a ≡ b
stepped_one = answer_one _ (λ vs. record { length = get_or vs 0 0; number = rule (get_or vs 1 0) }) (λ a. refl)

pub counted_one : (a b : Answer Counted) → counted_told a ≡ counted_told b → a ≡ b
counted_one = answer_one _ (λ vs. record { keys = get_or vs 0 0; nodes = get_or vs 1 0 }) (λ a. refl)

pub written_one : (a b : Answer Written) → written_told a ≡ written_told b → a ≡ b
written_one = answer_one _ (λ vs. record { bytes = get_or vs 0 0; numbers = get_or vs 1 0 }) (λ a. refl)

-- The number of an answer is the one told, whatever values are told besides.
pub number_of_told : {A : Type 0} (values : A → List ℕ) (a : Answer A) → number_of a ≡ (answer_told values a).number
number_of_told values (Ok x) = refl
number_of_told values (Err e) = refl
