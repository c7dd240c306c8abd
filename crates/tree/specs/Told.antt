-- What a call tells: document 01's number, and what is returned besides; and what each answer of the code tells.
use Rattle.std.specs.Prelude.{◌≡◌, List, [], ◌∷◌, ℕ, ◌≤◌, length, Option, Some, None, Result, Ok, Err, ⊤}
use Rattle.tree.specs.Key.{key_max}
use Rattle.tree.specs.declared.Got.{Got}
use Rattle.tree.specs.declared.Inserted.{Inserted}
use Rattle.tree.specs.declared.Prefixed.{Prefixed}
use Rattle.tree.specs.declared.Sharing.{Sharing}
use Rattle.tree.specs.declared.Stepped.{Stepped}
use Rattle.tree.specs.declared.Counted.{Counted}
use Rattle.tree.specs.declared.Written.{Written}
use Rattle.tree.specs.declared.RuleNo.{RuleNo}
use Rattle.tree.specs.declared.Refusal.{Refusal}

pub record Told : Type 0 where
  pub number : ℕ
  pub values : List ℕ

-- 0, with the call's answer
abbrev pub done : List ℕ → Told
done vs = record { number = 0; values = vs }

-- a refusal that stands alone
abbrev pub refusal : ℕ → Told
refusal n = record { number = n; values = [] }

-- a refusal with one value besides: an offset, a length, or a count
abbrev pub refusal_at : ℕ → ℕ → Told
refusal_at n at = record { number = n; values = at ∷ [] }

-- How many nodes a search looked at is the last value, with 0 and with 3.
abbrev pub refusal_told : Refusal → Told
refusal_told Refusal.NotPool = refusal 1
refusal_told Refusal.TooLong = refusal 2
refusal_told (Refusal.NotFound n) = refusal_at 3 n.0
refusal_told Refusal.NoKey = refusal 3
refusal_told Refusal.NoRoom = refusal 4
refusal_told (Refusal.KeyShort n) = refusal_at 5 n
refusal_told (Refusal.ImageShort w) = record { number = 5; values = w.bytes ∷ w.numbers ∷ [] }
refusal_told (Refusal.CutShort at) = refusal_at 6 at
refusal_told (Refusal.FlagByte at) = refusal_at 7 at
refusal_told (Refusal.WrongLevel at) = refusal_at 8 at
refusal_told (Refusal.LabelLength at) = refusal_at 9 at
refusal_told (Refusal.SiblingOrder at) = refusal_at 10 at
refusal_told (Refusal.IdleNode at) = refusal_at 11 at
refusal_told (Refusal.NumberCount at) = refusal_at 12 at
refusal_told (Refusal.BytesLeft at) = refusal_at 13 at

-- An answer of the code: what is given, or a refusal
abbrev pub Answer : Type 0 → Type 0
Answer A = Result A Refusal

-- Where the call is done, these values are told of what it gives.
abbrev pub answer_told : {A : Type 0} → (A → List ℕ) → Answer A → Told
answer_told values (Ok x) = done (values x)
answer_told values (Err e) = refusal_told e

abbrev pub number_of : {A : Type 0} → Answer A → ℕ
number_of (Ok x) = 0
number_of (Err e) = (refusal_told e).number

-- of make, clear, split and read: nothing besides 0
abbrev pub bare_told : Answer ⊤ → Told
bare_told = answer_told (λ _. [])

abbrev pub got_told : Answer Got → Told
got_told = answer_told (λ (x : Got). x.number.0 ∷ x.looked.0 ∷ [])

-- an insert tells the old number before the count, if there was one
abbrev pub old_before : Option RuleNo → List ℕ → List ℕ
old_before None vs = vs
old_before (Some v) vs = v.0 ∷ vs

abbrev pub inserted_told : Answer Inserted → Told
inserted_told = answer_told (λ (x : Inserted). old_before x.old (x.looked.0 ∷ []))

abbrev pub prefixed_told : Answer Prefixed → Told
prefixed_told = answer_told (λ (x : Prefixed). x.length ∷ x.number.0 ∷ x.looked.0 ∷ [])

abbrev pub sharing_told : Answer Sharing → Told
sharing_told = answer_told (λ (x : Sharing). x.length ∷ x.looked.0 ∷ [])

abbrev pub stepped_told : Answer Stepped → Told
stepped_told = answer_told (λ (x : Stepped). x.length ∷ x.number.0 ∷ [])

abbrev pub counted_told : Answer Counted → Told
counted_told = answer_told (λ (x : Counted). x.keys ∷ x.nodes ∷ [])

abbrev pub written_told : Answer Written → Told
written_told = answer_told (λ (x : Written). x.bytes ∷ x.numbers ∷ [])

-- A test that gives this refusal exactly where P does not hold
abbrev pub Unless : Refusal → Type 0 → Answer ⊤ → Type 0
Unless e P (Ok x) = P
Unless e P (Err f) = (f ≡ e) × ¬ P

-- A key is made of all its bytes, and a run that is too long is refused.
abbrev pub KeyOf : List ℕ → Answer (List ℕ) → Type 0
KeyOf bs (Ok k) = (k ≡ bs) × (length bs ≤ key_max)
KeyOf bs (Err e) = (e ≡ Refusal.TooLong) × ¬ (length bs ≤ key_max)
