-- The records of an image in which allocated bits may stand alone: they are those of the image cleared, but for their
-- flags, which say the same. Assumes nothing.
use mathlib.Core.Path.{◌≡◌, refl, sym, ap, ◌∙◌}
use mathlib.Core.List.{List, [], ◌∷◌, ◌++◌}
use Prim.Native.Nat.{ℕ}
use native.Mathlib.Omega.{arith}
use lib.ListN.{length, take, drop, take-append-drop}
use lib.Seq.{take_at, drop_at}
use Rattle.tree.specs.Cleared.{cleared_flag, cleared_from, cleared}
use Rattle.tree.proofs.Judge.{never}
use Rattle.tree.proofs.Bits.{flag_alike}
use Rattle.tree.proofs.Cleared.{cleared-length, label_kept, label-passed}
use Rattle.tree.proofs.ReaderParts.{headed}
use Rattle.reader.proofs.Items.{Item, image_of, numbers_of, bares_of, Due}

pub record Uncleared (s : List ℕ) (xs : List Item) : Type 0 where
  pub items : List Item
  pub image : s ≡ image_of items
  pub numbers : numbers_of items ≡ numbers_of xs
  pub bares : bares_of items ≡ bares_of xs
  pub due : (starts : List ℕ) → Due starts xs → Due starts items

-- The record that stands first, before it was cleared: its flags and what is behind them
record HeadWas (s : List ℕ) (g m level : ℕ) (label more : List ℕ) : Type 0 where
  flag : ℕ
  rest : List ℕ
  is : s ≡ headed flag m level (label ++ rest)
  flag_is : g ≡ cleared_flag flag
  rest-is : cleared rest ≡ more

head_of : (s : List ℕ) (g level : ℕ) (label more : List ℕ) → cleared s ≡ headed g (length label) level (label ++ more)
    → HeadWas s g (length label) level label more
unfolding cleared_from
head_of [] g level label more e = never (cc)
head_of (f ∷ []) g level label more e = never (cc)
head_of (f ∷ m ∷ []) g level label more e = never (cc)
head_of (f ∷ m ∷ h ∷ []) g level label more e = never (cc)
head_of (f ∷ m ∷ h ∷ l ∷ s) g level label more e =
    let long : length label ≡ m = cc in
    let behind : cleared_from m s ≡ label ++ more = cc in
    let same : take m s ≡ label =
    sym (label_kept m s) ∙ ap (λ (z : List ℕ). take m z) behind ∙ take_at label more m long in
    let parts : s ≡ label ++ drop m s = sym (take-append-drop m s) ∙ ap (λ (z : List ℕ). z ++ drop m s) same in
    record {
      flag = f;
      rest = drop m s;
      is = cc;
      flag_is = cc;
      rest-is = sym (label-passed m s) ∙ ap (λ (z : List ℕ). drop m z) behind ∙ drop_at label more m long;
    }

none : (s : List ℕ) → cleared s ≡ [] → s ≡ []
none [] e = refl
none (x ∷ s) e = absurd (omega (arith, cleared-length 0 (x ∷ s), ap length e))

pub uncleared : (s : List ℕ) (xs : List Item) → cleared s ≡ image_of xs → Uncleared s xs
unfolding image_of numbers_of bares_of
uncleared s [] e = record { items = []; image = none s e; numbers = refl; bares = refl; due = λ starts d. d }
uncleared s (x ∷ xs) e =
    let h = head_of s x.flag x.level x.label (image_of xs) e in
    let u = uncleared h.rest xs h.rest-is in
    let y : Item = record { level = x.level; path = x.path; flag = h.flag; label = x.label; num = x.num } in
    record {
      items = y ∷ u.items;
      image = cc (h.is, u.image);
      numbers = cc u.numbers;
      bares = cc u.bares;
      due = λ starts d.
          let own = d.0 in (
            record {
              here = own.here;
              shallow = own.shallow;
              short = own.short;
              deep = own.deep;
              number = sym (flag_alike h.flag x.flag h.flag_is).says_number ∙ own.number;
            },
            u.due _ d.1,
          );
    }
