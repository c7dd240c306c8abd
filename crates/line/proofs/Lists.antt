-- A turn of the loop over a list of numbers: what the rest of the list gives, the whole gives behind the numbers passed, and
-- nothing else. Assumes nothing.
use mathlib.Core.Path.{◌≡◌, refl, sym, ap, ◌∙◌}
use mathlib.Core.List.{List, [], ◌∷◌, ◌++◌, append_assoc}
use Prim.Native.Nat.{ℕ, ◌+◌, ◌<◌, ◌≤◌}
use native.Mathlib.Numerals.{add-one}
use native.Mathlib.Omega.{arith}
use lib.ListN.{length, take, drop, set, length-set}
use lib.Seq.{take-suc-set, drop-drop}
use Rattle.line.specs.Spelling.{index_of}
use Rattle.line.specs.Spelling.{value, Number, NumberTaken, Listed, last, more, first_of}
use Rattle.std.specs.Prelude.{Some, None}

-- A list has a first number, and behind a comma there is a list.
first-number : {s ns : List ℕ} → Listed s ns → Number (first_of s)
first-number (last e n) = n
first-number (more h n l) = n

some_number : {s ns : List ℕ} → Listed s ns → 0 < length ns
some_number (last e n) = omega arith
some_number (more h n l) = omega arith

record Tail (s ns : List ℕ) : Type 0 where
  pub ms : List ℕ
  pub eq : ns ≡ value (first_of s) (length (first_of s)) ∷ ms
  pub rest : Listed (drop (index_of 44 s + 1) s) ms

tail : {s ns : List ℕ} → index_of 44 s < length s → Listed s ns → Tail s ns
tail h (last e n) = absurd (omega arith)
tail h (more g n l) = record { ms = _; eq = refl; rest = l }

-- ns is what is done, and what d lists.
pub record Rest (d done ns : List ℕ) : Type 0 where
  pub ms : List ℕ
  pub eq : ns ≡ done ++ ms
  pub rest : Listed d ms

-- The first k numbers of s are out, and d is what stands behind them.
pub record Listing (s was out d : List ℕ) (k : ℕ) : Type 0 where
  pub len : length out ≡ length was
  pub room : k ≤ length out
  pub all : (ns : List ℕ) → Listed d ns → Listed s (take k out ++ ns)
  pub only : (ns : List ℕ) → Listed s ns → Rest d (take k out) ns

-- One number more at the end of those that are done
done_more : (out : List ℕ) (k v : ℕ) → k < length out → take (k + 1) (set out k v) ≡ take k out ++ (v ∷ [])
done_more out k v h = rw add-one (take-suc-set out k v h)

-- A word that is no number: there is no list.
pub listing_bad : {s was out d : List ℕ} {k : ℕ} → NumberTaken None (first_of d) → Listing s was out d k
    → (ns : List ℕ) → Listed s ns → length ns ≤ length out → ⊥
listing_bad t so ns l h = t (first-number (so.only ns l).rest)

-- The last word
pub listing_last : {s was out d : List ℕ} {k v : ℕ} → k < length out → index_of 44 d ≡ length d → NumberTaken (Some v) (first_of d) → Listing s was out d k
    → Listed s (take (k + 1) (set out k v))
listing_last {s} {was} {out} {d} {k} {v} h end n so = rw (done_more out k v h, n.1) (so.all _ (last end n.0))

-- A word with a comma behind it
pub listing_step : {s was out d : List ℕ} {k v : ℕ} → k < length out → index_of 44 d < length d → NumberTaken (Some v) (first_of d) → Listing s was out d k
    → Listing s was (set out k v) (drop (index_of 44 d + 1) d) (k + 1)
listing_step {s} {was} {out} {d} {k} {v} h inside n so =
    record {
      len = length-set out k v ∙ so.len;
      room = simp length-set (omega arith);
      all = λ ns l. rw (done_more out k v h, append_assoc, n.1) (so.all _ (more inside n.0 l));
      only = λ ns l.
          let r = so.only ns l in
          let t = tail inside r.rest in
          record {
            ms = t.ms;
            eq = rw (done_more out k v h, append_assoc, n.1) (r.eq ∙ ap (λ (z : List ℕ). take k out ++ z) t.eq);
            rest = t.rest;
          };
    }

-- What stands behind the comma
pub behind_comma : (d : List ℕ) {back m : List ℕ} {e x : ℕ} → e ≡ index_of 44 d → back ≡ drop e d → back ≡ x ∷ m → m ≡ drop (index_of 44 d + 1) d
behind_comma d {back} {m} {e} {x} is cut h = rw (← is) (sym (sym (drop-drop 1 e d) ∙ ap (drop 1) (sym cut ∙ h)))
