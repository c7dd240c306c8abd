-- Spans while a splice is under way: which slots belong to a slot, and whose spans are still to grow.
use Rattle.std.specs.Prelude.{◌≡◌, List, ℕ, ◌+◌, ◌≤◌, ◌<◌, length, get_or}
use Rattle.slots.specs.Layout.{field_at, span_field, start_of, len_of, span_of}

-- Of n slots those behind j and before e belong to slot j: they start at the end of its label or deeper, and slot e does not.
pub record Covers (ws : List ℕ) (n j e : ℕ) : Type 0 where
  pub low : j < e
  pub high : e ≤ n
  pub inside : (i : ℕ) → j < i → i < e → start_of ws j + len_of ws j ≤ start_of ws i
  pub stop : e < n → start_of ws e < start_of ws j + len_of ws j

-- A slot before slot `at`, where k slots are new: its span is right and ends there or before, or slot `at` belongs to it and
-- the span is short of the k slots.
pub data Due (ws : List ℕ) (n at k j : ℕ) : Type 0 where
  right : Covers ws n j (j + span_of ws j) → j + span_of ws j ≤ at → Due ws n at k j
  short : Covers ws n j (j + span_of ws j + k) → at ≤ j + span_of ws j → Due ws n at k j

-- The spans are right below slot c and from slot `at` on; between them they may be short.
pub record Loose (ws : List ℕ) (n at k c : ℕ) : Type 0 where
  pub order : c ≤ at
  pub used : at < n
  pub some : 1 ≤ k
  pub low : (j : ℕ) → j < c → Covers ws n j (j + span_of ws j)
  pub due : (j : ℕ) → c ≤ j → j < at → Due ws n at k j
  pub high : (j : ℕ) → at ≤ j → j < n → Covers ws n j (j + span_of ws j)

-- A slot further the spans are right, and nothing but spans has changed.
pub record Raised (ws vs : List ℕ) (n at k c r : ℕ) : Type 0 where
  pub len : length vs ≡ length ws
  pub rest : (j : ℕ) → ((i : ℕ) → j ≡ field_at i span_field → ⊥) → get_or vs j 0 ≡ get_or ws j 0
  pub on : c < r
  pub loose : Loose vs n at k r
