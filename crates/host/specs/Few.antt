-- How many values a refusal tells at most: those that are stored have a place then.
use Rattle.std.specs.Prelude.{ℕ, ◌≤◌, length, Ok, Err, ⊤}
use Rattle.tree.specs.Told.{Answer, refusal_told}

abbrev pub Few : ℕ → {A : Type 0} → Answer A → Type 0
Few n (Ok x) = ⊤
Few n (Err e) = length (refusal_told e).values ≤ n
