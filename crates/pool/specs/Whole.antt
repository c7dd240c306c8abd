-- A tested pool: the two lent slices, of which the rule holds; any others are refused.
use Rattle.std.specs.Prelude.{◌≡◌, Ok, Err}
use Rattle.tree.specs.Key.{Bytes}
use Rattle.tree.specs.Told.{Answer}
use Rattle.tree.specs.declared.Refusal.{Refusal}
use Rattle.pool.specs.Rule.{PoolRule}
use Rattle.pool.specs.Lent.{Lent}

pub record Whole (l : Lent) : Type 0 where
  pub rule : PoolRule l.words l.labels
  pub bytes : Bytes l.labels

abbrev pub PoolOf : Lent → Answer Lent → Type 0
PoolOf l (Ok p) = (p ≡ l) × Whole l
PoolOf l (Err e) = (e ≡ Refusal.NotPool) × ¬ PoolRule l.words l.labels
