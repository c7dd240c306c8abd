-- `tidy::tidy` meets its contract. Assumes nothing.
use native.Mathlib.Omega.{arith}
use Rattle.tidy.specs.Climb.{Climbing, Stage}
use Rattle.tidy.proofs.Stage.{origin, Bounds, climbed_bounds, tidied}
use Rattle.tidy.proofs.tidy.Goals as goal
use Rattle.tidy.proofs.tidy.Goals.{After-climb}

-- the stage behind the way up
climbed : (c : goal.After-climb)
    → let a = c.args in
    let left = c.climb.new in
    (x : Climbing a.words.now a.labels.now a.from.0)
    → Stage x.words x.labels x.whole x.final left.words left.labels 0
climbed c = c.climb.ensures

bounds : (c : goal.After-climb) → Bounds c.climb.new.words c.climb.new.labels
bounds c = let x = c.requires in climbed_bounds (origin x) (climbed c x)

pub close_gaps-left-requires : goal.close_gaps-left-requires
close_gaps-left-requires c = omega (arith, bounds (goal.at.close_gaps-left-requires c).After-climb)

pub settle-requires : goal.settle-requires
settle-requires c = omega (arith, bounds (goal.at.settle-requires c).After-climb)

pub returns : goal.returns
returns c = λ x. search (climbed, tidied)
