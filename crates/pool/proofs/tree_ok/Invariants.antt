-- `pool::tree_ok` meets its contract: the slots passed are right as nodes. Assumes nothing.
use Prim.Native.Nat.{ℕ, ◌≤◌, ◌<◌}
use Rattle.pool.specs.Rule.{NodeAt}
use Rattle.pool.proofs.tree_ok.Given as goal

abbrev pub invariant-loop-i : goal.invariant-loop-i
invariant-loop-i l = (l.i ≤ l.n) × ((k : ℕ) → k < l.i → NodeAt l.words l.labels l.n k)
