-- `probe::gets` meets its contract: each lookup is that of `get`. Assumes nothing.
use Rattle.search.specs.Post.{GetAllows}
use Rattle.probe.proofs.gets.Given as goal

abbrev pub invariant-loop : goal.invariant-loop
invariant-loop l = GetAllows l.tested l.last l.pool
