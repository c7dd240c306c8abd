-- A key that forks off inside a label, as the code hands it on: what is asked of it, and what it leaves.
use Rattle.std.specs.Prelude.{◌≡◌, List, Bool, ℕ, ◌+◌, length}
use Rattle.pool.specs.Rule.{PoolRule}
use Rattle.slots.specs.Bare.{Bare}
use Rattle.insert.specs.Splices.{leaf_nodes, Grows, Forks, fork_bares, fork_side}
use Rattle.insert.specs.declared.Fork.{Fork}

abbrev pub ForkDue : (ws bs : List ℕ) → Fork → Type 0
ForkDue ws bs x =
    Grows ws bs x.n x.k × Forks ws x.at.0 x.m x.rest.now × (x.k ≡ 1 + leaf_nodes (length x.rest.now)) × PoolRule ws bs

abbrev pub fork_of : (ws bs : List ℕ) → Fork → (below : Bool) → List Bare
fork_of ws bs x below = fork_bares ws bs x.at.0 x.m x.rest.now x.number.0 below

abbrev pub side_of : (ws bs : List ℕ) → Fork → Bool
side_of ws bs x = fork_side ws bs x.at.0 x.m x.rest.now
