-- `insert::chain` ends: what is left of the label gets shorter.
use Rattle.std.proofs.Common.{length}
use Rattle.insert.proofs.+chain.Given as goal

abbrev pub decreases-chain : goal.decreases-chain
decreases-chain l = length l.rest.now
