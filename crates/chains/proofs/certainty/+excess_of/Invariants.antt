use Rattle.std.proofs.Common.{length}
use Rattle.chains.proofs.certainty.+excess_of.Given as goal

abbrev pub decreases-excess_of : goal.decreases-excess_of
decreases-excess_of l = length l.chain.now
