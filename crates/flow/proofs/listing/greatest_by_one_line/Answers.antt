use Rattle.flow.proofs.Listed.{greatest_by_one_line}
use Rattle.flow.proofs.listing.greatest_by_one_line.Goals as goal

pub returns : goal.returns
returns c = greatest_by_one_line
