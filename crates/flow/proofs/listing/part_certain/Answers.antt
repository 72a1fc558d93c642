use Rattle.flow.proofs.Parts.{part_certain}
use Rattle.flow.proofs.listing.part_certain.Goals as goal

pub returns : goal.returns
returns c = part_certain
