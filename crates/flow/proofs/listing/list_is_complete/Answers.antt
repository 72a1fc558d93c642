use Rattle.flow.proofs.Listed.{list_is_complete}
use Rattle.flow.proofs.listing.list_is_complete.Goals as goal

pub returns : goal.returns
returns c = list_is_complete
