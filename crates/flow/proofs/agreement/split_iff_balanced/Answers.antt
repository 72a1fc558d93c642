use Rattle.flow.proofs.Divided.{split_from_balanced}
use Rattle.flow.proofs.SplitTotals.{balanced_from_split}
use Rattle.flow.proofs.agreement.split_iff_balanced.Goals as goal

pub returns : goal.returns
returns c t well = (split_from_balanced t well, balanced_from_split t well)
