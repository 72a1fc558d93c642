use Rattle.flow.proofs.Divided.{dividing_is_split}
use Rattle.flow.proofs.agreement.dividing_is_split.Goals as goal

pub returns : goal.returns
returns c = dividing_is_split
