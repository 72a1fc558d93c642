use Rattle.flow.proofs.SplitExcess.{split_puts_excess}
use Rattle.flow.proofs.agreement.split_puts_excess.Goals as goal

pub returns : goal.returns
returns c = split_puts_excess
