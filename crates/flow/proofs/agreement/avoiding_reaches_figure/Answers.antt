use Rattle.flow.proofs.Avoiding.{avoiding_reaches_figure}
use Rattle.flow.proofs.agreement.avoiding_reaches_figure.Goals as goal

pub returns : goal.returns
returns c = avoiding_reaches_figure
