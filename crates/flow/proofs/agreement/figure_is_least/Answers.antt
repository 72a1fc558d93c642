use Rattle.flow.proofs.Certainty.{figure_is_least}
use Rattle.flow.proofs.agreement.figure_is_least.Goals as goal

pub returns : goal.returns
returns c = figure_is_least
