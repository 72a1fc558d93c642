use Rattle.flow.proofs.Certainty.{certain_iff_excess}
use Rattle.flow.proofs.agreement.certain_iff_excess.Goals as goal

pub returns : goal.returns
returns c = certain_iff_excess
