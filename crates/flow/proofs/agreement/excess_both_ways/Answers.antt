use Rattle.flow.proofs.ExcessForms.{excess_both_ways}
use Rattle.flow.proofs.agreement.excess_both_ways.Goals as goal

pub returns : goal.returns
returns c = excess_both_ways
