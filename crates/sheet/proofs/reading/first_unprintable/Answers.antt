use Rattle.std.proofs.Common.{not, rules, tests}
use Rattle.std.proofs.lemmas.Iterator.{YieldsList-from_slice}
use Rattle.std.proofs.lemmas.Iterator.Search.{position_from_yields_List}
use Rattle.sheet.specs.Commands.{printable}
use Rattle.sheet.proofs.Codec.{position-clean}
use Rattle.sheet.proofs.reading.first_unprintable.Goals as goal

pub returns : goal.returns
returns c =
    position-clean c.args.text.now _
    (position_from_yields_List (λ b. not (printable b)) _ _ c.position.result c.position.ensures.ran (YieldsList-from_slice c.args.text.now c.iter.ensures.rest) (λ x b q k. search (rules, tests)))
