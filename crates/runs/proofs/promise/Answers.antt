use Rattle.std.proofs.Common.{[], arith}
use Rattle.book.specs.Logs.{calls_of}
use Rattle.book.specs.Tally.{tally}
use Rattle.book.proofs.Tallies.{tally_well_formed}
use Rattle.runs.proofs.Kept.{promise_kept}
use Rattle.runs.proofs.promise.Goals as goal

pub returns : goal.returns
returns c =
    let calls = calls_of c.args.log.now in
    promise_kept (tally [] calls) (tally_well_formed calls [] (omega arith, tt))
