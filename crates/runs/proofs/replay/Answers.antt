use Rattle.std.proofs.Common.{[]}
use Rattle.std.proofs.lemmas.Result.{IfOk-weaker}
use Rattle.book.specs.Runs.{Tallied}
use Rattle.book.specs.Tally.{tally}
use Rattle.runs.specs.Promise.{KeptPromise}
use Rattle.runs.proofs.Kept.{promise_kept}
use Rattle.runs.proofs.replay.Goals as goal

pub returns : goal.returns
returns c =
    let calls = c.args.calls.now in
    IfOk-weaker c.replay.result (Tallied calls) (λ run. Tallied calls run × KeptPromise (tally [] calls)) (λ run told. (told, promise_kept (tally [] calls) told.well_formed)) c.replay.ensures
