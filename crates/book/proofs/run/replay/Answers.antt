use Rattle.std.proofs.Common.{[], arith}
use Rattle.book.proofs.Tallies.{tally_well_formed}
use Rattle.book.proofs.Runs.{half_all}
use Rattle.book.proofs.run.replay.Goals as goal

pub returns : goal.returns
returns c =
    let all = half_all _ _ _ _ c.loop-call-test.false c.loop-call.invariant in
    record {
      answers_told = all.0;
      lines_left = all.1;
      well_formed = tally_well_formed c.args.calls.now [] (omega arith, tt);
    }
