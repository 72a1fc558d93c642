use Rattle.std.proofs.Common.{[], arith}
use Rattle.book.specs.Logs.{calls_of}
use Rattle.book.proofs.Tallies.{tally_well_formed}
use Rattle.book.proofs.Logs.{half_more, half_all}
use Rattle.book.proofs.run.replay_log.Goals as goal

pub loop-entry-preserved : goal.loop-entry-preserved
loop-entry-preserved c = half_more _ _ _ _ _ _ _ (omega arith) c.loop-entry.invariant c.enter.ensures.answer c.enter.ensures.lines

pub returns : goal.returns
returns c =
    let all = half_all _ _ _ _ (omega arith) c.loop-entry.invariant in
    record {
      calls_kept = c.loop-entry.invariant.calls_so;
      answers_told = all.0;
      lines_left = all.1;
      well_formed = tally_well_formed (calls_of c.args.log.now) [] (omega arith, tt);
    }
