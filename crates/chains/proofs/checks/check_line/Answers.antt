use Rattle.book.specs.Lines.{lines}
use Rattle.book.specs.Outcome.{stopped}
use Rattle.book.specs.Tally.{line_stops}
use Rattle.chains.proofs.Stops.{placed_refusal}
use Rattle.chains.specs.Stops.{gap_stops}
use Rattle.chains.proofs.checks.check_line.Goals as goal

pub returns-in-Err : goal.returns-in-Err
returns-in-Err c = record {
  stop = λ o. placed_refusal c.args.place (line_stops (lines c.args.book.now) c.args.line) c.in-Err.fault c.in-Err.ensures.stop (stopped (gap_stops (lines c.args.book.now) c.args.place c.args.before c.args.line) o);
  entered = tt;
}
