use Rattle.book.specs.Lines.{lines}
use Rattle.book.specs.Logs.{calls_of}
use Rattle.book.proofs.Logs.{Half}
use Rattle.book.proofs.run.replay_log.Given as goal

abbrev pub invariant-loop-entry : goal.invariant-loop-entry
invariant-loop-entry l = Half (calls_of l.initial.log) l.entry-index (lines l.book) l.log
