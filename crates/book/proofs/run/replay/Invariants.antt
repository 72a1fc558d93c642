use Rattle.std.proofs.Common.{map, vec_items}
use Rattle.book.specs.Faults.{told}
use Rattle.book.specs.Lines.{lines}
use Rattle.book.proofs.Runs.{Half}
use Rattle.book.proofs.run.replay.Given as goal

abbrev pub invariant-loop-call : goal.invariant-loop-call
invariant-loop-call l = Half l.calls l.call-index (lines l.book) (map told (vec_items l.answers))
