use Rattle.std.proofs.Common.{◌≡◌, drop, None}
use Rattle.book.specs.Lines.{lines}
use Rattle.book.specs.Outcome.{Outcome, stopped}
use Rattle.chains.specs.Stops.{lines_stops}
use Rattle.chains.proofs.checks.check_lines.Given as goal

abbrev pub invariant-loop-place : goal.invariant-loop-place
invariant-loop-place l = (o : Outcome) → stopped (lines_stops (lines l.book) l.place l.before (drop l.place l.chain)) o ≡ stopped (lines_stops (lines l.book) 0 None l.chain) o
