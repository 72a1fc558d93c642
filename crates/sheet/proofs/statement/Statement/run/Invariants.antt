use Rattle.std.proofs.Common.{vec_items}
use Rattle.sheet.proofs.Runs.{Running}
use Rattle.sheet.specs.Stepping.{state}
use Rattle.sheet.proofs.statement.Statement.run.Given as goal

abbrev pub invariant-loop : goal.invariant-loop
invariant-loop l = Running (state l.initial.self) (vec_items l.initial.out) l.counter (state l.self) (vec_items l.out)
