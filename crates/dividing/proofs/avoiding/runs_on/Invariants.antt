use Rattle.std.proofs.Common.{◌≡◌, drop}
use Rattle.book.specs.Lines.{lines}
use Rattle.flow.specs.Chains.{runs}
use Rattle.dividing.proofs.avoiding.runs_on.Given as goal

abbrev pub invariant-loop-line : goal.invariant-loop-line
invariant-loop-line l = runs (lines l.book) l.account (drop l.line-index l.chain) ≡ runs (lines l.book) l.start l.chain
