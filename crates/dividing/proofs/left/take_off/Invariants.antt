use Rattle.flow.specs.Dividing.{off}
use Rattle.dividing.proofs.Amounts.{ToTake}
use Rattle.dividing.proofs.left.take_off.Given as goal

abbrev pub invariant-loop-line : goal.invariant-loop-line
invariant-loop-line l = ToTake l.tonnes l.row l.line-index l.left (off l.initial.left l.tonnes l.row)
