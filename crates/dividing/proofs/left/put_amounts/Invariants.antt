use Rattle.book.specs.Lines.{lines}
use Rattle.dividing.proofs.Amounts.{AmountsTo}
use Rattle.dividing.proofs.left.put_amounts.Given as goal

abbrev pub invariant-loop-n : goal.invariant-loop-n
invariant-loop-n l = AmountsTo (lines l.book) l.n l.left
