use Rattle.book.specs.Lines.{lines}
use Rattle.dividing.proofs.Widening.{Best}
use Rattle.dividing.proofs.open.OpenLines.widest.Given as goal

abbrev pub invariant-loop-n : goal.invariant-loop-n
invariant-loop-n l = Best (lines l.self.book.now) l.self.left.now l.self.account l.n l.best l.most
