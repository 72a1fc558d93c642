use Rattle.std.proofs.Common.{sym, subst}
use Rattle.book.specs.Lines.{lines}
use Rattle.flow.proofs.Divided.{fair_amounts}
use Rattle.flow.proofs.Walks.{Fair}
use Rattle.dividing.proofs.state.Division.begin.Goals as goal

pub invariant_of-self-clause-fair : goal.invariant_of-self-clause-fair
invariant_of-self-clause-fair g c =
    let s = c.args.self.now in
    subst (Fair (lines s.book.now)) (sym c.put_amounts.ensures.amounts) (fair_amounts (lines s.book.now) s.sound c.requires.balanced)
