use Rattle.book.proofs.Balance.{compared_balances, balances_stop, well_formed}
use Rattle.book.specs.Lines.{lines}
use Rattle.book.proofs.state.Book.balance.Goals as goal

pub returns : goal.returns
returns c =
    let formed = well_formed c.args.self.now in
    let sound = formed.1 in
    let answer = compared_balances (lines c.args.self.now) sound _ _ c.totals.ensures.totals c.totals-2.ensures.totals c.compare.result c.compare.ensures in
    record { answer = answer; stop = balances_stop (lines c.args.self.now) sound c.compare.result answer; sound = formed }
