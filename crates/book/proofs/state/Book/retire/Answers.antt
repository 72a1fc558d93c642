use Rattle.std.proofs.Common.{arith}
use Rattle.book.proofs.Records.{length-lines, lines-set}
use Rattle.book.proofs.state.Book.retire.Goals as goal

pub returns : goal.returns
returns c =
    let b = c.args.self.now in
    let n = length-lines b.count b.table.records (omega arith) in
    rw c.retire.ensures (lines-set b.table.records b.count c.args.line _ (omega arith))
