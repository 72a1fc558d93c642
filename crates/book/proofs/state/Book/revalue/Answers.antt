use Rattle.std.proofs.Common.{get_or, set, sym, ap, ◌∙◌, arith}
use Rattle.book.specs.Lines.{lines}
use Rattle.book.specs.Records.{blank}
use Rattle.book.specs.Tally.{with_amount}
use Rattle.book.proofs.Records.{length-lines, lines-set, at-lines, line_of-revalued}
use Rattle.book.proofs.state.Book.revalue.Goals as goal

pub returns : goal.returns
returns c =
    let b = c.args.self.now in
    let n = length-lines b.count b.table.records (omega arith) in
    let old = at-lines b.table.records b.count c.args.line (omega arith) (omega arith) in
    let new = line_of-revalued c.args.amount (get_or b.table.records c.args.line blank) in
    rw c.revalue.ensures (lines-set b.table.records b.count c.args.line _ (omega arith)
    ∙ ap (set (lines b) c.args.line) (new ∙ ap (with_amount c.args.amount) (sym old)))
