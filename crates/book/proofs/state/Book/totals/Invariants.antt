use Rattle.std.proofs.Common.{take}
use Rattle.book.proofs.Totals.{Running}
use Rattle.book.proofs.state.Book.totals.Given as goal

abbrev pub invariant-loop-record : goal.invariant-loop-record
invariant-loop-record l = Running l.side (take l.self.count l.self.table.records) l.record-index l.sums
