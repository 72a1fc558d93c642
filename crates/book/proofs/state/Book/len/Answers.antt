use Rattle.std.proofs.Common.{sym, arith}
use Rattle.book.proofs.Balance.{well_formed}
use Rattle.book.proofs.Records.{length-lines}
use Rattle.book.proofs.state.Book.len.Goals as goal

pub returns : goal.returns
returns c = record {
  count = sym (length-lines _ c.args.self.now.table.records (omega arith));
  few = omega arith;
  sound = well_formed c.args.self.now;
}
