use Rattle.std.proofs.Common.{◌+◌, ◌-◌, ◌*◌, arith}
use Rattle.book.specs.Lines.{lines}
use Rattle.dividing.proofs.Tabled.{numbered_next}
use Rattle.dividing.proofs.state.Division.put_numbered.Goals as goal

pub returns-clause-row : goal.returns-clause-row
returns-clause-row g c =
    let s = c.args.self.now in
    numbered_next (g.R.Rule.choice s.rule.now) (lines s.book.now) s.left c.args.rows.now (64 * c.args.number) (64 * c.args.number + 64 - 64 * c.args.number) c.put_row.result c.put_row.new.self.left c.put_row.new.row (omega arith) (omega arith) c.put_row.ensures.row
