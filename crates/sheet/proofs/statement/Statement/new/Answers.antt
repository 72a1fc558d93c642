use Rattle.std.proofs.Common.{rules}
use Rattle.sheet.proofs.OneStatement.{rest_same}
use Rattle.sheet.specs.Statements.{clean_state}
use Rattle.sheet.proofs.statement.Statement.new.Goals as goal

pub returns : goal.returns
returns c = record { clean = search rules; one = rest_same (clean_state c.args.sheet.now) }
