use Rattle.book.proofs.Balance.{none_above, well_formed}
use Rattle.book.proofs.state.Book.total.Goals as goal

pub returns-then-account-gt-HIGHEST_ACCOUNT : goal.returns-then-account-gt-HIGHEST_ACCOUNT
returns-then-account-gt-HIGHEST_ACCOUNT c = none_above c.args.side c.args.account _ (well_formed c.args.self.now).1 c.if-account-gt-HIGHEST_ACCOUNT.true
