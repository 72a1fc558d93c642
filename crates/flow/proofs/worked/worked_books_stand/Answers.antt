use Rattle.flow.proofs.WorkedBooks.{worked_books_stand}
use Rattle.flow.proofs.worked.worked_books_stand.Goals as goal

pub returns : goal.returns
returns c = worked_books_stand
