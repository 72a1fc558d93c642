-- The lines that a book holds, as a tally. Assumes nothing.
use Rattle.std.specs.Prelude.{map, take}
use Rattle.book.specs.Records.{line_of}
use Rattle.book.specs.Tally.{Tally}
use Rattle.book.specs.declared.state.Book.{Book}

abbrev pub lines : Book → Tally
lines b = map line_of (take b.count b.table.records)
