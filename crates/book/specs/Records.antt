-- The records of a book's inner table. Assumes nothing.
--   blank        a record that holds no line
--   revalued     a record given another amount
--   retired      a record of a line that is struck
--   line_of      the line that a record stands for
--   account_of   the account that it enters or leaves
use Rattle.std.specs.Prelude.{ℕ, false, cond}
use Rattle.book.specs.declared.entries.Line.{Line}
use Rattle.book.specs.declared.entries.Line.TheVariants.{Live, Struck}
use Rattle.book.specs.declared.table.Record.{Record}
use Rattle.book.specs.declared.table.Side.{Side}
use Rattle.book.specs.declared.table.Side.TheVariants.{In, Out}

abbrev pub blank : Record
blank = record { from = 0; to = 0; amount = 0; live = false }

abbrev pub revalued : ℕ → Record → Record
revalued a r = record { from = r.from; to = r.to; amount = a; live = r.live }

abbrev pub retired : Record → Record
retired r = record { from = r.from; to = r.to; amount = r.amount; live = false }

abbrev pub line_of : Record → Line
line_of r = cond r.live (Live r.from r.to r.amount) Struck

abbrev pub account_of : Side → Record → ℕ
account_of In r = r.to
account_of Out r = r.from
