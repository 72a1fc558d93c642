-- The tables that rows are written into. Assumes nothing.
--   row_stride       row i stands at entry row_stride × i
--   table_entries    the table of rows needs so many entries
--   table_tonnes     the table of tonnes needs so many
--   written          a table with rows written into it, from row i on: at each row's entry its length, then its lines
--   table_stops      the stop of tables too small
--   divide_stopped   the stops of dividing, read one after the other: the tables, then the balance
--   counter_stopped those of counter: the tables, then the chain and the balance
use Rattle.std.specs.Prelude.{ℕ, ◌+◌, ◌*◌, ◌||◌, List, [], ◌∷◌, length, nat_lt}
use Rattle.book.specs.Outcome.{chain, Outcome, Stop, stop, stopped}
use Rattle.book.specs.Overlay.{laid}
use Rattle.book.specs.Tally.{Tally}
use Rattle.book.specs.Totals.{balance_stops}
use Rattle.chains.specs.Stops.{chain_stopped}
use Rattle.flow.specs.Splits.{Row}

abbrev pub row_stride : ℕ
row_stride = 64

abbrev pub table_entries : ℕ
table_entries = 16_384

abbrev pub table_tonnes : ℕ
table_tonnes = 256

abbrev pub written : List ℕ → ℕ → List Row → List ℕ
written table i [] = table
written table i (row ∷ rows) = written (laid table (row_stride * i) (length row.chain ∷ row.chain)) (i + 1) rows

abbrev pub table_stops : ℕ → ℕ → List Stop
table_stops entries tonnes = stop (nat_lt entries table_entries || nat_lt tonnes table_tonnes) chain 10 [] ∷ []

abbrev pub divide_stopped : Tally → ℕ → ℕ → Outcome → Outcome
divide_stopped t entries tonnes o = stopped (table_stops entries tonnes) (stopped (balance_stops t) o)

abbrev pub counter_stopped : Tally → List ℕ → ℕ → ℕ → Outcome → Outcome
counter_stopped t c entries tonnes o = stopped (table_stops entries tonnes) (chain_stopped t c o)
