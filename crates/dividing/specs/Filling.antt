-- What dividing leaves in the tables. Assumes nothing.
--   Filled    the rows of the dividing under a rule stand in the tables, and are a split; every other entry is as it was
--   Opposed   the rows put exactly the certain figure on a chain, and every split puts at least that
--   Answered  the tables after an answer, and after a refusal, which leaves them
use Rattle.std.specs.Prelude.{◌≡◌, ℕ, ◌≤◌, List, map, length, Ok, Err, count_by, Result}
use Rattle.book.specs.Overlay.{over}
use Rattle.book.specs.Tally.{Tally, is_live}
use Rattle.chains.specs.declared.faults.Fault.{Fault}
use Rattle.dividing.specs.Tables.{written}
use Rattle.flow.specs.Dividing.{Dividing}
use Rattle.flow.specs.Excess.{figure}
use Rattle.flow.specs.Rules.{Choice}
use Rattle.flow.specs.Splits.{Row, Split, puts, Certain}

pub record Filled (choice : Choice) (t : Tally) (rows_before tonnes_before : List ℕ) (count : ℕ) (rows_after tonnes_after : List ℕ) : Type 0 where
  pub rows : List Row
  pub dividing : Dividing choice t rows
  pub alone : (others : List Row) → Dividing choice t others → others ≡ rows
  pub split : Split t rows
  pub few : length rows ≤ count_by is_live t
  pub counted : count ≡ length rows
  pub table : rows_after ≡ written rows_before 0 rows
  pub tonnes : tonnes_after ≡ over tonnes_before (map (λ row. row.tonnes) rows)

-- dividing: the tables are filled, or as they were
abbrev pub Answered : Choice → Tally → List ℕ → List ℕ → Result ℕ Fault → List ℕ → List ℕ → Type 0
Answered choice t rows tonnes (Ok n) rows_after tonnes_after = Filled choice t rows tonnes n rows_after tonnes_after
Answered choice t rows tonnes (Err e) rows_after tonnes_after = (rows_after ≡ rows) × (tonnes_after ≡ tonnes)

-- counter's rows: exactly the certain figure on the chain, which every split puts there at least
pub record Opposed (t : Tally) (c : List ℕ) (rows : List Row) : Type 0 where
  pub least : puts rows c ≡ figure t c
  pub certain : Certain t (figure t c) c
