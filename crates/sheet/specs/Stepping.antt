-- What a step of a statement does. Assumes nothing.
--   running   the state of a statement that has not ended
--   state     a statement's state
--   Stepped   the outcome of a step, with the statement and the page after it
use Rattle.std.specs.Prelude.{◌≡◌, ℕ, ◌≤◌, false, cond, List, [], ◌∷◌, map, length, Some, None, Ok, Err, Option, Result, nat_lt}
use Rattle.std.specs.List.{AllByRecursion}
use Rattle.book.specs.Lines.{lines}
use Rattle.book.specs.Outcome.{sheet, Outcome, answers, refuses, stop, stopped}
use Rattle.book.specs.Overlay.{over}
use Rattle.book.specs.Tally.{Tally}
use Rattle.book.specs.Totals.{balance_stops}
use Rattle.dividing.specs.Tables.{table_tonnes, table_stops, written}
use Rattle.flow.specs.Chains.{longest_chain}
use Rattle.flow.specs.Dividing.{Dividing}
use Rattle.flow.specs.Splits.{Row}
use Rattle.sheet.specs.Commands.{post, amend, strike, clear, note, list, divide}
use Rattle.sheet.specs.Reading.{Reading, end, read, refused, reading}
use Rattle.sheet.specs.Statements.{State, shortest_page, rule_of, is_last, refused_next, Prints, Over, Rest}
use Rattle.sheet.specs.declared.command.Fault.{Fault}
use Rattle.sheet.specs.declared.statement.Course.{Course}
use Rattle.sheet.specs.declared.statement.Statement.{Statement}

abbrev pub running : Course → State
running c = record { sheet_bytes = c.sheet.now; place = c.place; tally = lines c.book; ended = false; count = c.count; last = c.last.items }

abbrev pub state : Statement → State
state s = record {
  sheet_bytes = s.course.sheet.now;
  place = s.course.place;
  tally = lines s.course.book;
  ended = s.ended;
  count = s.course.count;
  last = s.course.last.items;
}

-- the state behind a refused reading, but for whether the statement ends with it
abbrev pub left_behind : State → ℕ → State
left_behind a n = cond (is_last n) a (refused_next a n)

-- the line l was printed at the start of the page: it is the first of the rest of the statement, and what was the rest after it is the rest now
pub record Printed (a b : State) (before after l : List ℕ) : Type 0 where
  pub page : after ≡ over before l
  pub prints : Prints a l b
  pub law : (ls : List (List ℕ)) → Rest b ls → Rest a (l ∷ ls)

-- no more rows than the tables have room for, and none longer than its part
abbrev pub Fitting : List Row → Type 0
Fitting split = (length split ≤ table_tonnes) × AllByRecursion (λ row. length row.chain ≤ longest_chain) split

-- the tables as they were; or, of a dividing, filled as divide fills them
abbrev pub Kept : List ℕ → List ℕ → List ℕ → List ℕ → Type 0
Kept rows tonnes rows_after tonnes_after = (rows_after ≡ rows) × (tonnes_after ≡ tonnes)

abbrev pub Filled : Tally → ℕ → List ℕ → List ℕ → List ℕ → List ℕ → Outcome → Type 0
Filled t r rows tonnes rows_after tonnes_after (refuses layer n vs) = Kept rows tonnes rows_after tonnes_after
Filled t r rows tonnes rows_after tonnes_after (answers vs) =
    (split : List Row)
    × Dividing (rule_of r) t split
    × Fitting split
    × (rows_after ≡ written rows 0 split)
    × (tonnes_after ≡ over tonnes (map (λ row. row.tonnes) split))

abbrev pub Touched : Tally → List ℕ → List ℕ → List ℕ → List ℕ → Reading → Type 0
Touched t rows tonnes rows_after tonnes_after (read (divide r) q) = Filled t r rows tonnes rows_after tonnes_after (stopped (balance_stops t) (answers []))
Touched t rows tonnes rows_after tonnes_after (read (post from to amount) q) = Kept rows tonnes rows_after tonnes_after
Touched t rows tonnes rows_after tonnes_after (read (amend line amount) q) = Kept rows tonnes rows_after tonnes_after
Touched t rows tonnes rows_after tonnes_after (read (strike line) q) = Kept rows tonnes rows_after tonnes_after
Touched t rows tonnes rows_after tonnes_after (read clear q) = Kept rows tonnes rows_after tonnes_after
Touched t rows tonnes rows_after tonnes_after (read (note text) q) = Kept rows tonnes rows_after tonnes_after
Touched t rows tonnes rows_after tonnes_after (read (list floor) q) = Kept rows tonnes rows_after tonnes_after
Touched t rows tonnes rows_after tonnes_after end = Kept rows tonnes rows_after tonnes_after
Touched t rows tonnes rows_after tonnes_after (refused n vs) = Kept rows tonnes rows_after tonnes_after

-- the stops of a step: its page, then the tables
abbrev pub step_stopped : ℕ → ℕ → ℕ → Outcome → Outcome
step_stopped page entries tonnes o = stopped (stop (nat_lt page shortest_page) sheet 17 [] ∷ []) (stopped (table_stops entries tonnes) o)

-- a step's answer: a line printed, the end, or a refusal; the end and a refusal leave everything
abbrev pub Stepped : State → List ℕ → List ℕ → List ℕ → Result (Option ℕ) Fault → State → List ℕ → List ℕ → List ℕ → Type 0
Stepped a page rows tonnes (Ok (Some n)) b page_after rows_after tonnes_after =
    (n ≤ length page)
    × ((l : List ℕ) × (n ≡ length l) × Printed a b page page_after l)
    × Touched a.tally rows tonnes rows_after tonnes_after (reading a.sheet_bytes a.place)
Stepped a page rows tonnes (Ok None) b page_after rows_after tonnes_after = Over a × (b ≡ a) × (page_after ≡ page) × Kept rows tonnes rows_after tonnes_after
Stepped a page rows tonnes (Err e) b page_after rows_after tonnes_after = (b ≡ a) × (page_after ≡ page) × Kept rows tonnes rows_after tonnes_after
