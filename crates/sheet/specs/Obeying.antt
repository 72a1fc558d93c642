-- What obeying a command leaves: its line on the page, the state after it, and the tables. Assumes nothing.
--   Line   a line was put at the start of the page, and is what the command prints in one state, leading to another
--   Did    the same, with what the tables hold
use Rattle.std.specs.Prelude.{ℕ, List}
use Rattle.sheet.specs.Commands.{Meaning}
use Rattle.sheet.specs.Page.{Put}
use Rattle.sheet.specs.Reading.{read}
use Rattle.sheet.specs.Statements.{State, Obeyed}
use Rattle.sheet.specs.Stepping.{Touched}

pub record Line (a b : State) (q : ℕ) (m : Meaning) (page page_after : List ℕ) (printed : ℕ) : Type 0 where
  pub text : List ℕ
  pub put : Put page 0 text page_after printed
  pub obeyed : Obeyed a text b q m

pub record Did (a b : State) (q : ℕ) (m : Meaning) (page page_after : List ℕ) (printed : ℕ) (rows rows_after tonnes tonnes_after : List ℕ) : Type 0 where
  pub line : Line a b q m page page_after printed
  pub tables : Touched a.tally rows tonnes rows_after tonnes_after (read m q)
