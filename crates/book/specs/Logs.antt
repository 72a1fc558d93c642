-- What a run of the calls of a log on a clean book leaves. Assumes nothing.
--   calls_of     the calls of a log
--   outcome_of   an answer as an outcome, if there is one
--   reported     what a log has of each call: nothing yet, or its outcome
--   Entered      an entry keeps its call and has the outcome that a tally gives for it
--   TalliedLog   the log keeps its calls and has of each the outcome that the tally of the calls gives; the lines at the end
--                are those of the tally, which is well-formed
use Rattle.std.specs.Prelude.{◌≡◌, List, [], map, Some, None, Option, Result}
use Rattle.book.specs.Faults.{told}
use Rattle.book.specs.Lines.{lines}
use Rattle.book.specs.Outcome.{Outcome}
use Rattle.book.specs.Tally.{Tally, tally, outcome, outcomes, WellFormed}
use Rattle.book.specs.declared.entries.Answer.{Answer}
use Rattle.book.specs.declared.entries.Call.{Call}
use Rattle.book.specs.declared.entries.Fault.{Fault}
use Rattle.book.specs.declared.run.Entry.{Entry}
use Rattle.book.specs.declared.state.Book.{Book}

abbrev pub calls_of : List Entry → List Call
calls_of log = map (λ e. e.call) log

abbrev pub outcome_of : Option (Result Answer Fault) → Option Outcome
outcome_of None = None
outcome_of (Some a) = Some (told a)

abbrev pub reported : List Entry → List (Option Outcome)
reported log = map (λ e. outcome_of e.answer) log

pub record Entered (t : Tally) (asked made : Entry) : Type 0 where
  pub call_kept : made.call ≡ asked.call
  pub answer_told : outcome_of made.answer ≡ Some (outcome t asked.call)

pub record TalliedLog (asked made : List Entry) (book : Book) : Type 0 where
  pub calls_kept : calls_of made ≡ calls_of asked
  pub answers_told : reported made ≡ map Some (outcomes [] (calls_of asked))
  pub lines_left : lines book ≡ tally [] (calls_of asked)
  pub well_formed : WellFormed (tally [] (calls_of asked))
