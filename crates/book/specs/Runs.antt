-- What a run of calls on a clean book leaves. Assumes nothing.
--   Tallied   every answer and refusal, and the lines at the end, are those of the tally of the calls; and the tally is well-formed
use Rattle.std.specs.Prelude.{◌≡◌, List, [], map, vec_items}
use Rattle.book.specs.Faults.{told}
use Rattle.book.specs.Lines.{lines}
use Rattle.book.specs.Tally.{tally, outcomes, WellFormed}
use Rattle.book.specs.declared.entries.Call.{Call}
use Rattle.book.specs.declared.run.Replayed.{Replayed}

pub record Tallied (calls : List Call) (run : Replayed) : Type 0 where
  pub answers_told : map told (vec_items run.answers) ≡ outcomes [] calls
  pub lines_left : lines run.book ≡ tally [] calls
  pub well_formed : WellFormed (tally [] calls)
