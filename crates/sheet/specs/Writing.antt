-- What writing a command into a buffer gives. Assumes nothing.
--   longest_command   no command has more bytes, and every buffer needs so many
--   operand_stops, room_stops   the stops of writing, in their order: of the operands, then of the buffer's length
--   writing           the outcome: the count of the command's bytes, or a refusal
--   written           the code's answer as an outcome
use Rattle.std.specs.Prelude.{ℕ, min, not, List, [], ◌∷◌, length, Ok, Err, Result, ◌==◌, nat_lt}
use Rattle.book.specs.Outcome.{sheet, Outcome, answers, Stop, stop, stopped}
use Rattle.sheet.specs.Commands.{note_length, last_rule, Meaning, post, amend, strike, clear, note, list, divide, bytes}
use Rattle.sheet.specs.Reading.{clean, refusal}
use Rattle.sheet.specs.declared.command.Fault.{Fault}

abbrev pub longest_command : ℕ
longest_command = 17

-- a note of another length carries its length, but no more than 16; else the place of the first byte that cannot stand there
abbrev pub note_stops : List ℕ → List Stop
note_stops text =
    stop (not (length text == note_length)) sheet 15 (min (length text) note_length ∷ [])
    ∷ stop (nat_lt (clean text) note_length) sheet 15 (clean text ∷ [])
    ∷ []

abbrev pub operand_stops : Meaning → List Stop
operand_stops (post from to amount) = []
operand_stops (amend line amount) = []
operand_stops (strike line) = []
operand_stops clear = []
operand_stops (note text) = note_stops text
operand_stops (list floor) = []
operand_stops (divide rule) = stop (nat_lt last_rule rule) sheet 16 (1 ∷ []) ∷ []

abbrev pub room_stops : ℕ → List Stop
room_stops room = stop (nat_lt room longest_command) sheet 17 [] ∷ []

abbrev pub writing : Meaning → ℕ → Outcome
writing m room = stopped (operand_stops m) (stopped (room_stops room) (answers (length (bytes m) ∷ [])))

abbrev pub written : Result ℕ Fault → Outcome
written (Ok n) = answers (n ∷ [])
written (Err e) = refusal e
