-- The stops of questions about chains, in their order. Assumes nothing.
--   length_stops   a chain has 1 to 63 lines
--   with_place     a book's stop met on a chain carries the line's place, too
--   line_stops     one line of a chain, where the line before it enters an account or there is none
--   lines_stops    each line in turn
--   chain_stopped  of a chain that is handed to a question: its length, each of its lines, and the balance last
use Rattle.std.specs.Prelude.{ℕ, ◌+◌, not, ◌||◌, List, [], ◌∷◌, ◌++◌, length, Some, None, Option, ◌==◌, nat_lt}
use Rattle.book.specs.Outcome.{chain, Outcome, answers, refuses, Stop, stop, stopped}
use Rattle.book.specs.Tally.{Tally, at, line_stops as book_stops}
use Rattle.book.specs.Totals.{leaves, balance_stops}
use Rattle.flow.specs.Chains.{longest_chain, to_of}

abbrev pub length_stops : ℕ → List Stop
length_stops n = stop (n == 0 || nat_lt longest_chain n) chain 8 (n ∷ []) ∷ []

abbrev pub carrying : ℕ → Outcome → Outcome
carrying p (answers vs) = answers vs
carrying p (refuses l n vs) = refuses l n (p ∷ vs)

abbrev pub with_place : ℕ → List Stop → List Stop
with_place p [] = []
with_place p (s ∷ ss) = record { met = s.met; refusal = carrying p s.refusal } ∷ with_place p ss

abbrev pub gap_stops : Tally → ℕ → Option ℕ → ℕ → List Stop
gap_stops t p None n = []
gap_stops t p (Some account) n = stop (not (leaves account (at t n))) chain 9 (p ∷ []) ∷ []

abbrev pub line_stops : Tally → ℕ → Option ℕ → ℕ → List Stop
line_stops t p before n = with_place p (book_stops t n) ++ gap_stops t p before n

abbrev pub lines_stops : Tally → ℕ → Option ℕ → List ℕ → List Stop
lines_stops t p before [] = []
lines_stops t p before (n ∷ ns) = line_stops t p before n ++ lines_stops t (p + 1) (Some (to_of (at t n))) ns

-- read one after the other: the first stop met, or else the outcome given
abbrev pub chain_stopped : Tally → List ℕ → Outcome → Outcome
chain_stopped t c o = stopped (length_stops (length c)) (stopped (lines_stops t 0 None c) (stopped (balance_stops t) o))
