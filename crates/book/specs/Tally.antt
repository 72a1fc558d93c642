-- The tally of a list of calls: a plain list of lines, fed the calls and their arguments alone. Assumes nothing.
--   Tally      a list of lines, live with from, to and amount, or struck; a line's number is how many stand before it
--   at         the line of a number; past the end it reads as struck
--   WellFormed what every book has: few lines, each upward between accounts there are, live amounts within their limits
--   stops      the table of stops of each call, read on the tally
--   outcome    what a call answers, or its refusal
--   after      the tally after a call; a refused call leaves it as it was
--   tally      the tally of a list of calls, from a given one
--   outcomes   the outcomes of a list of calls, from a given tally
use Rattle.std.specs.Prelude.{ℕ, ◌<◌, ◌≤◌, Bool, true, false, not, ◌||◌, List, [], ◌∷◌, ◌++◌, length, ◌==◌, nat_le, nat_lt, slice_index_or, slice_set}
use Rattle.std.specs.List.{AllByRecursion}
use Rattle.book.specs.Limits.{most_lines, highest_account, greatest_amount}
use Rattle.book.specs.Outcome.{book, Outcome, answers, Stop, stop, stopped, settled}
use Rattle.book.specs.declared.entries.Line.{Line}
use Rattle.book.specs.declared.entries.Line.TheVariants.{Live, Struck}
use Rattle.book.specs.declared.entries.Call.{Call}
use Rattle.book.specs.declared.entries.Call.TheVariants.{Post, Amend, Strike, Clear}

abbrev pub Tally : Type 0
Tally = List Line

abbrev pub at : Tally → ℕ → Line
at t n = slice_index_or t n Struck

abbrev pub is_live : Line → Bool
is_live (Live from to amount) = true
is_live Struck = false

abbrev pub Sound : Line → Type 0
Sound (Live from to amount) = (from < to) × (to ≤ highest_account) × (0 < amount) × (amount ≤ greatest_amount)
Sound Struck = Unit {0}

abbrev pub WellFormed : Tally → Type 0
WellFormed t = (length t ≤ most_lines) × AllByRecursion Sound t

abbrev pub with_amount : ℕ → Line → Line
with_amount a (Live from to amount) = Live from to a
with_amount a Struck = Struck

-- the stops of an amount, and those of a line that is amended, struck or part of a chain
abbrev pub amount_stops : ℕ → List Stop
amount_stops a = stop (a == 0 || nat_lt greatest_amount a) book 4 (a ∷ []) ∷ []

abbrev pub line_stops : Tally → ℕ → List Stop
line_stops t n = stop (nat_le (length t) n) book 5 (n ∷ []) ∷ stop (not (is_live (at t n))) book 6 (n ∷ []) ∷ []

-- the stops of the place that a posted line would take, where `count` lines are posted
abbrev pub place_stops : ℕ → ℕ → ℕ → List Stop
place_stops count from to =
    stop (nat_le most_lines count) book 1 []
    ∷ stop (nat_lt highest_account from) book 2 (from ∷ [])
    ∷ stop (nat_lt highest_account to) book 2 (to ∷ [])
    ∷ stop (nat_le to from) book 3 []
    ∷ []

abbrev pub stops : Tally → Call → List Stop
stops t (Post from to amount) = place_stops (length t) from to ++ amount_stops amount
stops t (Amend line amount) = line_stops t line ++ amount_stops amount
stops t (Strike line) = line_stops t line
stops t Clear = []

-- what a call answers, and the tally after it, where no stop is met
abbrev pub answered : Tally → Call → Outcome
answered t (Post from to amount) = answers (length t ∷ [])
answered t (Amend line amount) = answers []
answered t (Strike line) = answers []
answered t Clear = answers []

abbrev pub changed : Tally → Call → Tally
changed t (Post from to amount) = t ++ Live from to amount ∷ []
changed t (Amend line amount) = slice_set t line (with_amount amount (at t line))
changed t (Strike line) = slice_set t line Struck
changed t Clear = []

abbrev pub outcome : Tally → Call → Outcome
outcome t c = stopped (stops t c) (answered t c)

abbrev pub after : Tally → Call → Tally
after t c = settled (outcome t c) t (changed t c)

abbrev pub tally : Tally → List Call → Tally
tally t [] = t
tally t (c ∷ cs) = tally (after t c) cs

abbrev pub outcomes : Tally → List Call → List Outcome
outcomes t [] = []
outcomes t (c ∷ cs) = outcome t c ∷ outcomes (after t c) cs
