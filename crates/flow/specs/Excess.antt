-- The excess of a chain, by which certainty is decided. Assumes nothing.
--   excess       of one line its amount; of a longer chain the excess without its last line, plus the last line's amount,
--                minus the in-total of the account between
--   figure       the certain figure: the excess where that is 1 or more, else 0
--   diverging    the amount of the first line less all that leaves the inner accounts by other lines
--   converging   the amount of the last line less all that enters the inner accounts by other lines
use Rattle.std.specs.Prelude.{ℕ, ◌+◌, List, [], ◌∷◌, ℤ, pos, negsuc, ◌+ℤ◌, ◌-ℤ◌, slice_set}
use Rattle.book.specs.Tally.{Tally, at}
use Rattle.book.specs.Totals.{amount_of, in_total, out_total}
use Rattle.book.specs.declared.entries.Line.TheVariants.{Struck}
use Rattle.flow.specs.Chains.{from_of, to_of}

-- a line's amount, joined to the excess before it
abbrev pub joined : Tally → ℤ → ℕ → ℤ
joined t e n = (e +ℤ pos (amount_of (at t n))) -ℤ pos (in_total t (from_of (at t n)))

abbrev pub excess_on : Tally → ℤ → List ℕ → ℤ
excess_on t e [] = e
excess_on t e (n ∷ ns) = excess_on t (joined t e n) ns

abbrev pub excess : Tally → List ℕ → ℤ
excess t [] = pos 0
excess t (n ∷ ns) = excess_on t (pos (amount_of (at t n))) ns

abbrev pub positive : ℤ → ℕ
positive (pos n) = n
positive (negsuc n) = 0

abbrev pub figure : Tally → List ℕ → ℕ
figure t c = positive (excess t c)

-- what leaves the account that a line leaves, and what enters the account that it enters, by other lines: the totals with that line struck
abbrev pub leaving_beside : Tally → ℕ → ℕ
leaving_beside t n = out_total (slice_set t n Struck) (from_of (at t n))

abbrev pub entering_beside : Tally → ℕ → ℕ
entering_beside t n = in_total (slice_set t n Struck) (to_of (at t n))

abbrev pub all_leaving : Tally → List ℕ → ℕ
all_leaving t [] = 0
all_leaving t (n ∷ ns) = leaving_beside t n + all_leaving t ns

abbrev pub diverging : Tally → List ℕ → ℤ
diverging t [] = pos 0
diverging t (n ∷ ns) = pos (amount_of (at t n)) -ℤ pos (all_leaving t ns)

-- by the line before: the rest of a chain that begins with it
abbrev pub converging_on : Tally → ℕ → List ℕ → ℤ
converging_on t n [] = pos (amount_of (at t n))
converging_on t n (m ∷ ms) = converging_on t m ms -ℤ pos (entering_beside t n)

abbrev pub converging : Tally → List ℕ → ℤ
converging t [] = pos 0
converging t (n ∷ ns) = converging_on t n ns
