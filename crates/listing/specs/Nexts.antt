-- What next answers. Assumes nothing.
--   row_entries    a row needs so many entries
--   next_stopped   the stops of next, read one after the other: the floor, the row, the length, the balance
--   after_stopped  the stops of next_after, which needs no row
--   Answered       found: the first greatest certain chain after the given list stands at the start of the row, with its length and figure;
--                  done: none stands after it, and the row is as it was; a refusal leaves the row
use Rattle.std.specs.Prelude.{◌≡◌, ℕ, List, [], ◌∷◌, length, take, Some, None, Option, Ok, Err, Result, ◌==◌, nat_lt}
use Rattle.book.specs.Outcome.{chain, Outcome, stop, stopped}
use Rattle.book.specs.Overlay.{over}
use Rattle.book.specs.Tally.{Tally}
use Rattle.book.specs.Totals.{balance_stops}
use Rattle.chains.specs.Certainty.{Agreed}
use Rattle.chains.specs.declared.faults.Fault.{Fault}
use Rattle.flow.specs.Chains.{longest_chain}
use Rattle.flow.specs.Excess.{figure}
use Rattle.flow.specs.Listing.{FirstAfter, NoneAfter}
use Rattle.listing.specs.Picks.{request_stops}

abbrev pub row_entries : ℕ
row_entries = longest_chain

abbrev pub next_stopped : Tally → ℕ → ℕ → ℕ → Outcome → Outcome
next_stopped t floor entries length o =
    stopped (request_stops floor entries length) (stopped (balance_stops t) o)

abbrev pub after_stopped : Tally → ℕ → ℕ → Outcome → Outcome
after_stopped t floor length o =
    stopped (stop (floor == 0) chain 11 [] ∷ stop (nat_lt longest_chain length) chain 8 (length ∷ []) ∷ []) (stopped (balance_stops t) o)

pub record First (t : Tally) (floor : ℕ) (given : List ℕ) (length_told figure_told : ℕ) (row row_after : List ℕ) : Type 0 where
  pub listed : List ℕ
  pub first : FirstAfter t floor given listed
  pub long : length_told ≡ length listed
  pub amount : figure_told ≡ figure t listed
  pub agreed : Agreed t listed
  pub placed : row_after ≡ over row listed

abbrev pub Answered : Tally → ℕ → ℕ → List ℕ → Result (Option (ℕ × ℕ)) Fault → List ℕ → Type 0
Answered t floor n row (Ok (Some p)) row_after = First t floor (take n row) p.0 p.1 row row_after
Answered t floor n row (Ok None) row_after = NoneAfter t floor (take n row) × (row_after ≡ row)
Answered t floor n row (Err e) row_after = row_after ≡ row
