-- What the search for the next greatest certain chain answers. Assumes nothing.
--   request_stops   the stops of next that need no book
--   Picked          the first greatest certain chain after a list, with its figure; or there is none
use Rattle.std.specs.Prelude.{◌≡◌, ℕ, List, [], ◌∷◌, Some, None, Option, ◌==◌, nat_lt}
use Rattle.arrayvec.specs.ArrayVec.{ArrayVec}
use Rattle.book.specs.Outcome.{chain, Stop, stop}
use Rattle.book.specs.Tally.{Tally}
use Rattle.chains.specs.Certainty.{Agreed}
use Rattle.flow.specs.Chains.{longest_chain}
use Rattle.flow.specs.Excess.{figure}
use Rattle.flow.specs.Listing.{FirstAfter, NoneAfter}

abbrev pub request_stops : ℕ → ℕ → ℕ → List Stop
request_stops floor entries length =
    stop (floor == 0) chain 11 [] ∷ stop (nat_lt entries longest_chain) chain 10 [] ∷ stop (nat_lt longest_chain length) chain 8 (length ∷ []) ∷ []

pub record Chosen (t : Tally) (floor : ℕ) (given c : List ℕ) (figure_told : ℕ) : Type 0 where
  pub first : FirstAfter t floor given c
  pub amount : figure_told ≡ figure t c
  pub agreed : Agreed t c

abbrev pub Picked : Tally → ℕ → List ℕ → Option (ArrayVec ℕ × ℕ) → Type 0
Picked t floor given None = NoneAfter t floor given
Picked t floor given (Some p) = Chosen t floor given p.0.items p.1
