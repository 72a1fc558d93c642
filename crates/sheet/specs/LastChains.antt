-- The last chain listed. Assumes nothing.
--   Moved   one chain further in a list: the first greatest certain chain after the one held is held, and its figure told;
--           or there is none and what was held stays, as after a refusal
use Rattle.std.specs.Prelude.{◌≡◌, ℕ, List, Some, None, Ok, Err, Option, Result}
use Rattle.book.specs.Tally.{Tally}
use Rattle.chains.specs.declared.faults.Fault.{Fault}
use Rattle.flow.specs.Excess.{figure}
use Rattle.flow.specs.Listing.{FirstAfter, NoneAfter}

abbrev pub Moved : Tally → ℕ → List ℕ → Result (Option ℕ) Fault → List ℕ → Type 0
Moved t w before (Ok (Some f)) after = FirstAfter t w before after × (f ≡ figure t after)
Moved t w before (Ok None) after = NoneAfter t w before × (after ≡ before)
Moved t w before (Err e) after = after ≡ before
