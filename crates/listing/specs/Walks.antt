-- What the steps of the search answer. Assumes nothing.
--   Branched   the first certain chain after a list, branched off from its first numbers; or none is left that begins with these
--   Stepped    the first certain chain after a list, or there is none
--   Judged     a chain is greatest; or it is not, with the step on from it
use Rattle.std.specs.Prelude.{ℕ, List, Some, None, Option}
use Rattle.arrayvec.specs.ArrayVec.{ArrayVec}
use Rattle.book.specs.Tally.{Tally}
use Rattle.listing.specs.After.{Barren, FirstCertain, NoCertain}
use Rattle.listing.specs.Growth.{Comes}
use Rattle.flow.specs.Splits.{Greatest as GreatestChain}
use Rattle.listing.specs.declared.search.greatest.Verdict.{Verdict}
use Rattle.listing.specs.declared.search.greatest.Verdict.TheVariants.{Greatest, Passed}
use Rattle.listing.specs.declared.reach.Reach.{Reach}

pub record Found (t : Tally) (w : ℕ) (given c : List ℕ) (r : Reach) : Type 0 where
  pub first : FirstCertain t w given c
  pub comes : Comes t w c r

abbrev pub Branched : Tally → ℕ → List ℕ → ℕ → Option (ArrayVec ℕ × Reach) → Type 0
Branched t w given k None = Barren t w given k
Branched t w given k (Some p) = Found t w given p.0.items p.1

abbrev pub Stepped : Tally → ℕ → List ℕ → Option (ArrayVec ℕ × Reach) → Type 0
Stepped t w given None = NoCertain t w given
Stepped t w given (Some p) = Found t w given p.0.items p.1

abbrev pub Judged : Tally → ℕ → List ℕ → Verdict → Type 0
Judged t w c Greatest = GreatestChain t w c
Judged t w c (Passed after) = (GreatestChain t w c → ⊥) × Stepped t w c after
