-- What certain answers. Assumes nothing.
--   by_excess   held with the excess when that is 1 or more, else loose with the tonnes by which it lies below zero
--   Agreed      every split puts at least the certain figure on the chain, and some split puts exactly that
use Rattle.std.specs.Prelude.{◌≡◌, ℕ, zero, suc, List, ℤ, pos, negsuc}
use Rattle.book.specs.Tally.{Tally}
use Rattle.flow.specs.Excess.{figure}
use Rattle.flow.specs.Splits.{Row, Split, puts, Certain}
use Rattle.chains.specs.declared.certainty.Certainty.{Certainty}
use Rattle.chains.specs.declared.certainty.Certainty.TheVariants.{Held, Loose}

abbrev pub by_excess : ℤ → Certainty
by_excess (pos zero) = Loose 0
by_excess (pos (suc n)) = Held (suc n)
by_excess (negsuc n) = Loose (suc n)

pub record Agreed (t : Tally) (c : List ℕ) : Type 0 where
  pub every : Certain t (figure t c) c
  pub some : (s : List Row) × Split t s × (puts s c ≡ figure t c)
