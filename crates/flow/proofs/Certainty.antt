-- A chain is certain at a floor exactly when its excess is that or more, and its figure is the least that any split puts on it. Assumes nothing.
use Rattle.std.proofs.Common.{◌≡◌, ℕ, ◌<◌, ◌≤◌, List, ℤ, pos, negsuc, ◌≤ℤ◌, arith}
use Rattle.std.proofs.lemmas.Int.{ints}
use Rattle.book.specs.Tally.{Tally, WellFormed}
use Rattle.book.specs.Totals.{Balanced}
use Rattle.flow.specs.Chains.{Chain}
use Rattle.flow.specs.Excess.{excess, positive, figure}
use Rattle.flow.specs.Promises.{CertainIffExcess, FigureIsLeast}
use Rattle.flow.specs.Rules.{avoiding}
use Rattle.flow.specs.Splits.{Row, Split, puts}
use Rattle.flow.proofs.Avoiding.{avoiding_reaches_figure, positive_under}
use Rattle.flow.proofs.Divided.{dividing_is_split}
use Rattle.flow.proofs.SplitExcess.{split_puts_excess}

-- a floor of 1 or more under the figure is under the excess
floor_under : (z : ℤ) (w : ℕ) → 0 < w → w ≤ positive z → pos w ≤ℤ z
floor_under (pos n) w some under = omega (arith, ints)
floor_under (negsuc n) w some under = absurd (omega arith)

-- a split that puts exactly the figure on a chain
pub figure_reached : (t : Tally) (c : List ℕ) → WellFormed t → Balanced t → Chain t c → (s : List Row) × Split t s × (puts s c ≡ figure t c)
figure_reached t c well balanced chain =
    let divided = dividing_is_split (avoiding c) t (avoiding_reaches_figure c).0 well balanced in
    (divided.0, divided.1.split, (avoiding_reaches_figure c).1 t divided.0 well balanced chain divided.1.dividing)

pub certain_iff_excess : CertainIffExcess
certain_iff_excess t w c well balanced chain some = (
  (λ certain.
      let reached = figure_reached t c well balanced chain in
      floor_under (excess t c) w some (omega (arith, certain reached.0 reached.1, reached.2))),
  (λ under s split. let least = split_puts_excess t s c well split chain in omega (arith, ints)),
)

pub figure_is_least : FigureIsLeast
figure_is_least t c well balanced chain = (
  (λ s split. positive_under (excess t c) (puts s c) (split_puts_excess t s c well split chain)),
  figure_reached t c well balanced chain,
)
