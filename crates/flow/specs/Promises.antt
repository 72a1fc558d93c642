-- What is promised of every well-formed book. Assumes nothing.
use Rattle.std.specs.Prelude.{◌≡◌, ℕ, ◌<◌, ◌≤◌, true, List, [], ◌∷◌, ◌++◌, length, pos, ◌≤ℤ◌, count_by}
use Rattle.std.specs.List.{ContainsAt}
use Rattle.book.specs.Tally.{Tally, is_live, WellFormed}
use Rattle.book.specs.Totals.{Balanced}
use Rattle.flow.specs.Chains.{Chain}
use Rattle.flow.specs.Dividing.{Dividing}
use Rattle.flow.specs.Excess.{excess, figure, diverging, converging}
use Rattle.flow.specs.Listing.{Listing, Ascends}
use Rattle.flow.specs.Rules.{Choice, Law, avoiding}
use Rattle.flow.specs.Splits.{Row, Split, puts, holds, Certain, Greatest}

-- a book has a split exactly when it is balanced
abbrev pub SplitIffBalanced : Type 0
SplitIffBalanced = (t : Tally) → WellFormed t → (Balanced t → (s : List Row) × Split t s) × ((s : List Row) → Split t s → Balanced t)

-- the excess is what the excess-flow definitions say, read from either end
abbrev pub ExcessBothWays : Type 0
ExcessBothWays = (t : Tally) (c : List ℕ) → WellFormed t → Balanced t → Chain t c → (excess t c ≡ diverging t c) × (excess t c ≡ converging t c)

-- every split puts at least the excess on every chain
abbrev pub SplitPutsExcess : Type 0
SplitPutsExcess = (t : Tally) (s : List Row) (c : List ℕ) → WellFormed t → Split t s → Chain t c → excess t c ≤ℤ pos (puts s c)

-- under every lawful rule a balanced book has exactly one dividing, a split with at most one row for each live line
pub record Divided (choice : Choice) (t : Tally) (rows : List Row) : Type 0 where
  pub dividing : Dividing choice t rows
  pub alone : (others : List Row) → Dividing choice t others → others ≡ rows
  pub split : Split t rows
  pub few : length rows ≤ count_by is_live t

abbrev pub DividingIsSplit : Type 0
DividingIsSplit = (choice : Choice) (t : Tally) → Law choice → WellFormed t → Balanced t → (rows : List Row) × Divided choice t rows

-- the avoiding rule is lawful, and its split puts exactly the certain figure on its chain
abbrev pub AvoidingReachesFigure : Type 0
AvoidingReachesFigure = (c : List ℕ) → Law (avoiding c) × ((t : Tally) (rows : List Row) → WellFormed t → Balanced t → Chain t c → Dividing (avoiding c) t rows → puts rows c ≡ figure t c)

-- so a chain is certain at a floor exactly when its excess is that or more, and the figure is the least that any split puts there
abbrev pub CertainIffExcess : Type 0
CertainIffExcess =
    (t : Tally) (w : ℕ) (c : List ℕ) → WellFormed t → Balanced t → Chain t c → 0 < w → (Certain t w c → pos w ≤ℤ excess t c) × (pos w ≤ℤ excess t c → Certain t w c)

abbrev pub FigureIsLeast : Type 0
FigureIsLeast =
    (t : Tally) (c : List ℕ) → WellFormed t → Balanced t → Chain t c → Certain t (figure t c) c × ((s : List Row) × Split t s × (puts s c ≡ figure t c))

-- a part of a certain chain is certain, and a chain is greatest exactly when no chain longer by one line, at either end, is certain
abbrev pub PartCertain : Type 0
PartCertain = (t : Tally) (w : ℕ) (c d : List ℕ) → Chain t c → Certain t w d → holds c d ≡ true → Certain t w c

pub record Alone (t : Tally) (w : ℕ) (c : List ℕ) : Type 0 where
  pub certain : Certain t w c
  pub left : (n : ℕ) → Chain t (n ∷ c) → Certain t w (n ∷ c) → ⊥
  pub right : (n : ℕ) → Chain t (c ++ n ∷ []) → Certain t w (c ++ n ∷ []) → ⊥

abbrev pub GreatestByOneLine : Type 0
GreatestByOneLine =
    (t : Tally) (w : ℕ) (c : List ℕ) → WellFormed t → Balanced t → 0 < w → Chain t c → (Greatest t w c → Alone t w c) × (Alone t w c → Greatest t w c)

-- for every floor from 1 up the list exists, is the only one, ascends strictly and holds exactly the greatest certain chains
pub record Listed (t : Tally) (w : ℕ) (cs : List (List ℕ)) : Type 0 where
  pub listing : Listing t w [] cs
  pub alone : (others : List (List ℕ)) → Listing t w [] others → others ≡ cs
  pub ascends : Ascends [] cs
  pub every : (c : List ℕ) → Greatest t w c → ContainsAt cs c
  pub only : (c : List ℕ) → ContainsAt cs c → Greatest t w c

abbrev pub ListIsComplete : Type 0
ListIsComplete = (t : Tally) (w : ℕ) → WellFormed t → Balanced t → 0 < w → (cs : List (List ℕ)) × Listed t w cs
