-- What is promised of the tally of every list of calls. Assumes nothing.
--   SomeSplit      the tally has a split
--   Refused        refused whatever the outcome would be: with the lowest account that differs and both of its totals
--   Asks           a question by its stops: where none before the last is met, it is refused exactly when the tally has no split
--   chain_before   the stops of a chain before the balance
--   Questions      every question about a book is such a question
--   Counter        a split against a chain: the dividing that avoids it puts just the certain figure on it
--   Told           what certain answers: held with the certain figure, or loose where that is 0
--   Countered      what is promised of a chain of a balanced book
--   ListAgreed     the list at a floor, and what all splits agree on for each of its chains
--   KeptPromise    the whole promise
use Rattle.std.specs.Prelude.{◌≡◌, ℕ, ◌<◌, List, [], ◌∷◌, length, None}
use Rattle.std.specs.List.{ContainsAt}
use Rattle.book.specs.Outcome.{book, Outcome, refuses, stopped}
use Rattle.book.specs.Tally.{Tally}
use Rattle.book.specs.Totals.{in_total, out_total, Balanced, Differs, balance_stops}
use Rattle.chains.specs.Certainty.{by_excess, Agreed}
use Rattle.chains.specs.Stops.{length_stops, lines_stops, chain_stopped}
use Rattle.chains.specs.declared.certainty.Certainty.TheVariants.{Held, Loose}
use Rattle.dividing.specs.Tables.{table_stops, divide_stopped, counter_stopped}
use Rattle.flow.specs.Chains.{Chain}
use Rattle.flow.specs.Dividing.{Dividing}
use Rattle.flow.specs.Excess.{excess, figure}
use Rattle.flow.specs.Promises.{Divided, Listed}
use Rattle.flow.specs.Rules.{Choice, Law, avoiding}
use Rattle.flow.specs.Splits.{Row, Split, puts, Certain}
use Rattle.listing.specs.Nexts.{next_stopped}
use Rattle.listing.specs.Picks.{request_stops}

abbrev pub SomeSplit : Tally → Type 0
SomeSplit t = (s : List Row) × Split t s

pub record Refused (t : Tally) (all : Outcome → Outcome) : Type 0 where
  pub account : ℕ
  pub differs : Differs t account
  pub lowest : (b : ℕ) → b < account → Differs t b → ⊥
  pub refused : (o : Outcome) → all o ≡ refuses book 7 (account ∷ in_total t account ∷ out_total t account ∷ [])

-- `before` reads the stops before the last, `all` reads them all
pub record Asks (t : Tally) (before all : Outcome → Outcome) : Type 0 where
  pub passed : ((o : Outcome) → before o ≡ o) → SomeSplit t → (o : Outcome) → all o ≡ o
  pub refused : ((o : Outcome) → before o ≡ o) → (SomeSplit t → ⊥) → Refused t all

abbrev pub chain_before : Tally → List ℕ → Outcome → Outcome
chain_before t c o = stopped (length_stops (length c)) (stopped (lines_stops t 0 None c) o)

pub record Questions (t : Tally) : Type 0 where
  pub balance : Asks t (λ o. o) (stopped (balance_stops t))
  pub certain : (c : List ℕ) → Asks t (chain_before t c) (chain_stopped t c)
  pub divide : (entries tonnes : ℕ) → Asks t (stopped (table_stops entries tonnes)) (divide_stopped t entries tonnes)
  pub counter : (c : List ℕ) (entries tonnes : ℕ) → Asks t (λ o. stopped (table_stops entries tonnes) (chain_before t c o)) (counter_stopped t c entries tonnes)
  pub next : (floor entries long : ℕ) → Asks t (stopped (request_stops floor entries long)) (next_stopped t floor entries long)

pub record Counter (t : Tally) (c : List ℕ) (rows : List Row) : Type 0 where
  pub dividing : Dividing (avoiding c) t rows
  pub split : Split t rows
  pub least : puts rows c ≡ figure t c

pub record Told (t : Tally) (c : List ℕ) : Type 0 where
  pub held : (n : ℕ) → by_excess (excess t c) ≡ Held n → n ≡ figure t c
  pub some : (n : ℕ) → by_excess (excess t c) ≡ Held n → 0 < n
  pub loose : (n : ℕ) → by_excess (excess t c) ≡ Loose n → figure t c ≡ 0

pub record Countered (t : Tally) (c : List ℕ) : Type 0 where
  pub counter : (rows : List Row) × Counter t c rows
  pub every : Certain t (figure t c) c
  pub told : Told t c

pub record ListAgreed (t : Tally) (floor : ℕ) (cs : List (List ℕ)) : Type 0 where
  pub listed : Listed t floor cs
  pub agreed : (c : List ℕ) → ContainsAt cs c → Agreed t c

pub record KeptPromise (t : Tally) : Type 0 where
  pub questions : Questions t
  pub split_if_balanced : Balanced t → SomeSplit t
  pub balanced_if_split : SomeSplit t → Balanced t
  pub divides : (choice : Choice) → Law choice → Balanced t → (rows : List Row) × Divided choice t rows
  pub counters : (c : List ℕ) → Chain t c → Balanced t → Countered t c
  pub lists : (floor : ℕ) → 0 < floor → Balanced t → (cs : List (List ℕ)) × ListAgreed t floor cs
