-- Worked books: a table of small books with a split, excesses, dividings and lists of each. Assumes nothing.
--   harbour   two origins and two end accounts around one account
--   double    two lines between the same accounts, and a way around an account
--   fork      one line in, two lines out
--   empty     no lines
--   Worked    a row of the table: a book, and what is said of it
--   Stands    all of that follows from the rules
use Rattle.std.specs.Prelude.{◌≡◌, ℕ, ◌<◌, List, [], ◌∷◌, map, ℤ, pos, negsuc, slice_set}
use Rattle.std.specs.List.{AllByRecursion}
use Rattle.book.specs.Tally.{Tally, WellFormed}
use Rattle.book.specs.Totals.{in_total, out_total, Balanced, Differs}
use Rattle.book.specs.declared.entries.Line.TheVariants.{Live, Struck}
use Rattle.flow.specs.Chains.{Chain}
use Rattle.flow.specs.Dividing.{Dividing}
use Rattle.flow.specs.Excess.{excess, figure}
use Rattle.flow.specs.Listing.{Listing}
use Rattle.flow.specs.Rules.{Choice, lowest, widest, avoiding}
use Rattle.flow.specs.Splits.{Row, Split}

abbrev pub tonnes_on : ℕ → List ℕ → Row
tonnes_on w c = record { chain = c; tonnes = w }

-- the excess of a chain; the rows under a rule; the list at a floor, each chain with its certain figure
pub record ExcessOf : Type 0 where
  pub chain : List ℕ
  pub tonnes : ℤ

pub record RowsUnder : Type 0 where
  pub rule : Choice
  pub rows : List Row

pub record ListAt : Type 0 where
  pub floor : ℕ
  pub list : List Row

pub record Worked : Type 0 where
  pub book : Tally
  pub split : List Row
  pub excesses : List ExcessOf
  pub dividings : List RowsUnder
  pub lists : List ListAt

abbrev pub excess_of : List ℕ → ℤ → ExcessOf
excess_of c e = record { chain = c; tonnes = e }

abbrev pub rows_under : Choice → List Row → RowsUnder
rows_under choice rows = record { rule = choice; rows = rows }

abbrev pub list_at : ℕ → List Row → ListAt
list_at w list = record { floor = w; list = list }

abbrev pub harbour : Tally
harbour = Live 0 2 30 ∷ Live 1 2 20 ∷ Live 2 3 40 ∷ Live 2 4 10 ∷ []

-- the harbour book after its line 3 is struck
abbrev pub struck_harbour : Tally
struck_harbour = slice_set harbour 3 Struck

abbrev pub double : Tally
double = Live 0 1 5 ∷ Live 0 1 3 ∷ Live 1 2 6 ∷ Live 1 3 2 ∷ Live 2 3 6 ∷ []

abbrev pub fork : Tally
fork = Live 0 1 5 ∷ Live 1 2 1 ∷ Live 1 3 4 ∷ []

abbrev pub harbour_worked : Worked
harbour_worked = record {
  book = harbour;
  split = tonnes_on 10 (0 ∷ 3 ∷ []) ∷ tonnes_on 20 (0 ∷ 2 ∷ []) ∷ tonnes_on 20 (1 ∷ 2 ∷ []) ∷ [];
  excesses =
      excess_of (0 ∷ 2 ∷ []) (pos 20)
      ∷ excess_of (1 ∷ 2 ∷ []) (pos 10)
      ∷ excess_of (0 ∷ 3 ∷ []) (negsuc 9)
      ∷ excess_of (1 ∷ 3 ∷ []) (negsuc 19)
      ∷ [];
  dividings =
      rows_under (avoiding (0 ∷ 2 ∷ [])) (tonnes_on 10 (0 ∷ 3 ∷ []) ∷ tonnes_on 20 (0 ∷ 2 ∷ []) ∷ tonnes_on 20 (1 ∷ 2 ∷ []) ∷ [])
      ∷ rows_under lowest (tonnes_on 30 (0 ∷ 2 ∷ []) ∷ tonnes_on 10 (1 ∷ 2 ∷ []) ∷ tonnes_on 10 (1 ∷ 3 ∷ []) ∷ [])
      ∷ rows_under widest (tonnes_on 30 (0 ∷ 2 ∷ []) ∷ tonnes_on 10 (1 ∷ 2 ∷ []) ∷ tonnes_on 10 (1 ∷ 3 ∷ []) ∷ [])
      ∷ [];
  lists =
      list_at 1 (tonnes_on 20 (0 ∷ 2 ∷ []) ∷ tonnes_on 10 (1 ∷ 2 ∷ []) ∷ tonnes_on 10 (3 ∷ []) ∷ [])
      ∷ list_at 10 (tonnes_on 20 (0 ∷ 2 ∷ []) ∷ tonnes_on 10 (1 ∷ 2 ∷ []) ∷ tonnes_on 10 (3 ∷ []) ∷ [])
      ∷ list_at 11 (tonnes_on 20 (0 ∷ 2 ∷ []) ∷ tonnes_on 20 (1 ∷ []) ∷ [])
      ∷ list_at 20 (tonnes_on 20 (0 ∷ 2 ∷ []) ∷ tonnes_on 20 (1 ∷ []) ∷ [])
      ∷ list_at 21 (tonnes_on 30 (0 ∷ []) ∷ tonnes_on 40 (2 ∷ []) ∷ [])
      ∷ list_at 30 (tonnes_on 30 (0 ∷ []) ∷ tonnes_on 40 (2 ∷ []) ∷ [])
      ∷ list_at 31 (tonnes_on 40 (2 ∷ []) ∷ [])
      ∷ list_at 40 (tonnes_on 40 (2 ∷ []) ∷ [])
      ∷ list_at 41 []
      ∷ [];
}

abbrev pub double_worked : Worked
double_worked = record {
  book = double;
  split = tonnes_on 5 (0 ∷ 2 ∷ 4 ∷ []) ∷ tonnes_on 1 (1 ∷ 2 ∷ 4 ∷ []) ∷ tonnes_on 2 (1 ∷ 3 ∷ []) ∷ [];
  excesses =
      excess_of (0 ∷ 2 ∷ 4 ∷ []) (pos 3)
      ∷ excess_of (1 ∷ 2 ∷ 4 ∷ []) (pos 1)
      ∷ excess_of (0 ∷ 3 ∷ []) (negsuc 0)
      ∷ excess_of (1 ∷ 3 ∷ []) (negsuc 2)
      ∷ [];
  dividings = [];
  lists =
      list_at 1 (tonnes_on 3 (0 ∷ 2 ∷ 4 ∷ []) ∷ tonnes_on 1 (1 ∷ 2 ∷ 4 ∷ []) ∷ tonnes_on 2 (3 ∷ []) ∷ [])
      ∷ list_at 2 (tonnes_on 3 (0 ∷ 2 ∷ 4 ∷ []) ∷ tonnes_on 3 (1 ∷ []) ∷ tonnes_on 2 (3 ∷ []) ∷ [])
      ∷ list_at 3 (tonnes_on 3 (0 ∷ 2 ∷ 4 ∷ []) ∷ tonnes_on 3 (1 ∷ []) ∷ [])
      ∷ list_at 4 (tonnes_on 5 (0 ∷ []) ∷ tonnes_on 6 (2 ∷ 4 ∷ []) ∷ [])
      ∷ list_at 5 (tonnes_on 5 (0 ∷ []) ∷ tonnes_on 6 (2 ∷ 4 ∷ []) ∷ [])
      ∷ list_at 6 (tonnes_on 6 (2 ∷ 4 ∷ []) ∷ [])
      ∷ list_at 7 []
      ∷ [];
}

abbrev pub fork_worked : Worked
fork_worked = record {
  book = fork;
  split = tonnes_on 1 (0 ∷ 1 ∷ []) ∷ tonnes_on 4 (0 ∷ 2 ∷ []) ∷ [];
  excesses = [];
  dividings =
      rows_under lowest (tonnes_on 1 (0 ∷ 1 ∷ []) ∷ tonnes_on 4 (0 ∷ 2 ∷ []) ∷ [])
      ∷ rows_under widest (tonnes_on 4 (0 ∷ 2 ∷ []) ∷ tonnes_on 1 (0 ∷ 1 ∷ []) ∷ [])
      ∷ [];
  lists = [];
}

abbrev pub empty_worked : Worked
empty_worked = record { book = []; split = []; excesses = []; dividings = rows_under lowest [] ∷ []; lists = list_at 1 [] ∷ [] }

abbrev pub worked_books : List Worked
worked_books = harbour_worked ∷ double_worked ∷ fork_worked ∷ empty_worked ∷ []

abbrev pub HasExcess : Tally → ExcessOf → Type 0
HasExcess t e = Chain t e.chain × (excess t e.chain ≡ e.tonnes)

pub record HasList (t : Tally) (l : ListAt) : Type 0 where
  pub listing : Listing t l.floor [] (map (λ r. r.chain) l.list)
  pub figures : AllByRecursion (λ r. figure t r.chain ≡ r.tonnes) l.list

pub record Stands (k : Worked) : Type 0 where
  pub well_formed : WellFormed k.book
  pub balanced : Balanced k.book
  pub split : Split k.book k.split
  pub excesses : AllByRecursion (HasExcess k.book) k.excesses
  pub dividings : AllByRecursion (λ d. Dividing d.rule k.book d.rows) k.dividings
  pub lists : AllByRecursion (HasList k.book) k.lists

pub record WorkedBooksStand : Type 0 where
  pub books : AllByRecursion Stands worked_books
  pub struck_well_formed : WellFormed struck_harbour
  pub struck_differs : Differs struck_harbour 2
  pub struck_lowest : (b : ℕ) → b < 2 → Differs struck_harbour b → ⊥
  pub struck_in : in_total struck_harbour 2 ≡ 50
  pub struck_out : out_total struck_harbour 2 ≡ 40
  pub struck_unbalanced : Balanced struck_harbour → ⊥
