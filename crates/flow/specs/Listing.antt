-- The order on lists of line numbers, and the list of greatest certain chains. Assumes nothing.
--   Before       by the first differing number; a list stands before its own extensions
--   FirstAfter   the first greatest certain chain that stands after a list
--   NoneAfter    no greatest certain chain stands after a list
--   Listing      the chains got by handing each back, from a list to the end
--   Ascends      each stands before the next
use Rattle.std.specs.Prelude.{◌≡◌, ℕ, ◌<◌, ◌⊎◌, List, [], ◌∷◌}
use Rattle.book.specs.Tally.{Tally}
use Rattle.flow.specs.Splits.{Greatest}

abbrev pub Before : List ℕ → List ℕ → Type 0
Before [] [] = ⊥
Before [] (n ∷ d) = Unit {0}
Before (m ∷ c) [] = ⊥
Before (m ∷ c) (n ∷ d) = (m < n) ⊎ ((m ≡ n) × Before c d)

pub record FirstAfter (t : Tally) (w : ℕ) (given c : List ℕ) : Type 0 where
  pub greatest : Greatest t w c
  pub after : Before given c
  pub first : (d : List ℕ) → Greatest t w d → Before given d → Before d c → ⊥

abbrev pub NoneAfter : Tally → ℕ → List ℕ → Type 0
NoneAfter t w given = (d : List ℕ) → Greatest t w d → Before given d → ⊥

abbrev pub Listing : Tally → ℕ → List ℕ → List (List ℕ) → Type 0
Listing t w given [] = NoneAfter t w given
Listing t w given (c ∷ cs) = FirstAfter t w given c × Listing t w c cs

abbrev pub Ascends : List ℕ → List (List ℕ) → Type 0
Ascends given [] = Unit {0}
Ascends given (c ∷ cs) = Before given c × Ascends c cs
