-- The first certain chain after a list, and the search for it from the longest certain beginning of the list down. Assumes nothing.
--   FirstCertain   the first certain chain that stands after a list
--   NoCertain      no certain chain stands after a list
--   Barren         none that begins as the list does, so far
--   Open           a beginning to branch off from: it is certain, and no chain that keeps one number more is left
--   lowest_after   the lowest number to branch off with, behind a beginning
use Rattle.std.specs.Prelude.{ℕ, ◌+◌, ◌<◌, ◌≤◌, cond, List, ◌++◌, length, take, nat_lt, slice_index}
use Rattle.book.specs.Tally.{Tally}
use Rattle.flow.specs.Listing.{Before}
use Rattle.listing.specs.Growth.{CertainChain}

pub record FirstCertain (t : Tally) (w : ℕ) (given c : List ℕ) : Type 0 where
  pub certain : CertainChain t w c
  pub after : Before given c
  pub first : (d : List ℕ) → CertainChain t w d → Before given d → Before d c → ⊥

abbrev pub NoCertain : Tally → ℕ → List ℕ → Type 0
NoCertain t w given = (d : List ℕ) → CertainChain t w d → Before given d → ⊥

abbrev pub Barren : Tally → ℕ → List ℕ → ℕ → Type 0
Barren t w given k = (rest : List ℕ) → CertainChain t w (take k given ++ rest) → Before given (take k given ++ rest) → ⊥

pub record Open (t : Tally) (w : ℕ) (given : List ℕ) (k : ℕ) : Type 0 where
  pub within : k ≤ length given
  pub certain : 0 < k → CertainChain t w (take k given)
  pub barren : k < length given → Barren t w given (k + 1)

abbrev pub lowest_after : List ℕ → ℕ → ℕ
lowest_after given k = cond (nat_lt k (length given)) (slice_index given k + 1) 0
