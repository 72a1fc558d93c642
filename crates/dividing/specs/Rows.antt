-- What writing one row leaves. Assumes nothing.
--   Followed   the line that a rule names at an account, which is open, the account that it enters and its tonnes left
--   Walked     the lines of the walk from an account, and the least tonnes left along it
--   RowPut     the next row stands from an entry on, its length first, and is taken off the tonnes left
--   NextPut    the next row is put and its tonnes are answered; or none is put and no entry changed, where nothing is left on any line
use Rattle.std.specs.Prelude.{◌≡◌, ℕ, ◌<◌, ◌≤◌, List, [], ◌∷◌, Some, None, Option, length, slice_index}
use Rattle.book.specs.Overlay.{laid}
use Rattle.book.specs.Limits.{accounts}
use Rattle.book.specs.Tally as tally
use Rattle.book.specs.Tally.{Tally}
use Rattle.flow.specs.Chains.{longest_chain, to_of}
use Rattle.flow.specs.Dividing.{Walk, least_left, IsRow, off}
use Rattle.flow.specs.Rules.{Choice, Open}
use Rattle.flow.specs.Splits.{Row}

pub record Followed (choice : Choice) (t : Tally) (left : List ℕ) (account : ℕ) (walked : List ℕ) (line to tonnes : ℕ) : Type 0 where
  pub named : line ≡ choice t left account walked
  pub is_open : Open t left account line
  pub entered : to ≡ to_of (tally.at t line)
  pub rising : account < to
  pub placed : to < accounts
  pub tonnes_left : tonnes ≡ slice_index left line

pub record Walked (choice : Choice) (t : Tally) (left : List ℕ) (start : ℕ) (lines : List ℕ) (least : ℕ) : Type 0 where
  pub walk : Walk choice t left start [] lines
  pub short : length lines ≤ longest_chain
  pub least_left_is : least ≡ least_left left lines

pub record RowPut (choice : Choice) (t : Tally) (left : List ℕ) (at : ℕ) (before : List ℕ) (tonnes : ℕ) (left_after after : List ℕ) : Type 0 where
  pub row : Row
  pub is_row : IsRow choice t left row
  pub tonnes_so : tonnes ≡ row.tonnes
  pub taken_off : left_after ≡ off left row.tonnes row.chain
  pub short : length row.chain ≤ longest_chain
  pub table : after ≡ laid before at (length row.chain ∷ row.chain)

abbrev pub NextPut : Choice → Tally → List ℕ → ℕ → List ℕ → Option ℕ → List ℕ → List ℕ → Type 0
NextPut choice t left at before (Some tonnes) left_after after = RowPut choice t left at before tonnes left_after after
NextPut choice t left at before None left_after after = ((n : ℕ) → slice_index left n ≡ 0) × (after ≡ before)
