-- Dividing a book under a rule, as a relation between the book and the rows. Assumes nothing.
--   amounts      the tonnes on each of the 256 lines: a live line's amount, else 0
--   Walk         the lines followed under a rule from an account to an end account
--   least_left   the least tonnes left along a walk
--   IsRow        the next row: the walk from the lowest origin with tonnes left on a line out, with the least left along it
--   off          the tonnes left after a row is taken off its lines
--   Divides      the rows from given tonnes left until nothing is left
--   Dividing     the rows of a book under a rule
use Rattle.std.specs.Prelude.{◌≡◌, ℕ, ◌-◌, ◌<◌, min, false, List, [], ◌∷◌, ◌++◌, map, length, replicate, slice_index, slice_set}
use Rattle.book.specs.Limits.{most_lines}
use Rattle.book.specs.Tally.{Tally, at}
use Rattle.book.specs.Totals.{amount_of, any, leaves}
use Rattle.flow.specs.Chains.{Origin, to_of}
use Rattle.flow.specs.Rules.{Choice, Open}
use Rattle.flow.specs.Splits.{Row}

abbrev pub amounts : Tally → List ℕ
amounts t = map amount_of t ++ replicate (most_lines - length t) 0

abbrev pub Walk : Choice → Tally → List ℕ → ℕ → List ℕ → List ℕ → Type 0
Walk choice t left a walked [] = any (leaves a) t ≡ false
Walk choice t left a walked (n ∷ ns) =
    (n ≡ choice t left a walked) × Open t left a n × Walk choice t left (to_of (at t n)) (walked ++ n ∷ []) ns

abbrev pub least_left : List ℕ → List ℕ → ℕ
least_left left [] = 0
least_left left (n ∷ []) = slice_index left n
least_left left (n ∷ m ∷ ns) = min (slice_index left n) (least_left left (m ∷ ns))

pub record IsRow (choice : Choice) (t : Tally) (left : List ℕ) (row : Row) : Type 0 where
  pub account : ℕ
  pub origin : Origin t account
  pub some_open : (n : ℕ) × Open t left account n
  pub lowest : (b n : ℕ) → b < account → Origin t b → Open t left b n → ⊥
  pub walk : Walk choice t left account [] row.chain
  pub least : row.tonnes ≡ least_left left row.chain

abbrev pub off : List ℕ → ℕ → List ℕ → List ℕ
off left tonnes [] = left
off left tonnes (n ∷ ns) = slice_set (off left tonnes ns) n (slice_index left n - tonnes)

abbrev pub Divides : Choice → Tally → List ℕ → List Row → Type 0
Divides choice t left [] = (n : ℕ) → slice_index left n ≡ 0
Divides choice t left (row ∷ rows) = IsRow choice t left row × Divides choice t (off left row.tonnes row.chain) rows

abbrev pub Dividing : Choice → Tally → List Row → Type 0
Dividing choice t rows = Divides choice t (amounts t) rows
