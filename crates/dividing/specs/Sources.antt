-- Where the next row begins. Assumes nothing.
--   SourceOf       the account that a line leaves where that is an origin and the line is open, and else none
--   LowestSource   the lowest origin that has an open line
--   NextSource     that account, or none where nothing is left on any line
use Rattle.std.specs.Prelude.{◌≡◌, ℕ, ◌<◌, List, Some, None, Option, slice_index}
use Rattle.book.specs.Tally.{Tally}
use Rattle.flow.specs.Chains.{Origin}
use Rattle.flow.specs.Rules.{Open}

abbrev pub SourceOf : Tally → List ℕ → ℕ → Option ℕ → Type 0
SourceOf t left n (Some a) = Origin t a × Open t left a n
SourceOf t left n None = (b : ℕ) → Origin t b → Open t left b n → ⊥

pub record LowestSource (t : Tally) (left : List ℕ) (a : ℕ) : Type 0 where
  pub origin : Origin t a
  pub some_open : (n : ℕ) × Open t left a n
  pub lowest : (b n : ℕ) → b < a → Origin t b → Open t left b n → ⊥

abbrev pub NextSource : Tally → List ℕ → Option ℕ → Type 0
NextSource t left (Some a) = LowestSource t left a
NextSource t left None = (n : ℕ) → slice_index left n ≡ 0
