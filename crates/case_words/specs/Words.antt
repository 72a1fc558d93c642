-- The words of a line: read, or why they are not. Assumes nothing.
--   HasWord, LacksWord   a word is left; or none is, and the error says so
--   ReadsNumber          the first word that is left is read, and is a number
--   MisreadsNumber       it is read, and is no number, and the error says so
--   LacksNumber          no word is left, or the first is no number
--   ReadsEach            each word that is left gives the value at its place
--   parses               what a text gives as a number of so many bits
use Rattle.std.specs.Prelude.{◌≡◌, ℕ, Option, Some, List, Result, Ok, Err, ◌⊎◌, codes}
use Rattle.std.specs.declared.str.SplitWhitespace.{SplitWhitespace}
use Rattle.std.specs.Char.{is_not_whitespace}
use Rattle.std.specs.Str.{NoCharPasses}
use Rattle.std.specs.Str.Iter.{split_whitespace_rest, split_whitespace_steps}
use Rattle.std.specs.Borrow.{Bor}
use Rattle.std.specs.Iterator.{Drains}
use Rattle.std.specs.List.{AllZip}
use Rattle.std.specs.Str.Parse.{ParsesUnsigned, ExplainsUnsignedError, HasUnsignedDigitsIfOk}
use Rattle.std.specs.declared.num.ParseIntError.{ParseIntError}
use Rattle.anyhow.specs.declared.Error.{Error}
use Rattle.anyhow.specs.Error.{IsMadeOf}

abbrev pub HasWord : SplitWhitespace → Type 0
HasWord s = (word : Bor (List ℕ)) × (t : SplitWhitespace) × split_whitespace_steps s (Some word) t

pub record LacksWord (s : SplitWhitespace) (e : Error) : Type 0 where
  pub none_left : NoCharPasses is_not_whitespace (split_whitespace_rest s)
  pub said : IsMadeOf (Some (codes "a word is missing")) e

module _ {N E : Type 0} (gives : List ℕ → Result N E → Type 0) where
  pub record ReadsNumber (s : SplitWhitespace) (n : N) (t : SplitWhitespace) : Type 0 where
    pub word : Bor (List ℕ)
    pub first : split_whitespace_steps s (Some word) t
    pub number : gives word.now (Ok n)

  pub record MisreadsNumber (output : E → Option (List ℕ)) (s : SplitWhitespace) (e : Error) (t : SplitWhitespace) : Type 0 where
    pub word : Bor (List ℕ)
    pub first : split_whitespace_steps s (Some word) t
    pub fault : E
    pub no_number : gives word.now (Err fault)
    pub said : IsMadeOf (output fault) e

  abbrev pub LacksNumber : (E → Option (List ℕ)) → SplitWhitespace → Error → SplitWhitespace → Type 0
  LacksNumber output s e t = (LacksWord s e × (t ≡ s)) ⊎ MisreadsNumber output s e t

pub record ReadsEach {T : Type 0} (gives : Bor (List ℕ) → T → Type 0) (s : SplitWhitespace) (values : List T) : Type 0 where
  pub words : List (Bor (List ℕ))
  pub all : Drains split_whitespace_steps s words
  pub read : AllZip gives words values

abbrev pub parses : ℕ → List ℕ → Result ℕ ParseIntError → Type 0
parses k bs r = ParsesUnsigned k 10 bs r × ExplainsUnsignedError 10 bs r × HasUnsignedDigitsIfOk bs r
