-- Calls that words name. Assumes nothing.
--   Reads, Lacks   the first word that is left is a number of so many bits; or it is none, or no word is left
--   LacksOneOf     of numbers of so many bits, read one after the other, one is missing or is no number
--   ReadsCall      a name and the words that follow it make a call
--   FailsCall      they make none, and the error says why
use Rattle.std.specs.Prelude.{◌≡◌, ◌≢◌, ◌⊎◌, ℕ, List, [], ◌∷◌, None, Some, codes}
use Rattle.std.specs.declared.str.SplitWhitespace.{SplitWhitespace}
use Rattle.anyhow.specs.declared.Error.{Error}
use Rattle.anyhow.specs.Error.{IsMadeOf}
use Rattle.book.specs.declared.Call.{Call}
use Rattle.book.specs.declared.Call.TheVariants.{Post, Amend, Strike, Clear}
use Rattle.case_words.specs.Words.{parses, ReadsNumber, LacksNumber}

abbrev pub Reads : ℕ → SplitWhitespace → ℕ → SplitWhitespace → Type 0
Reads k s n t = ReadsNumber (parses k) s n t

abbrev pub Lacks : ℕ → SplitWhitespace → Error → SplitWhitespace → Type 0
Lacks k s e t = LacksNumber (parses k) (λ _. None) s e t

abbrev pub LacksOneOf : List ℕ → SplitWhitespace → Error → SplitWhitespace → Type 0
LacksOneOf [] s e t = ⊥
LacksOneOf (k ∷ ks) s e t = Lacks k s e t ⊎ ((n : ℕ) × (u : SplitWhitespace) × Reads k s n u × LacksOneOf ks u e t)

abbrev pub ReadsCall : List ℕ → SplitWhitespace → Call → SplitWhitespace → Type 0
ReadsCall name s (Post from to amount) t = (name ≡ codes "post")
    × ((a : SplitWhitespace) × (b : SplitWhitespace) × Reads 8 s from a × Reads 8 a to b × Reads 32 b amount t)
ReadsCall name s (Amend line amount) t = (name ≡ codes "amend") × ((a : SplitWhitespace) × Reads 16 s line a × Reads 32 a amount t)
ReadsCall name s (Strike line) t = (name ≡ codes "strike") × Reads 16 s line t
ReadsCall name s Clear t = (name ≡ codes "clear") × (t ≡ s)

abbrev pub NamesNoCall : List ℕ → Type 0
NamesNoCall name = (name ≢ codes "post") × (name ≢ codes "amend") × (name ≢ codes "strike") × (name ≢ codes "clear")

abbrev pub FailsCall : List ℕ → SplitWhitespace → Error → SplitWhitespace → Type 0
FailsCall name s e t = ((name ≡ codes "post") × LacksOneOf (8 ∷ 8 ∷ 32 ∷ []) s e t)
    ⊎ ((name ≡ codes "amend") × LacksOneOf (16 ∷ 32 ∷ []) s e t)
    ⊎ ((name ≡ codes "strike") × LacksOneOf (16 ∷ []) s e t)
    ⊎ (NamesNoCall name × (t ≡ s) × IsMadeOf (Some (codes "no such call")) e)
