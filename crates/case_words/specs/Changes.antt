-- Changes that words name: a call, once or so many times. Assumes nothing.
--   ReadsChange   a first word and the words that follow it make a change
--   FailsChange   they make none, and the error says why
use Rattle.std.specs.Prelude.{◌≡◌, ◌≢◌, ◌⊎◌, ℕ, List, Some, codes}
use Rattle.std.specs.Borrow.{Bor}
use Rattle.std.specs.declared.str.SplitWhitespace.{SplitWhitespace}
use Rattle.std.specs.Str.Iter.{split_whitespace_steps}
use Rattle.anyhow.specs.declared.Error.{Error}
use Rattle.case_words.specs.declared.calls.Change.{Change}
use Rattle.case_words.specs.Words.{LacksWord}
use Rattle.case_words.specs.Calls.{Reads, Lacks, ReadsCall, FailsCall}

abbrev pub ReadsChange : List ℕ → SplitWhitespace → Change → SplitWhitespace → Type 0
ReadsChange name s change t = ((name ≢ codes "times") × (change.times ≡ 1) × ReadsCall name s change.call t)
    ⊎ ((name ≡ codes "times") × ((a : SplitWhitespace) × (w : Bor (List ℕ)) × (b : SplitWhitespace)
    × Reads 16 s change.times a × split_whitespace_steps a (Some w) b × ReadsCall w.now b change.call t))

abbrev pub FailsNamed : SplitWhitespace → Error → SplitWhitespace → Type 0
FailsNamed s e t = (LacksWord s e × (t ≡ s)) ⊎ ((w : Bor (List ℕ)) × (a : SplitWhitespace) × split_whitespace_steps s (Some w) a × FailsCall w.now a e t)

abbrev pub FailsChange : List ℕ → SplitWhitespace → Error → SplitWhitespace → Type 0
FailsChange name s e t = ((name ≢ codes "times") × FailsCall name s e t)
    ⊎ ((name ≡ codes "times") × (Lacks 16 s e t ⊎ ((n : ℕ) × (a : SplitWhitespace) × Reads 16 s n a × FailsNamed a e t)))
