-- What a run of a statement's steps leaves. Assumes nothing.
--   line_bytes   the bytes of lines, one after the other
--   Added        one step's line is added to the output, or the statement is over
--   Ran          a run of at most so many steps: the lines printed are added to the output
use Rattle.std.specs.Prelude.{◌≡◌, ℕ, ◌<◌, Bool, true, false, List, ◌++◌, length, Ok, Err, Result}
use Rattle.sheet.specs.Statements.{State, Prints, Over, Steps, Rest}
use Rattle.std.specs.declared.alloc.AllocError.{AllocError}
use Rattle.std.specs.List.{flat_map}

abbrev pub line_bytes : List (List ℕ) → List ℕ
line_bytes ls = flat_map (λ l. l) ls

abbrev pub Added : State → List ℕ → Result Bool AllocError → State → List ℕ → Type 0
Added a before (Ok false) b after = (l : List ℕ) × Prints a l b × (after ≡ before ++ l)
Added a before (Ok true) b after = Over a × (b ≡ a) × (after ≡ before)
Added a before (Err e) b after = (b ≡ a) × (after ≡ before)

-- how a run stopped: at the end of the statement, after as many steps as were asked for, or for want of memory
abbrev pub Stopped : ℕ → State → List (List ℕ) → Result Bool AllocError → Type 0
Stopped most b ls (Ok false) = length ls ≡ most
Stopped most b ls (Ok true) = (length ls < most) × Over b
Stopped most b ls (Err e) = Unit {0}

-- the lines printed lead from one state to the other, so that they, and the rest after them, are the rest of the statement before
pub record Ran (a : State) (before : List ℕ) (most : ℕ) (r : Result Bool AllocError) (b : State) (after : List ℕ) : Type 0 where
  pub printed : List (List ℕ)
  pub steps : Steps a printed b
  pub output : after ≡ before ++ line_bytes printed
  pub stopped : Stopped most b printed r
  pub law : (ls : List (List ℕ)) → Rest b ls → Rest a (printed ++ ls)
