-- Chains of lines. Assumes nothing.
--   longest_chain     a chain has at most so many lines
--   from_of, to_of    the account that a live line leaves, and the one that it enters
--   runs              live lines that run on from an account: each leaves the account that the one before enters
--   is_chain, Chain   1 to 63 live lines, each leaving the account that the line before it enters
--   start, finish     the account that a chain leaves, and the one that it enters at last
--   Origin, Ending    an account that live lines only leave, and one that they only enter
--   Full              a chain from an origin to an end account
use Rattle.std.specs.Prelude.{◌≡◌, ℕ, Bool, true, false, ◌&&◌, List, [], ◌∷◌, length, nat_le}
use Rattle.book.specs.Tally.{Tally, at, is_live}
use Rattle.book.specs.Totals.{any, enters, leaves}
use Rattle.book.specs.declared.entries.Line.{Line}
use Rattle.book.specs.declared.entries.Line.TheVariants.{Live, Struck}

abbrev pub longest_chain : ℕ
longest_chain = 63

abbrev pub from_of : Line → ℕ
from_of (Live from to amount) = from
from_of Struck = 0

abbrev pub to_of : Line → ℕ
to_of (Live from to amount) = to
to_of Struck = 0

abbrev pub runs : Tally → ℕ → List ℕ → Bool
runs t a [] = true
runs t a (n ∷ ns) = leaves a (at t n) && runs t (to_of (at t n)) ns

abbrev pub linked : Tally → List ℕ → Bool
linked t [] = false
linked t (n ∷ ns) = is_live (at t n) && runs t (to_of (at t n)) ns

abbrev pub is_chain : Tally → List ℕ → Bool
is_chain t c = nat_le (length c) longest_chain && linked t c

abbrev pub Chain : Tally → List ℕ → Type 0
Chain t c = is_chain t c ≡ true

abbrev pub start : Tally → List ℕ → ℕ
start t [] = 0
start t (n ∷ ns) = from_of (at t n)

-- where lines that run on from an account come to
abbrev pub run_to : Tally → ℕ → List ℕ → ℕ
run_to t a [] = a
run_to t a (n ∷ ns) = run_to t (to_of (at t n)) ns

abbrev pub finish : Tally → List ℕ → ℕ
finish t c = run_to t (start t c) c

pub record Origin (t : Tally) (a : ℕ) : Type 0 where
  pub left : any (leaves a) t ≡ true
  pub unentered : any (enters a) t ≡ false

pub record Ending (t : Tally) (a : ℕ) : Type 0 where
  pub entered : any (enters a) t ≡ true
  pub unleft : any (leaves a) t ≡ false

pub record Full (t : Tally) (c : List ℕ) : Type 0 where
  pub chain : Chain t c
  pub origin : Origin t (start t c)
  pub ending : Ending t (finish t c)
