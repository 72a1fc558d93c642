-- The numbers of a range that pass a test. Assumes nothing.
--   lowest_of   the lowest of the `count` numbers from i on that passes, or else the number given
--   some_of     whether one of them passes
use Rattle.std.specs.Prelude.{ℕ, zero, suc, ◌+◌, Bool, false, cond, ◌||◌}

abbrev pub lowest_of : (ℕ → Bool) → ℕ → ℕ → ℕ → ℕ
lowest_of p none i zero = none
lowest_of p none i (suc count) = cond (p i) i (lowest_of p none (i + 1) count)

abbrev pub some_of : (ℕ → Bool) → ℕ → ℕ → Bool
some_of p i zero = false
some_of p i (suc count) = p i || some_of p (i + 1) count
