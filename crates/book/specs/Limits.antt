-- The limits of a book: how many lines, the highest account, the greatest amount. Assumes nothing.
use Rattle.std.specs.Prelude.{ℕ}

abbrev pub most_lines : ℕ
most_lines = 256

abbrev pub highest_account : ℕ
highest_account = 63

-- how many accounts there are, from 0 up
abbrev pub accounts : ℕ
accounts = 64

abbrev pub greatest_amount : ℕ
greatest_amount = 1_000_000
