-- Tables that are lent to a call: which entries it may fill. Assumes nothing.
--   filler     what every entry holds before the call
--   in_row     whether the entry at k is the length of one of the first `count` rows, or a line that it counts
--   EntriesKept, TonnesKept   all other entries, and all tonnes but the first `count`, hold the filler
use Rattle.std.specs.Prelude.{◌≡◌, ℕ, ◌-◌, ◌/◌, ◌%◌, ◌≤◌, Bool, ◌&&◌, ◌||◌, ◌==◌, nat_lt, nat_le, IsTrue, List, slice_index, EachIndex}
use Rattle.dividing.specs.Tables.{row_stride}

abbrev pub filler : ℕ
filler = 61_166

abbrev pub in_row : List ℕ → ℕ → ℕ → Bool
in_row rows count k = nat_lt (k / row_stride) count && nat_le (k % row_stride) (slice_index rows (k - k % row_stride))

abbrev pub EntriesKept : List ℕ → ℕ → Type 0
EntriesKept rows count = EachIndex rows (λ k. IsTrue (in_row rows count k || slice_index rows k == filler))

abbrev pub TonnesKept : List ℕ → ℕ → Type 0
TonnesKept tonnes count = EachIndex tonnes (λ k. count ≤ k → slice_index tonnes k ≡ filler)
