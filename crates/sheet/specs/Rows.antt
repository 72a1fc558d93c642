-- A row as it is read from the table of rows. Assumes nothing.
use Rattle.std.specs.Prelude.{ℕ, ◌+◌, ◌*◌, List, take, drop, slice_index}
use Rattle.dividing.specs.Tables.{row_stride}

-- as many lines, behind its entry, as the entry says
abbrev pub row_in : List ℕ → ℕ → List ℕ
row_in rows i = take (slice_index rows (row_stride * i)) (drop (row_stride * i + 1) rows)
