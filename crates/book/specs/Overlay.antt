-- A list with another laid over it. Assumes nothing.
--   laid   from a place on
--   over   from its start
use Rattle.std.specs.Prelude.{ℕ, ◌+◌, List, ◌++◌, length, take, drop}

abbrev pub laid : List ℕ → ℕ → List ℕ → List ℕ
laid table at new = take at table ++ (new ++ drop (at + length new) table)

abbrev pub over : List ℕ → List ℕ → List ℕ
over table new = new ++ drop (length new) table
