-- What chains and rows have for printing: few lines, each posted. Assumes nothing.
use Rattle.std.proofs.Common.{◌≡◌, ℕ, ◌*◌, ◌<◌, ◌≤◌, List, [], map, length, get_or, drop, ap, ◌∙◌, subst, arith}
use Rattle.std.proofs.ByRecursion.{All-weaker, All-get_or}
use Rattle.std.proofs.lemmas.List.{get_or_append_left, get_or-map, length-map}
use Rattle.std.proofs.lemmas.List.Sums.{count_by-le-length}
use Rattle.std.proofs.lemmas.Bool.{cond-false, or_from, le-ltb}
use Rattle.std.specs.List.{AllByRecursion}
use Rattle.book.specs.Limits.{most_lines}
use Rattle.book.specs.Outcome.{answers, stopped}
use Rattle.book.specs.Tally.{Tally, is_live, WellFormed}
use Rattle.book.specs.Totals.{balance_stops}
use Rattle.dividing.specs.Filling.{Filled}
use Rattle.dividing.specs.Tables.{row_stride, table_entries, table_tonnes, divide_stopped}
use Rattle.flow.proofs.ChainFacts.{chain_within, chain_short}
use Rattle.flow.specs.Chains.{longest_chain, Chain, Full}
use Rattle.flow.specs.Rules.{Choice}
use Rattle.sheet.specs.Commands.{divide}
use Rattle.sheet.specs.Reading.{read}
use Rattle.sheet.specs.Rows.{row_in}
use Rattle.sheet.specs.Statements.{State, rule_of, row_of, Rowed, Divides, Obeyed}
use Rattle.sheet.specs.Stepping.{Fitting, Filled as TablesFilled, Touched}
use Rattle.sheet.proofs.TableRows.{row_length, row_lines, row_short}

pub chain-posted : (t : Tally) (c : List ℕ) → WellFormed t → Chain t c → AllByRecursion (λ n. n < most_lines) c
chain-posted t c formed chain = All-weaker (λ n. n < length t) (λ n. n < most_lines) (λ n h. omega (arith, formed.0)) c (chain_within t c chain)

module _ (choice : Choice) (t : Tally) (formed : WellFormed t) (rows tonnes : List ℕ) (n : ℕ) (rows_after tonnes_after : List ℕ) (filled : Filled choice t rows tonnes n rows_after tonnes_after) where
  pub filled_fitting : Fitting filled.rows
  filled_fitting = (
    omega (arith, filled.few, count_by-le-length is_live t, formed.0),
    All-weaker (λ r. Full t r.chain) (λ r. length r.chain ≤ longest_chain)
        (λ r full. chain_short t r.chain full.chain)
        filled.rows filled.split.full,
  )

module _ (choice : Choice) (t : Tally) (formed : WellFormed t) (rows tonnes : List ℕ) (n : ℕ) (rows_after tonnes_after : List ℕ) (filled : Filled choice t rows tonnes n rows_after tonnes_after) (entries : table_entries ≤ length rows) (i : ℕ) (within : i < n) where
  fitting : Fitting filled.rows
  fitting = filled_fitting choice t formed rows tonnes n rows_after tonnes_after filled

  inside : i < length filled.rows
  inside = omega (arith, filled.counted)

  fits : row_stride * length filled.rows ≤ length rows
  fits = omega (arith, fitting.0)

  pub row_inside : i < table_tonnes
  row_inside = omega (arith, fitting.0, inside)

  pub row_in_lem : row_in rows_after i ≡ (row_of filled.rows i).chain
  row_in_lem = ap (λ z. row_in z i) filled.table ∙ row_lines rows filled.rows fitting.1 fits i inside

  pub row_entry : get_or rows_after (row_stride * i) 0 ≤ longest_chain
  row_entry =
      omega (arith, ap (λ z. get_or z (row_stride * i) 0) filled.table ∙ row_length rows filled.rows fitting.1 fits i inside, row_short rows filled.rows fitting.1 fits i inside)

  pub row_chain : Chain t (row_of filled.rows i).chain
  row_chain = (All-get_or (λ r. Full t r.chain) filled.rows i _ inside filled.split.full).chain

  pub row_weight : get_or tonnes_after i 0 ≡ (row_of filled.rows i).tonnes
  row_weight =
      ap (λ z. get_or z i 0) filled.tonnes
      ∙ (get_or_append_left (map (λ r. r.tonnes) filled.rows) (drop (length (map (λ r. r.tonnes) filled.rows)) tonnes) 0 i (omega (arith, length-map filled.rows (λ r. r.tonnes), inside))
      ∙ get_or-map (λ r. r.tonnes) filled.rows i _ 0 inside)

-- of a divide command that is not refused: what it prints, and what its tables hold
module _ (a : State) (formed : WellFormed a.tally) (rule : ℕ) (rows tonnes : List ℕ) (n : ℕ) (rows_after tonnes_after : List ℕ) (filled : Filled (rule_of rule) a.tally rows tonnes n rows_after tonnes_after) (entries : table_entries ≤ length rows) (weights : table_tonnes ≤ length tonnes) (passed : answers [] ≡ divide_stopped a.tally (length rows) (length tonnes) (answers [])) where
  balanced : answers [] ≡ stopped (balance_stops a.tally) (answers [])
  balanced = passed ∙ cond-false _ _ _ (or_from _ _ (le-ltb (length rows) table_entries entries) (le-ltb (length tonnes) table_tonnes weights))

  pub divide_prints : (b : State) (l : List ℕ) (q : ℕ) → Rowed a l b q filled.rows → Obeyed a l b q (divide rule)
  divide_prints b l q rowed = subst (Divides a l b q rule) balanced (filled.rows, filled.dividing, rowed)

  pub divide_fills : (q : ℕ) → Touched a.tally rows tonnes rows_after tonnes_after (read (divide rule) q)
  divide_fills q =
      subst (TablesFilled a.tally rule rows tonnes rows_after tonnes_after) balanced
      (filled.rows, filled.dividing, filled_fitting (rule_of rule) a.tally formed rows tonnes n rows_after tonnes_after filled, filled.table, filled.tonnes)
