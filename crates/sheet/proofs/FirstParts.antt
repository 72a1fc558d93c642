-- A step on the first parts of a page and of the tables is a step on the whole of them. Assumes nothing.
use Rattle.std.proofs.Common.{◌≡◌, ℕ, ◌≤◌, List, [], ◌++◌, map, length, drop, Some, None, Ok, Err, Option, Result, sym, refl, ap, ◌∙◌, subst, arith}
use Rattle.std.proofs.lemmas.List.{length-append, length-map, length-take-le, take-append-drop}
use Rattle.std.specs.Array.{IsFirstChunk}
use Rattle.book.specs.Outcome.{Outcome, answers, refuses, stopped}
use Rattle.book.specs.Totals.{balance_stops}
use Rattle.dividing.specs.Tables.{table_entries, table_tonnes}
use Rattle.sheet.specs.Commands.{post, amend, strike, clear, note, list, divide}
use Rattle.sheet.specs.Reading.{Reading, end, read, refused, reading}
use Rattle.sheet.specs.declared.command.Fault.{Fault}
use Rattle.sheet.specs.Statements.{State, shortest_page}
use Rattle.sheet.specs.Stepping.{Kept, Filled, Touched, Stepped}
use Rattle.sheet.proofs.TableRows.{written_on, over_on}

pub first_part : (xs front : List ℕ) (k : ℕ) → IsFirstChunk xs front k → front ++ drop k xs ≡ xs
first_part xs front k first = ap (λ z. z ++ drop k xs) first.same ∙ take-append-drop k xs

first_long : (xs front : List ℕ) (k : ℕ) → IsFirstChunk xs front k → length front ≡ k
first_long xs front k first = ap length first.same ∙ length-take-le k xs first.enough

module _ (a : State) (rows tonnes rows_after tonnes_after more_rows more_tonnes : List ℕ) (entries : table_entries ≤ length rows) (weights : table_tonnes ≤ length tonnes) where
  kept_on : Kept rows tonnes rows_after tonnes_after → Kept (rows ++ more_rows) (tonnes ++ more_tonnes) (rows_after ++ more_rows) (tonnes_after ++ more_tonnes)
  kept_on (r, w) = (ap (λ z. z ++ more_rows) r, ap (λ z. z ++ more_tonnes) w)

  filled_on : (rule : ℕ) (o : Outcome) → Filled a.tally rule rows tonnes rows_after tonnes_after o → Filled a.tally rule (rows ++ more_rows) (tonnes ++ more_tonnes) (rows_after ++ more_rows) (tonnes_after ++ more_tonnes) o
  filled_on rule (refuses layer n vs) kept = kept_on kept
  filled_on rule (answers vs) (split, dividing, (few, short), table, on-rows) = (
    split,
    dividing,
    (few, short),
    ap (λ z. z ++ more_rows) table ∙ sym (written_on rows more_rows 0 split short (omega (arith, few, entries))),
    ap (λ z. z ++ more_tonnes) on-rows ∙ sym (over_on tonnes more_tonnes (map (λ r. r.tonnes) split) (omega (arith, length-map split (λ r. r.tonnes), few, weights))),
  )

  touched_on : (x : Reading) → Touched a.tally rows tonnes rows_after tonnes_after x → Touched a.tally (rows ++ more_rows) (tonnes ++ more_tonnes) (rows_after ++ more_rows) (tonnes_after ++ more_tonnes) x
  touched_on (read (divide rule) q) filled = filled_on rule (stopped (balance_stops a.tally) (answers [])) filled
  touched_on (read (post from to amount) q) kept = kept_on kept
  touched_on (read (amend line amount) q) kept = kept_on kept
  touched_on (read (strike line) q) kept = kept_on kept
  touched_on (read clear q) kept = kept_on kept
  touched_on (read (note text) q) kept = kept_on kept
  touched_on (read (list floor) q) kept = kept_on kept
  touched_on end kept = kept_on kept
  touched_on (refused n vs) kept = kept_on kept

  stepped_on : (b : State) (page page_after more : List ℕ) (x : Option ℕ) → Stepped a page rows tonnes (Ok x) b page_after rows_after tonnes_after → Stepped a (page ++ more) (rows ++ more_rows) (tonnes ++ more_tonnes) (Ok x) b (page_after ++ more) (rows_after ++ more_rows) (tonnes_after ++ more_tonnes)
  stepped_on b page page_after more None (over', same-state, same-page, kept) = (over', same-state, ap (λ z. z ++ more) same-page, kept_on kept)
  stepped_on b page page_after more (Some n) (within, (l, count, printed), touched) = (
    omega (arith, within, length-append page more),
    (l, count, record { page = ap (λ z. z ++ more) printed.page ∙ sym (over_on page more l (omega (arith, within, count))); prints = printed.prints; law = printed.law }),
    touched_on (reading a.sheet_bytes a.place) touched,
  )

pub stepped_whole : (a b : State) (page rows tonnes p r w p_after r_after w_after : List ℕ) (x : Option ℕ) → IsFirstChunk page p shortest_page → IsFirstChunk rows r table_entries → IsFirstChunk tonnes w table_tonnes → Stepped a p r w (Ok x) b p_after r_after w_after → Stepped a page rows tonnes (Ok x) b (p_after ++ drop shortest_page page) (r_after ++ drop table_entries rows) (w_after ++ drop table_tonnes tonnes)
stepped_whole a b page rows tonnes p r w p_after r_after w_after x on-page on-rows on-tonnes stepped =
    let pp : List ℕ = p_after ++ drop shortest_page page in
    let rr : List ℕ = r_after ++ drop table_entries rows in
    let ww : List ℕ = w_after ++ drop table_tonnes tonnes in
    subst (λ z. Stepped a z rows tonnes (Ok x) b pp rr ww) (first_part page p shortest_page on-page)
    (subst (λ z. Stepped a (p ++ drop shortest_page page) z tonnes (Ok x) b pp rr ww) (first_part rows r table_entries on-rows)
    (subst (λ z. Stepped a (p ++ drop shortest_page page) (r ++ drop table_entries rows) z (Ok x) b pp rr ww) (first_part tonnes w table_tonnes on-tonnes)
    (stepped_on a r w r_after w_after (drop table_entries rows) (drop table_tonnes tonnes) (omega (arith, first_long rows r table_entries on-rows)) (omega (arith, first_long tonnes w table_tonnes on-tonnes)) b p p_after (drop shortest_page page) x stepped)))

-- a step that is refused on first parts leaves the whole
pub refused_whole : (a : State) (page rows tonnes page_after rows_after tonnes_after : List ℕ) (r : Result (Option ℕ) Fault) (e : Fault) → r ≡ Err e → page_after ≡ page → rows_after ≡ rows → tonnes_after ≡ tonnes → Stepped a page rows tonnes r a page_after rows_after tonnes_after
refused_whole a page rows tonnes page_after rows_after tonnes_after r e is on-page on-rows on-tonnes =
    subst (λ z. Stepped a page rows tonnes z a page_after rows_after tonnes_after) (sym is) (refl, on-page, (on-rows, on-tonnes))
