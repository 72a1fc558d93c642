-- The rows in the tables, one after the other. Assumes nothing.
--   Filling   the rows so far stand in the tables, and with the rows from the tonnes left they are the dividing
use Rattle.std.proofs.Common.{◌≡◌, ℕ, zero, suc, ◌+◌, ◌*◌, ◌<◌, ◌≤◌, List, [], ◌∷◌, ◌++◌, Some, None, Option, map, length, get_or, take, drop, set, count_by, sym, refl, ap, ◌∙◌, subst, ⊎_elim, arith}
use borrow.Rule.Slice.PartMut.{put_mid, put_same}
use Rattle.std.proofs.lemmas.List.{append_assoc, append-nil, drop-append-le, drop-drop, drop_more, length-drop, length-map, length_push, length-set, length-take, map_push, set_at, take-append-drop}
use Rattle.std.proofs.lemmas.Bool.{cases_lt}
use Rattle.std.proofs.lemmas.List.Sums.{count_by-le-length}
use Rattle.book.specs.Limits.{most_lines}
use Rattle.book.specs.Overlay.{laid, over}
use Rattle.book.specs.Tally.{Tally, is_live, WellFormed}
use Rattle.dividing.specs.Filling.{Filled}
use Rattle.dividing.specs.Rows.{RowPut, NextPut}
use Rattle.dividing.specs.Tables.{row_stride, written}
use Rattle.flow.proofs.Divided.{divides_alone, dividing_split, row_lessens}
use Rattle.flow.proofs.TonnesLeft.{open_count, open_count-amounts}
use Rattle.flow.specs.Dividing.{amounts, Divides, Dividing}
use Rattle.flow.specs.Rules.{Choice}
use Rattle.flow.specs.Splits.{Row}

written_push : (table : List ℕ) (i : ℕ) (done : List Row) (row : Row) → written table i (done ++ row ∷ []) ≡ laid (written table i done) (row_stride * (i + length done)) (length row.chain ∷ row.chain)
written_push table i [] row =
    let here : row_stride * i ≡ row_stride * (i + 0) = omega arith in
    ap (λ k. laid table k (length row.chain ∷ row.chain)) here
written_push table i (first ∷ done) row =
    let next : row_stride * (i + 1 + length done) ≡ row_stride * (i + suc (length done)) = omega arith in
    let rest = laid table (row_stride * i) (length first.chain ∷ first.chain) in
    written_push rest (i + 1) done row ∙ ap (λ k. laid (written rest (i + 1) done) k (length row.chain ∷ row.chain)) next

over_push : (table ws : List ℕ) (v : ℕ) → length ws < length table → set (over table ws) (length ws) v ≡ over table (ws ++ v ∷ [])
over_push table ws v fits =
    let next : length ws + 1 ≡ length (ws ++ v ∷ []) = sym (length_push ws v) in
    ap (λ l. set (ws ++ l) (length ws) v) (drop_more table (length ws) 0 fits)
    ∙ (set_at ws (get_or table (length ws) 0) (drop (length ws + 1) table) v (length ws) refl
    ∙ (ap (λ k. ws ++ (v ∷ drop k table)) next ∙ sym (append_assoc ws (v ∷ []) (drop (length (ws ++ v ∷ [])) table))))

-- what is laid over the start of a part is laid into the whole
laid_part : (table new : List ℕ) (at k : ℕ) → at + k ≤ length table → length new ≤ k → take at table ++ (over (take k (drop at table)) new ++ drop k (drop at table)) ≡ laid table at new
laid_part table new at k fits short =
    let part = drop at table in
    let long : length new ≤ length (take k part) = omega (arith, length-take k part, length-drop at table) in
    ap (λ l. take at table ++ l)
    (append_assoc new (drop (length new) (take k part)) (drop k part)
    ∙ ap (λ l. new ++ l)
    (sym (drop-append-le (length new) (take k part) (drop k part) long)
    ∙ (ap (drop (length new)) (take-append-drop k part) ∙ drop-drop (length new) at table)))

numbered_put : (choice : Choice) (t : Tally) (left rows : List ℕ) (at k v : ℕ) (left_after part_after : List ℕ) → k ≡ row_stride → at + row_stride ≤ length rows → RowPut choice t left 0 (take k (drop at rows)) v left_after part_after → RowPut choice t left at rows v left_after (put_mid at k rows part_after)
numbered_put choice t left rows at k v left_after part_after is fits put =
    let new = length put.row.chain ∷ put.row.chain in
    let part = take k (drop at rows) in
    let none : 0 + length new ≡ length new = omega arith in
    let short : length new ≤ k = omega (arith, put.short, is) in
    record {
      row = put.row;
      is_row = put.is_row;
      tonnes_so = put.tonnes_so;
      taken_off = put.taken_off;
      short = put.short;
      table =
          ap (put_mid at k rows) (put.table ∙ ap (λ n. new ++ drop n part) none) ∙ laid_part rows new at k (omega arith) short;
    }

pub numbered_next : (choice : Choice) (t : Tally) (left rows : List ℕ) (at k : ℕ) (r : Option ℕ) (left_after part_after : List ℕ) → k ≡ row_stride → at + row_stride ≤ length rows → NextPut choice t left 0 (take k (drop at rows)) r left_after part_after → NextPut choice t left at rows r left_after (put_mid at k rows part_after)
numbered_next choice t left rows at k None left_after part_after is fits (nothing, same) =
    (nothing, ap (put_mid at k rows) same ∙ put_same at k rows)
numbered_next choice t left rows at k (Some v) left_after part_after is fits put =
    numbered_put choice t left rows at k v left_after part_after is fits put

pub record Filling (choice : Choice) (t : Tally) (rows_before tonnes_before left : List ℕ) (count : ℕ) (rows tonnes : List ℕ) : Type 0 where
  pub done : List Row
  pub goes : (rest : List Row) → Divides choice t left rest → Dividing choice t (done ++ rest)
  pub counted : count ≡ length done
  pub few : count + open_count left ≤ count_by is_live t
  pub table : rows ≡ written rows_before 0 done
  pub sums : tonnes ≡ over tonnes_before (map (λ row. row.tonnes) done)
  pub long : length rows ≡ length rows_before
  pub long_tonnes : length tonnes ≡ length tonnes_before

open_count_some : (ws : List ℕ) (n : ℕ) → 0 < get_or ws n 0 → 0 < open_count ws
open_count_some [] n some = absurd (omega arith)
open_count_some (w ∷ ws) zero some = omega arith
open_count_some (w ∷ ws) (suc n) some = omega (arith, open_count_some ws n some)

module _ (choice : Choice) (t : Tally) (well : WellFormed t) (rows_before tonnes_before : List ℕ) where
  pub filling_none : (left : List ℕ) → left ≡ amounts t → Filling choice t rows_before tonnes_before left 0 rows_before tonnes_before
  filling_none left is = record {
    done = [];
    goes = λ rest d. subst (λ l. Divides choice t l rest) is d;
    counted = refl;
    few = omega (arith, ap open_count is, open_count-amounts t);
    table = refl;
    sums = refl;
    long = refl;
    long_tonnes = refl;
  }

  module _ (left : List ℕ) (count : ℕ) (rows tonnes : List ℕ) (so : Filling choice t rows_before tonnes_before left count rows tonnes) where
    -- as many rows as a book has lines at most leave nothing on any line
    pub filling_full : most_lines ≤ count → (n : ℕ) → get_or left n 0 ≡ 0
    filling_full full n =
        ⊎_elim
        (λ some. absurd (omega (arith, so.few, open_count_some left n some, count_by-le-length is_live t, well.0)))
        (λ nothing. omega arith)
        (cases_lt 0 (get_or left n 0))

    -- one row more, written into its entries
    module _ (left_after rows_after : List ℕ) (v : ℕ) (within : count < length tonnes) (put : RowPut choice t left (row_stride * count) rows v left_after rows_after) where
      abbrev grown : List Row
      grown = so.done ++ put.row ∷ []

      tonnes_more : set tonnes count v ≡ over tonnes_before (map (λ row. row.tonnes) grown)
      tonnes_more =
          let ws = map (λ row. row.tonnes) so.done in
          let place : count ≡ length ws = so.counted ∙ sym (length-map so.done (λ row. row.tonnes)) in
          ap (λ l. set l count v) so.sums
          ∙ (ap (λ k. set (over tonnes_before ws) k v) place
          ∙ (over_push tonnes_before ws v (omega (arith, so.long_tonnes, place))
          ∙ ap (over tonnes_before) (ap (λ x. ws ++ x ∷ []) put.tonnes_so ∙ sym (map_push (λ row. row.tonnes) so.done put.row))))

      table_more : rows_after ≡ written rows_before 0 grown
      table_more =
          let new = length put.row.chain ∷ put.row.chain in
          let place : row_stride * count ≡ row_stride * (0 + length so.done) = omega (arith, so.counted) in
          put.table
          ∙ (ap (λ l. laid l (row_stride * count) new) so.table
          ∙ (ap (λ k. laid (written rows_before 0 so.done) k new) place ∙ sym (written_push rows_before 0 so.done put.row)))

      filling_lessens : open_count left_after < open_count left
      filling_lessens = omega (arith, ap open_count put.taken_off, row_lessens choice t left put.row put.is_row)

      pub filling_more : length rows_after ≡ length rows → Filling choice t rows_before tonnes_before left_after (count + 1) rows_after (set tonnes count v)
      filling_more long = record {
        done = grown;
        goes = λ rest d. subst (Dividing choice t) (sym (append_assoc so.done (put.row ∷ []) rest)) (so.goes (put.row ∷ rest) (put.is_row, subst (λ l. Divides choice t l rest) put.taken_off d));
        counted = omega (arith, so.counted, length_push so.done put.row);
        few = omega (arith, so.few, filling_lessens);
        table = table_more;
        sums = tonnes_more;
        long = long ∙ so.long;
        long_tonnes = length-set tonnes count v ∙ so.long_tonnes;
      }

    pub filling_all : ((n : ℕ) → get_or left n 0 ≡ 0) → Filled choice t rows_before tonnes_before count rows tonnes
    filling_all nothing =
        let whole : Dividing choice t so.done = subst (Dividing choice t) (append-nil so.done) (so.goes [] nothing) in
        record {
          rows = so.done;
          dividing = whole;
          alone = λ others d. divides_alone choice t (amounts t) so.done others whole d;
          split = dividing_split choice t so.done well whole;
          few = omega (arith, so.few, so.counted);
          counted = so.counted;
          table = so.table;
          tonnes = so.sums;
        }
