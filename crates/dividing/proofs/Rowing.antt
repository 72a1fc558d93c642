-- A walk as the next row: its length and its lines in the row's entries, and its tonnes taken off. Assumes nothing.
use Rattle.std.proofs.Common.{◌≡◌, ℕ, suc, ◌+◌, ◌<◌, List, [], ◌∷◌, ◌++◌, length, drop, set, sym, refl, ap, ◌∙◌, subst, arith}
use borrow.Rule.Slice.PartMut.{put_mid}
use Rattle.std.specs.List.{AllByRecursion}
use Rattle.book.specs.Overlay.{laid}
use Rattle.book.specs.Tally.{Tally, WellFormed}
use Rattle.dividing.specs.Rows.{Walked, RowPut}
use Rattle.dividing.specs.Sources.{LowestSource}
use Rattle.flow.proofs.ChainFacts.{runs_apart}
use Rattle.flow.proofs.Divided.{fair_after, row_runs, row_bears}
use Rattle.flow.proofs.Infix.{Apart}
use Rattle.flow.proofs.TonnesLeft.{Bears}
use Rattle.flow.proofs.Walks.{Fair}
use Rattle.flow.specs.Dividing.{IsRow, off}
use Rattle.flow.specs.Rules.{Choice}
use Rattle.flow.specs.Splits.{Row}

-- a number set before a list that is put behind it
headed : (before w : List ℕ) (n k : ℕ) → 0 < length before → k ≡ length w → put_mid 1 k (set before 0 n) w ≡ laid before 0 (n ∷ w)
headed [] w n k some long = absurd (omega arith)
headed (x ∷ before) w n k some long =
    let next : suc k ≡ 0 + length (n ∷ w) = omega (arith, long) in
    ap (λ j. n ∷ (w ++ drop j (x ∷ before))) next

-- the lines that the walk answers, as they are handed on
module _ (choice : Choice) (t : Tally) (left : List ℕ) (start : ℕ) (walk lines : List ℕ) (least : ℕ) (well : WellFormed t) (source : LowestSource t left start) (walked : Walked choice t left start walk least) (same : lines ≡ walk) where
  abbrev row : Row
  row = record { chain = lines; tonnes = least }

  abbrev here : Walked choice t left start lines least
  here = subst (λ l. Walked choice t left start l least) (sym same) walked

  abbrev is_row : IsRow choice t left row
  is_row = record {
    account = start;
    origin = source.origin;
    some_open = source.some_open;
    lowest = source.lowest;
    walk = here.walk;
    least = here.least_left_is;
  }

  pub row_borne : Apart lines × AllByRecursion (Bears left least) lines
  row_borne = (runs_apart t well.1 start lines (row_runs choice t left row is_row), row_bears choice t left row is_row)

  module _ (left_after : List ℕ) (taken : left_after ≡ off left least lines) where
    pub row_fair : Fair t left → Fair t left_after
    row_fair fair = subst (Fair t) (sym taken) (fair_after choice t left row is_row well fair)

    pub row_put : (before put : List ℕ) (n k : ℕ) → 0 < length before → n ≡ length lines → k ≡ length lines → put ≡ lines → RowPut choice t left 0 before least left_after (put_mid 1 k (set before 0 n) put)
    row_put before put n k room counted long is = record {
      row = row;
      is_row = is_row;
      tonnes_so = refl;
      taken_off = taken;
      short = here.short;
      table = ap (put_mid 1 k (set before 0 n)) is ∙ (headed before lines n k room long ∙ ap (λ m. laid before 0 (m ∷ lines)) counted);
    }
