-- The worked books checked: all that is said of them computes. Assumes nothing.
use Rattle.std.proofs.Common.{◌≡◌, ℕ, zero, suc, ◌<◌, Bool, true, ◌&&◌, eqb, ltb, map, refl, arith}
use Rattle.std.proofs.lemmas.Bool.{and_parts, both_ways, ltb-true, eqb-true}
use Rattle.std.specs.List.{AllByRecursion}
use Rattle.book.specs.Tally.{Tally, WellFormed}
use Rattle.book.specs.Totals.{in_total, out_total, Balanced, Differs}
use Rattle.flow.specs.Dividing.{amounts, Dividing}
use Rattle.flow.specs.Excess.{figure}
use Rattle.flow.specs.Worked.{RowsUnder, ListAt, Worked, harbour_worked, double_worked, fork_worked, empty_worked, struck_harbour, HasExcess, HasList, Stands, WorkedBooksStand}
use Rattle.flow.proofs.CheckedLists.{is_listing, listing_checked}
use Rattle.flow.proofs.CheckedRows.{divides, divides-checked}
use Rattle.flow.proofs.CheckedSplits.{every, every_all, is_split, split_checked}
use Rattle.flow.proofs.SplitTotals.{balanced_from_split}

abbrev divides_under : Tally → RowsUnder → Bool
divides_under t d = divides d.rule t (amounts t) d.rows

abbrev lists_at : Tally → ListAt → Bool
lists_at t l = ltb 0 l.floor && (is_listing t l.floor (map (λ r. r.chain) l.list) && every (λ r. eqb (figure t r.chain) r.tonnes) l.list)

list-checked : (t : Tally) → WellFormed t → Balanced t → (l : ListAt) → lists_at t l ≡ true → HasList t l
list-checked t well balanced l h =
    let some = and_parts (ltb 0 l.floor) _ h in
    let rest = and_parts (is_listing t l.floor (map (λ r. r.chain) l.list)) _ some.1 in
    record {
      listing = listing_checked t l.floor well balanced (ltb-true 0 l.floor some.0) (map (λ r. r.chain) l.list) rest.0;
      figures = every_all (λ r. eqb (figure t r.chain) r.tonnes) (λ r. figure t r.chain ≡ r.tonnes) (λ r y. eqb-true (figure t r.chain) r.tonnes y) l.list rest.1;
    }

-- a split makes the book balanced
stands : (k : Worked) → WellFormed k.book → is_split k.book k.split ≡ true → AllByRecursion (HasExcess k.book) k.excesses → every (divides_under k.book) k.dividings ≡ true → every (lists_at k.book) k.lists ≡ true → Stands k
stands k well checked excesses divided listed =
    let t : Tally = k.book in
    let split = split_checked t k.split checked in
    let balanced : Balanced t = balanced_from_split t well k.split split in
    record {
      well_formed = well;
      balanced = balanced;
      split = split;
      excesses = excesses;
      dividings = every_all (divides_under t) (λ d. Dividing d.rule t d.rows) (λ d y. divides-checked d.rule t (amounts t) d.rows y) k.dividings divided;
      lists = every_all (lists_at t) (HasList t) (list-checked t well balanced) k.lists listed;
    }

differ : in_total struck_harbour 2 ≡ out_total struck_harbour 2 → ⊥
differ same = omega arith

differ_none_lower : (b : ℕ) → b < 2 → Differs struck_harbour b → ⊥
differ_none_lower zero low differs = both_ways _ refl differs.0
differ_none_lower (suc zero) low differs = both_ways _ refl differs.0
differ_none_lower (suc (suc b)) low differs = omega arith

pub worked_books_stand : WorkedBooksStand
worked_books_stand = record {
  books = (
    stands harbour_worked (omega arith) refl ((refl, refl), ((refl, refl), ((refl, refl), ((refl, refl), tt)))) refl refl,
    (
      stands double_worked (omega arith) refl ((refl, refl), ((refl, refl), ((refl, refl), ((refl, refl), tt)))) refl refl,
      (stands fork_worked (omega arith) refl tt refl refl, (stands empty_worked (omega arith) refl tt refl refl, tt)),
    ),
  );
  struck_well_formed = omega arith;
  struck_differs = (refl, refl, differ);
  struck_lowest = differ_none_lower;
  struck_in = refl;
  struck_out = refl;
  struck_unbalanced = λ balanced. differ (balanced 2 refl refl);
}
