-- Reading a list by next_after, from no lines to its end. Assumes nothing.
use Rattle.std.proofs.Common.{ℕ, ◌<◌, List, [], ◌++◌, map, sym, subst}
use Rattle.std.proofs.lemmas.List.{append-nil}
use Rattle.std.specs.List.{AllByRecursion}
use Rattle.book.specs.Tally.{Tally, WellFormed}
use Rattle.book.specs.Totals.{Balanced}
use Rattle.flow.proofs.Listed.{list_is_complete}
use Rattle.flow.specs.Listing.{Listing, NoneAfter}
use Rattle.flow.specs.Promises.{Listed as Complete}
use Rattle.listing.proofs.Remaining.{remaining, remaining_falls}
use Rattle.listing.specs.Picks.{Chosen}
use Rattle.listing.specs.Wholes.{chain_of, Figured, Whole}
use Rattle.listing.specs.declared.whole.Listed.{Listed}

-- the chains read so far, up to the last, and what is still to come
pub record Half (t : Tally) (w : ℕ) (list : List Listed) (last : List ℕ) : Type 0 where
  pub joins : (rest : List (List ℕ)) → Listing t w last rest → Listing t w [] (map chain_of list ++ rest)
  pub figured : AllByRecursion (Figured t) list

module _ (t : Tally) (w : ℕ) (last c : List ℕ) (amount : ℕ) (chosen : Chosen t w last c amount) where
  pub chosen_falls : remaining t c < remaining t last
  chosen_falls = remaining_falls t last c chosen.first.after chosen.first.greatest.chain

pub half_all : (t : Tally) (w : ℕ) (list : List Listed) (last : List ℕ) → Half t w list last → NoneAfter t w last → WellFormed t → Balanced t → 0 < w → Whole t w list
half_all t w list last half none well balanced some =
    let all = list_is_complete t w well balanced some in
    let read : Listing t w [] (map chain_of list) = subst (Listing t w []) (append-nil (map chain_of list)) (half.joins [] none) in
    record { complete = subst (Complete t w) (sym (all.1.alone (map chain_of list) read)) all.1; figured = half.figured }
