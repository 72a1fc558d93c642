-- A list read to its end. Assumes nothing.
--   Put            a chain put behind others with its figure
--   Whole          all the greatest certain chains of a tally at a floor and no other, in ascending order, each once, with its certain figure
--   list_checked   a list's reading as what it does to the outcome that would follow: only a refusal of next stops it
use Rattle.std.specs.Prelude.{◌≡◌, ℕ, List, [], ◌∷◌, ◌++◌, map, Ok, Err, vec_items, Result}
use Rattle.std.specs.List.{AllByRecursion}
use Rattle.book.specs.Outcome.{Outcome}
use Rattle.book.specs.Tally.{Tally}
use Rattle.chains.specs.Certainty.{Agreed}
use Rattle.chains.specs.Faults.{refusal}
use Rattle.flow.specs.Excess.{figure}
use Rattle.flow.specs.Promises.{Listed as Complete}
use Rattle.listing.specs.declared.whole.Listed.{Listed}
use Rattle.listing.specs.declared.whole.ListFault.{ListFault}
use Rattle.listing.specs.declared.whole.ListFault.TheVariants.{Chain, NoMemory}

abbrev pub chain_of : Listed → List ℕ
chain_of l = vec_items l.chain

pub record Put (before : List Listed) (numbers : List ℕ) (figure_told : ℕ) (after : List Listed) : Type 0 where
  pub entry : Listed
  pub behind : after ≡ before ++ entry ∷ []
  pub numbers_told : chain_of entry ≡ numbers
  pub amount : entry.figure ≡ figure_told

pub record Figured (t : Tally) (l : Listed) : Type 0 where
  pub amount : l.figure ≡ figure t (chain_of l)
  pub agreed : Agreed t (chain_of l)

pub record Whole (t : Tally) (floor : ℕ) (list : List Listed) : Type 0 where
  pub complete : Complete t floor (map chain_of list)
  pub figured : AllByRecursion (Figured t) list

abbrev pub list_checked : {T : Type 0} → Result T ListFault → Outcome → Outcome
list_checked (Ok x) o = o
list_checked (Err (Chain e)) o = refusal e
list_checked (Err NoMemory) o = o
