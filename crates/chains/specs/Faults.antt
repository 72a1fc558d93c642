-- The layer, number and values of each refusal of a question about chains, by case. Assumes nothing.
--   layer_of, number, carries   a fault's layer, its number and the values that it carries
--   refusal   a fault as an outcome
--   checked   a check as what it does to the outcome that would follow
use Rattle.std.specs.Prelude.{ℕ, List, [], ◌∷◌, Ok, Err, Result}
use Rattle.book.specs.Faults.{number as book_number, carries as book_carries}
use Rattle.book.specs.Outcome.{Layer, book, chain, Outcome, refuses}
use Rattle.chains.specs.declared.faults.Fault.{Fault}
use Rattle.chains.specs.declared.faults.Fault.TheVariants.{Line, Gap, Length, TooSmall, NoFloor, Book}

abbrev pub layer_of : Fault → Layer
layer_of (Line place fault) = book
layer_of (Gap place) = chain
layer_of (Length length) = chain
layer_of TooSmall = chain
layer_of NoFloor = chain
layer_of (Book fault) = book

abbrev pub number : Fault → ℕ
number (Line place fault) = book_number fault
number (Gap place) = 9
number (Length length) = 8
number TooSmall = 10
number NoFloor = 11
number (Book fault) = book_number fault

abbrev pub carries : Fault → List ℕ
carries (Line place fault) = place ∷ book_carries fault
carries (Gap place) = place ∷ []
carries (Length length) = length ∷ []
carries TooSmall = []
carries NoFloor = []
carries (Book fault) = book_carries fault

abbrev pub refusal : Fault → Outcome
refusal e = refuses (layer_of e) (number e) (carries e)

abbrev pub checked : {T : Type 0} → Result T Fault → Outcome → Outcome
checked (Ok x) o = o
checked (Err e) o = refusal e
