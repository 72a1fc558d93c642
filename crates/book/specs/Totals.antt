-- Totals and balance of a tally. Assumes nothing.
--   total                the sum of a figure over all lines
--   in_total             the sum of the live lines entering an account
--   out_total            the sum of the live lines leaving it
--   Enters, Leaves       some live line enters it, or leaves it
--   figure, side_total   what a line adds to one of the two totals of an account, and that total
--   Balanced             both totals agree at every account with live lines on both sides
--   balance_stops        the stop of every question about a book that is not balanced
--   Differs              an account with live lines on both sides whose totals do not agree
use Rattle.std.specs.Prelude.{◌≡◌, ℕ, ◌+◌, ◌<◌, Bool, true, false, cond, not, ◌&&◌, ◌||◌, ◌≢◌, List, [], ◌∷◌, Ok, Err, Result, ◌==◌, slice_index}
use Rattle.book.specs.Limits.{accounts}
use Rattle.book.specs.Faults.{refusal}
use Rattle.book.specs.Outcome.{book, refuses, Stop, stop}
use Rattle.book.specs.Search.{lowest_of, some_of}
use Rattle.book.specs.Tally.{Tally}
use Rattle.book.specs.declared.entries.Fault.{Fault}
use Rattle.book.specs.declared.entries.Fault.TheVariants.{Unbalanced}
use Rattle.book.specs.declared.entries.Line.{Line}
use Rattle.book.specs.declared.entries.Line.TheVariants.{Live, Struck}
use Rattle.book.specs.declared.table.Side.{Side}
use Rattle.book.specs.declared.table.Side.TheVariants.{In, Out}

abbrev pub total : {X : Type 0} → (X → ℕ) → List X → ℕ
total f [] = 0
total f (x ∷ xs) = f x + total f xs

abbrev pub any : {X : Type 0} → (X → Bool) → List X → Bool
any p [] = false
any p (x ∷ xs) = p x || any p xs

abbrev pub enters : ℕ → Line → Bool
enters a (Live from to amount) = to == a
enters a Struck = false

abbrev pub leaves : ℕ → Line → Bool
leaves a (Live from to amount) = from == a
leaves a Struck = false

abbrev pub amount_of : Line → ℕ
amount_of (Live from to amount) = amount
amount_of Struck = 0

abbrev pub touches : Side → ℕ → Line → Bool
touches In a l = enters a l
touches Out a l = leaves a l

abbrev pub figure : Side → ℕ → Line → ℕ
figure s a l = cond (touches s a l) (amount_of l) 0

abbrev pub side_total : Side → Tally → ℕ → ℕ
side_total s t a = total (figure s a) t

abbrev pub in_total : Tally → ℕ → ℕ
in_total t a = side_total In t a

abbrev pub out_total : Tally → ℕ → ℕ
out_total t a = side_total Out t a

abbrev pub Enters : Tally → ℕ → Type 0
Enters t a = any (enters a) t ≡ true

abbrev pub Leaves : Tally → ℕ → Type 0
Leaves t a = any (leaves a) t ≡ true

abbrev pub Balanced : Tally → Type 0
Balanced t = (a : ℕ) → Enters t a → Leaves t a → in_total t a ≡ out_total t a

abbrev pub Differs : Tally → ℕ → Type 0
Differs t a = Enters t a × Leaves t a × (in_total t a ≢ out_total t a)

-- what balance answers: yes, or the lowest account that differs with both totals
abbrev pub Balances : Tally → Result Unit Fault → Type 0
Balances t (Ok x) = Balanced t
Balances t (Err e) =
    (a : ℕ)
    × Differs t a
    × ((b : ℕ) → b < a → Differs t b → ⊥)
    × (refusal e ≡ refuses book 7 (a ∷ in_total t a ∷ out_total t a ∷ []))

-- the row of the table of stops for every question: the same, computed
abbrev pub differs : Tally → ℕ → Bool
differs t a = any (enters a) t && any (leaves a) t && not (in_total t a == out_total t a)

abbrev pub lowest_differing : Tally → ℕ
lowest_differing t = lowest_of (differs t) 0 0 accounts

unfoldable pub balance_stops : Tally → List Stop
balance_stops t =
    stop (some_of (differs t) 0 accounts) book 7 (lowest_differing t ∷ in_total t (lowest_differing t) ∷ out_total t (lowest_differing t) ∷ []) ∷ []

-- the same of two lists of totals, by account: a total is 0 where no live line stands on that side
abbrev pub Agree : List ℕ → List ℕ → ℕ → Type 0
Agree ins outs a = 0 < slice_index ins a → 0 < slice_index outs a → slice_index ins a ≡ slice_index outs a

abbrev pub Compared : List ℕ → List ℕ → Result Unit Fault → Type 0
Compared ins outs (Ok x) = (a : ℕ) → a < accounts → Agree ins outs a
Compared ins outs (Err e) =
    (a : ℕ)
    × (a < accounts)
    × (Agree ins outs a → ⊥)
    × ((b : ℕ) → b < a → Agree ins outs b)
    × (e ≡ Unbalanced a (slice_index ins a) (slice_index outs a))
