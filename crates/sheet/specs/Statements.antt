-- The statement of a sheet, over its commands and the tally. Assumes nothing.
--   shortest_page   a page needs so many bytes
--   State           a sheet, the place read up to, the tally of its calls so far, whether the statement has ended; and of a list or divide
--                   command that is being printed, how many of its lines are printed and the last chain listed
--   Obeyed          what a command prints on a book with those lines, and the state after it
--   refusal_text    what a refused command prints
--   Prints          a statement in one state prints a line and is in another
--   Over            a statement in that state prints no more
--   Steps           the lines that are printed from one state to another
--   Rest            the lines that are printed from a state to the end
--   StatementOf     the lines of a whole sheet's statement
use Rattle.std.specs.Prelude.{◌≡◌, ℕ, ◌+◌, ◌-◌, ◌^◌, ◌<◌, ◌≤◌, min, Bool, true, false, cond, ◌||◌, ◌⊎◌, List, [], ◌∷◌, ◌++◌, length, codes, decimal, ◌==◌, slice_index, slice_index_or}
use Rattle.book.specs.Outcome.{Layer, book, chain, sheet, Outcome, answers, refuses, stop, stopped}
use Rattle.book.specs.Tally.{Tally, outcome, after}
use Rattle.book.specs.Totals.{balance_stops}
use Rattle.book.specs.declared.entries.Call.TheVariants.{Post, Amend, Strike, Clear}
use Rattle.flow.specs.Dividing.{Dividing}
use Rattle.flow.specs.Excess.{figure}
use Rattle.flow.specs.Listing.{FirstAfter, NoneAfter}
use Rattle.flow.specs.Rules.{Choice, lowest, widest}
use Rattle.flow.specs.Splits.{Row}
use Rattle.sheet.specs.Commands.{Meaning, post, amend, strike, clear, note, list, divide}
use Rattle.sheet.specs.Reading.{Reading, end, read, refused, reading}
use Rattle.std.specs.List.{flat_map}

abbrev pub shortest_page : ℕ
shortest_page = 320

-- a count of chains stops here, far beyond what any list could reach
abbrev pub greatest_count : ℕ
greatest_count = 2 ^ 64 - 1

-- the rules of a divide command
abbrev pub rule_of : ℕ → Choice
rule_of r = cond (r == 0) lowest widest

abbrev pub row_of : List Row → ℕ → Row
row_of rows i = slice_index_or rows i (record { chain = []; tonnes = 0 })

-- the stops of a list command
abbrev pub list_stopped : Tally → ℕ → Outcome → Outcome
list_stopped t w o = stopped (stop (w == 0) chain 11 [] ∷ []) (stopped (balance_stops t) o)

pub record State : Type 0 where
  pub sheet_bytes : List ℕ
  pub place : ℕ
  pub tally : Tally
  pub ended : Bool
  pub count : ℕ
  pub last : List ℕ

abbrev pub layer_name : Layer → List ℕ
layer_name book = codes "book"
layer_name chain = codes "chain"
layer_name sheet = codes "sheet"

-- for an imbalance also the account and both its totals
abbrev pub detail : ℕ → List ℕ → List ℕ
detail n vs =
    cond (n == 7)
    (codes " account " ++ (decimal (slice_index vs 0) ++ (codes " in " ++ (decimal (slice_index vs 1) ++ (codes " out " ++ decimal (slice_index vs 2))))))
    []

abbrev pub refusal_head : List ℕ → ℕ → ℕ → List ℕ
refusal_head name n p = codes "refused " ++ (name ++ (codes " " ++ (decimal n ++ (codes " at " ++ decimal p))))

abbrev pub refusal_text : Layer → ℕ → List ℕ → ℕ → List ℕ
refusal_text l n vs p = refusal_head (layer_name l) n p ++ detail n vs

-- the lines of a chain, each behind a space; and fixed words, tonnes and the lines of a chain
abbrev pub numbers_text : List ℕ → List ℕ
numbers_text ns = flat_map (λ n. 32 ∷ decimal n) ns

abbrev pub chain_text : List ℕ → ℕ → List ℕ → List ℕ
chain_text words tonnes c = words ++ (decimal tonnes ++ (codes ":" ++ numbers_text c))

abbrev pub reported : Outcome → ℕ → List ℕ → List ℕ
reported (answers vs) p text = text
reported (refuses l n vs) p text = refusal_text l n vs p

abbrev pub text_line : List ℕ → List ℕ
text_line text = text ++ 10 ∷ []

-- the statement goes on at a place with a tally, behind a command; or ends
abbrev pub goes : State → ℕ → Tally → State
goes a p t = record { sheet_bytes = a.sheet_bytes; place = p; tally = t; ended = false; count = 0; last = [] }

abbrev pub ends : State → State
ends a = record { sheet_bytes = a.sheet_bytes; place = a.place; tally = a.tally; ended = true; count = a.count; last = a.last }

-- after one chain of a list more, and after one row of a dividing more
abbrev pub lists : State → List ℕ → State
lists a c = record { sheet_bytes = a.sheet_bytes; place = a.place; tally = a.tally; ended = a.ended; count = min (a.count + 1) greatest_count; last = c }

abbrev pub takes : State → State
takes a = record { sheet_bytes = a.sheet_bytes; place = a.place; tally = a.tally; ended = a.ended; count = a.count + 1; last = a.last }

-- a command that prints one line and goes on
abbrev pub Simple : State → List ℕ → State → ℕ → List ℕ → Tally → Type 0
Simple a l b q text t = (l ≡ text_line text) × (b ≡ goes a q t)

-- a list command: its refusal; or the first greatest certain chain after the last one listed, with its figure; or the count of the chains
abbrev pub Lists : State → List ℕ → State → ℕ → ℕ → Outcome → Type 0
Lists a l b q w (refuses layer n vs) = Simple a l b q (refusal_text layer n vs a.place) a.tally
Lists a l b q w (answers vs) =
    ((c : List ℕ) × FirstAfter a.tally w a.last c × (l ≡ text_line (chain_text (codes "certain ") (figure a.tally c) c)) × (b ≡ lists a c))
    ⊎ (NoneAfter a.tally w a.last × Simple a l b q (codes "listed " ++ decimal a.count) a.tally)

-- a divide command: its refusal; or the next row of the dividing under its rule; or the count of the rows
abbrev pub Rowed : State → List ℕ → State → ℕ → List Row → Type 0
Rowed a l b q rows =
    ((a.count < length rows) × (l ≡ text_line (chain_text (codes "take ") (row_of rows a.count).tonnes (row_of rows a.count).chain)) × (b ≡ takes a))
    ⊎ ((length rows ≤ a.count) × Simple a l b q (codes "divided " ++ decimal (length rows)) a.tally)

abbrev pub Divides : State → List ℕ → State → ℕ → ℕ → Outcome → Type 0
Divides a l b q r (refuses layer n vs) = Simple a l b q (refusal_text layer n vs a.place) a.tally
Divides a l b q r (answers vs) = (rows : List Row) × Dividing (rule_of r) a.tally rows × Rowed a l b q rows

abbrev pub Obeyed : State → List ℕ → State → ℕ → Meaning → Type 0
Obeyed a l b q (post from to amount) =
    Simple a l b q (reported (outcome a.tally (Post from to amount)) a.place (codes "line " ++ decimal (length a.tally))) (after a.tally (Post from to amount))
Obeyed a l b q (amend line amount) =
    Simple a l b q (reported (outcome a.tally (Amend line amount)) a.place (codes "amended " ++ decimal line)) (after a.tally (Amend line amount))
Obeyed a l b q (strike line) = Simple a l b q (reported (outcome a.tally (Strike line)) a.place (codes "struck " ++ decimal line)) (after a.tally (Strike line))
Obeyed a l b q clear = Simple a l b q (codes "cleared") (after a.tally Clear)
Obeyed a l b q (note text) = Simple a l b q (codes "note " ++ text) a.tally
Obeyed a l b q (list floor) = Lists a l b q floor (list_stopped a.tally floor (answers []))
Obeyed a l b q (divide rule) = Divides a l b q rule (stopped (balance_stops a.tally) (answers []))

-- after these the statement ends; after the refusal of a note's byte or a rule it goes on behind the command
abbrev pub is_last : ℕ → Bool
is_last n = n == 12 || n == 13 || n == 14

-- the place that a refused reading prints: that of its command byte, and 0 when the sheet is too long
abbrev pub refused_at : ℕ → ℕ → ℕ
refused_at n p = cond (n == 12) 0 p

-- the line that a refused reading prints, and the state after it
abbrev pub refused_line : State → ℕ → List ℕ → List ℕ
refused_line a n vs = text_line (refusal_text sheet n vs (refused_at n a.place))

abbrev pub refused_next : State → ℕ → State
refused_next a n = cond (is_last n) (ends a) (goes a (a.place + cond (n == 16) 2 17) a.tally)

abbrev pub Answered : State → List ℕ → State → Reading → Type 0
Answered a l b end = ⊥
Answered a l b (read m q) = Obeyed a l b q m
Answered a l b (refused n vs) = (l ≡ refused_line a n vs) × (b ≡ refused_next a n)

pub record Prints (a : State) (l : List ℕ) (b : State) : Type 0 where
  pub running : a.ended ≡ false
  pub answered : Answered a l b (reading a.sheet_bytes a.place)

abbrev pub Over : State → Type 0
Over a = (a.ended ≡ true) ⊎ (reading a.sheet_bytes a.place ≡ end)

-- the lines printed from one state to another
abbrev pub Steps : State → List (List ℕ) → State → Type 0
Steps a [] b = a ≡ b
Steps a (l ∷ ls) b = (m : State) × Prints a l m × Steps m ls b

abbrev pub Rest : State → List (List ℕ) → Type 0
Rest a [] = Over a
Rest a (l ∷ ls) = (b : State) × Prints a l b × Rest b ls

abbrev pub clean_state : List ℕ → State
clean_state s = record { sheet_bytes = s; place = 0; tally = []; ended = false; count = 0; last = [] }

abbrev pub StatementOf : List ℕ → List (List ℕ) → Type 0
StatementOf s ls = Rest (clean_state s) ls

-- a sheet has no two statements
abbrev pub OneStatement : List ℕ → Type 0
OneStatement s = (ls ks : List (List ℕ)) → StatementOf s ls → StatementOf s ks → ls ≡ ks
