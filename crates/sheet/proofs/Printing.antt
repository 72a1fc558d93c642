-- From a line put on the page to a step of the statement. Assumes nothing.
use Rattle.std.proofs.Common.{◌≡◌, ℕ, ◌<◌, ◌≤◌, Bool, true, false, cond, List, length, sym, refl, ap, ◌∙◌, subst, arith}
use Rattle.std.proofs.lemmas.Bool.{cond-true, cond-false, or_left, or_right, or_from, le-ltb, lt-ltb}
use Rattle.book.specs.Outcome.{Outcome}
use Rattle.dividing.specs.Tables.{table_entries, table_tonnes}
use Rattle.sheet.specs.Commands.{Meaning}
use Rattle.sheet.specs.Page.{Put}
use Rattle.sheet.specs.Reading.{read, refused, reading, refusal}
use Rattle.sheet.specs.declared.command.Fault.TheVariants.{TablesTooSmall}
use Rattle.sheet.specs.Statements.{State, shortest_page, goes, ends, Obeyed, is_last, refused_line, refused_next, Answered, Prints}
use Rattle.sheet.specs.Stepping.{left_behind, Printed, step_stopped}
use Rattle.sheet.proofs.Laid.{over_from_put}

pub printed : (a b : State) (before after l : List ℕ) (n : ℕ) → Put before 0 l after n → Prints a l b → (n ≤ length before) × ((k : List ℕ) × (n ≡ length k) × Printed a b before after k)
printed a b before after l n put prints =
    let on-page = over_from_put before l after n put in (
      omega (arith, on-page.1, put.within),
      (l, on-page.1, record { page = on-page.0; prints = prints; law = λ ls rest. (b, prints, rest) }),
    )

pub prints_command : (a b : State) (l : List ℕ) (m : Meaning) (q : ℕ) → a.ended ≡ false → read m q ≡ reading a.sheet_bytes a.place → Obeyed a l b q m → Prints a l b
prints_command a b l m q running is obeyed = record { running = running; answered = subst (Answered a l b) is obeyed }

pub prints_refusal : (a b : State) (n : ℕ) (vs : List ℕ) → a.ended ≡ false → refused n vs ≡ reading a.sheet_bytes a.place → b ≡ refused_next a n → Prints a (refused_line a n vs) b
prints_refusal a b n vs running is next = record { running = running; answered = subst (Answered a (refused_line a n vs) b) is (refl, next) }

-- the same state, but for whether the statement has ended
abbrev pub with_ended : State → Bool → State
with_ended a e = record { sheet_bytes = a.sheet_bytes; place = a.place; tally = a.tally; ended = e; count = a.count; last = a.last }

by_last : (v : Bool) (a : State) (p : ℕ) → with_ended (cond v a (cond v (ends a) (goes a p a.tally))) v ≡ cond v (ends a) (goes a p a.tally)
by_last true a p = refl
by_last false a p = refl

pub behind_refusal : (a b : State) (n : ℕ) (e : Bool) → b ≡ left_behind a n → e ≡ is_last n → with_ended b e ≡ refused_next a n
behind_refusal a b n e behind last = ap (λ z. with_ended z e) behind ∙ (ap (with_ended (left_behind a n)) last ∙ by_last (is_last n) a _)

pub passes : (page entries tonnes : ℕ) → shortest_page ≤ page → table_entries ≤ entries → table_tonnes ≤ tonnes → (o : Outcome) → o ≡ step_stopped page entries tonnes o
passes page entries tonnes room enough weights o =
    sym (cond-false _ _ _ (le-ltb page shortest_page room) ∙ cond-false _ _ _ (or_from _ _ (le-ltb entries table_entries enough) (le-ltb tonnes table_tonnes weights)))

pub small_rows : (page entries tonnes : ℕ) → shortest_page ≤ page → entries < table_entries → (o : Outcome) → refusal TablesTooSmall ≡ step_stopped page entries tonnes o
small_rows page entries tonnes room few o =
    sym (cond-false _ _ _ (le-ltb page shortest_page room) ∙ cond-true _ _ _ (or_left _ _ (lt-ltb entries table_entries few)))

pub small_tonnes : (page entries tonnes : ℕ) → shortest_page ≤ page → tonnes < table_tonnes → (o : Outcome) → refusal TablesTooSmall ≡ step_stopped page entries tonnes o
small_tonnes page entries tonnes room few o =
    sym (cond-false _ _ _ (le-ltb page shortest_page room) ∙ cond-true _ _ _ (or_right _ _ (lt-ltb tonnes table_tonnes few)))
