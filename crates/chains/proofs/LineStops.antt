-- The stops of a chain's lines, one line after the other, and the chain where none is met. Assumes nothing.
use Rattle.std.proofs.Common.{◌≡◌, ℕ, ◌+◌, ◌<◌, ◌≤◌, true, leb, List, [], ◌∷◌, length, get_or, drop, Some, None, Option, refl, ◌∙◌, arith}
use Rattle.std.proofs.lemmas.List.{at_drop_more}
use Rattle.std.proofs.lemmas.Bool.{and_from, not-false, le-leb}
use Rattle.std.specs.List.{AllByRecursion}
use Rattle.book.specs.Outcome.{Outcome, stopped}
use Rattle.book.specs.Tally.{Tally, at, is_live}
use Rattle.book.specs.Totals.{leaves}
use Rattle.flow.specs.Chains.{longest_chain, to_of, runs, linked, Chain}
use Rattle.chains.proofs.Stops.{stopped-append, Unmet, all_unmet}
use Rattle.chains.specs.Stops.{line_stops, lines_stops}

pub lines_step : (t : Tally) (i : ℕ) (before : Option ℕ) (c : List ℕ) (o : Outcome) → i < length c → stopped (lines_stops t i before (drop i c)) o ≡ stopped (line_stops t i before (get_or c i 0)) (stopped (lines_stops t (i + 1) (Some (to_of (at t (get_or c i 0)))) (drop (i + 1) c)) o)
lines_step t i before c o h =
    at_drop_more (λ d. stopped (lines_stops t i before d) o) c i 0 h
    ∙ stopped-append (line_stops t i before (get_or c i 0)) (lines_stops t (i + 1) (Some (to_of (at t (get_or c i 0)))) (drop (i + 1) c)) o

-- where no stop is met the lines are linked
unmet_runs : (t : Tally) (p a : ℕ) (c : List ℕ) → AllByRecursion Unmet (lines_stops t p (Some a) c) → runs t a c ≡ true
unmet_runs t p a [] unmet = refl
unmet_runs t p a (n ∷ c) (posted, (live, (joins, rest))) =
    and_from (leaves a (at t n)) (runs t (to_of (at t n)) c) (not-false (leaves a (at t n)) joins.unmet) (unmet_runs t (p + 1) (to_of (at t n)) c rest)

unmet_linked : (t : Tally) (c : List ℕ) → 0 < length c → AllByRecursion Unmet (lines_stops t 0 None c) → linked t c ≡ true
unmet_linked t [] some unmet = absurd (omega arith)
unmet_linked t (n ∷ c) some (posted, (live, rest)) =
    and_from (is_live (at t n)) (runs t (to_of (at t n)) c) (not-false (is_live (at t n)) live.unmet) (unmet_runs t (0 + 1) (to_of (at t n)) c rest)

pub chain_passed : (t : Tally) (c : List ℕ) → 0 < length c → length c ≤ longest_chain → ((o : Outcome) → o ≡ stopped (lines_stops t 0 None c) o) → Chain t c
chain_passed t c some short pass =
    and_from (leb (length c) longest_chain) (linked t c) (le-leb (length c) longest_chain short) (unmet_linked t c some (all_unmet (lines_stops t 0 None c) pass))
