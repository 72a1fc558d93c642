-- The steps of a run of calls. Assumes nothing.
use Rattle.std.proofs.Common.{◌≡◌, ℕ, ◌≤◌, List, [], ◌++◌, length, drop, sym, ap, ◌∙◌}
use Rattle.std.proofs.lemmas.List.{at_drop_all, append-nil}
use Rattle.book.specs.Outcome.{Outcome}
use Rattle.book.specs.Tally.{Tally, tally, outcomes}
use Rattle.book.specs.declared.entries.Call.{Call}

-- after the first i calls the tally is t, and the outcomes so far are os
pub record Half (calls : List Call) (i : ℕ) (t : Tally) (os : List Outcome) : Type 0 where
  pub outcomes_so : os ++ outcomes t (drop i calls) ≡ outcomes [] calls
  pub tally_so : tally t (drop i calls) ≡ tally [] calls

pub half_all : (calls : List Call) (i : ℕ) (t : Tally) (os : List Outcome) → length calls ≤ i → Half calls i t os → (os ≡ outcomes [] calls) × (t ≡ tally [] calls)
half_all calls i t os h half = (
  sym (append-nil os) ∙ (ap (λ z. os ++ z) (sym (at_drop_all (outcomes t) calls i h)) ∙ half.outcomes_so),
  sym (at_drop_all (tally t) calls i h) ∙ half.tally_so,
)
