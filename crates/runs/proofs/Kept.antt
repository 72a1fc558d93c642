-- The promise over whole runs, from what is proved of every well-formed book. Assumes nothing.
use Rattle.std.proofs.Common.{◌≡◌, ℕ, zero, suc, ◌<◌, Bool, true, ltb, ◌⊎◌, List, ℤ, pos, negsuc, Ok, Err, sym, refl, ap, ◌∙◌, inl, inr, ⊎_elim, arith}
use Rattle.std.proofs.lemmas.Bool.{both_ways, cases_eq, ltb-true, lt-ltb}
use Rattle.std.specs.List.{AllByRecursion}
use Rattle.book.specs.Limits.{accounts}
use Rattle.book.specs.Outcome.{Outcome, stopped}
use Rattle.book.specs.Tally.{Tally, Sound, WellFormed}
use Rattle.book.specs.Totals.{in_total, out_total, Balanced, Differs, differs, balance_stops}
use Rattle.book.specs.declared.entries.Fault.TheVariants.{Unbalanced}
use Rattle.book.specs.declared.table.Side.TheVariants.{In}
use Rattle.book.proofs.Balance.{touched, differs_true, true_differs, balances_stop}
use Rattle.chains.specs.Certainty.{by_excess}
use Rattle.chains.specs.declared.certainty.Certainty.{Certainty}
use Rattle.chains.specs.declared.certainty.Certainty.TheVariants.{Held, Loose}
use Rattle.flow.specs.Chains.{Chain}
use Rattle.flow.specs.Excess.{excess, positive}
use Rattle.flow.specs.Rules.{avoiding}
use Rattle.flow.proofs.Avoiding.{avoiding_reaches_figure}
use Rattle.flow.proofs.Certainty.{figure_is_least}
use Rattle.flow.proofs.Divided.{dividing_is_split, split_from_balanced}
use Rattle.flow.proofs.Listed.{list_is_complete}
use Rattle.flow.proofs.RuleLaws.{law_avoiding}
use Rattle.flow.proofs.SplitTotals.{balanced_from_split}
use Rattle.flow.proofs.Sums.{first_such}
use Rattle.runs.specs.Promise.{Refused, Asks, Questions, Told, Countered, ListAgreed, KeptPromise}

-- a book is balanced, or some account is the lowest that differs
balance_decided : (t : Tally) → AllByRecursion Sound t → Balanced t ⊎ ((a : ℕ) × Differs t a × ((b : ℕ) → b < a → Differs t b → ⊥))
balance_decided t sound =
    ⊎_elim
    (λ none. inl (λ a entered left.
    let within = (touched In a t sound entered).1 in
    ⊎_elim
    (λ same. same)
    (λ apart. absurd (both_ways (differs t a) (none a within) (differs_true t a (entered, left, apart))))
    (cases_eq (in_total t a) (out_total t a))))
    (λ found. inr (found.0, true_differs t found.0 found.1, λ b lower d. both_ways (differs t b) (found.2 b lower) (differs_true t b d)))
    (first_such (differs t) accounts)

-- what certain answers, read as the certain figure: loose is 0
abbrev held_figure : Certainty → ℕ
held_figure (Held n) = n
held_figure (Loose n) = 0

held_figure_lem : (z : ℤ) → held_figure (by_excess z) ≡ positive z
held_figure_lem (pos zero) = refl
held_figure_lem (pos (suc k)) = refl
held_figure_lem (negsuc k) = refl

-- held only with 1 or more
abbrev held_some : Certainty → Bool
held_some (Held n) = ltb 0 n
held_some (Loose n) = true

held_some_lem : (z : ℤ) → held_some (by_excess z) ≡ true
held_some_lem (pos zero) = refl
held_some_lem (pos (suc k)) = lt-ltb 0 (suc k) (omega arith)
held_some_lem (negsuc k) = refl

told-figure : (t : Tally) (c : List ℕ) → Told t c
told-figure t c = record {
  held = λ n e. sym (ap held_figure e) ∙ held_figure_lem (excess t c);
  some = λ n e. ltb-true 0 n (sym (ap held_some e) ∙ held_some_lem (excess t c));
  loose = λ n e. sym (held_figure_lem (excess t c)) ∙ ap held_figure e;
}

module _ (t : Tally) (well : WellFormed t) where
  balanced_passes : Balanced t → (o : Outcome) → stopped (balance_stops t) o ≡ o
  balanced_passes balanced o = sym (balances_stop t well.1 (Ok tt) balanced o)

  unbalanced_refuses : (Balanced t → ⊥) → Refused t (stopped (balance_stops t))
  unbalanced_refuses apart =
      ⊎_elim
      (λ balanced. absurd (apart balanced))
      (λ (a, differ, lower). record {
        account = a;
        differs = differ;
        lowest = lower;
        refused = λ o. sym (balances_stop t well.1 (Err (Unbalanced a (in_total t a) (out_total t a))) (a, differ, lower, refl) o);
      })
      (balance_decided t well.1)

  -- a question whose last stop is the balance
  balance_last : (before : Outcome → Outcome) → Asks t before (λ o. before (stopped (balance_stops t) o))
  balance_last before = record {
    passed = λ unmet split o. unmet (stopped (balance_stops t) o) ∙ balanced_passes (balanced_from_split t well split.0 split.1) o;
    refused = λ unmet none.
        let r = unbalanced_refuses (λ balanced. none (split_from_balanced t well balanced)) in
        record {
          account = r.account;
          differs = r.differs;
          lowest = r.lowest;
          refused = λ o. unmet (stopped (balance_stops t) o) ∙ r.refused o;
        };
  }

  questions_kept : Questions t
  questions_kept = record {
    balance = balance_last _;
    certain = λ c. balance_last _;
    divide = λ entries tonnes. balance_last _;
    counter = λ c entries tonnes. balance_last _;
    next = λ floor entries long. balance_last _;
  }

  module _ (balanced : Balanced t) where
    countered : (c : List ℕ) → Chain t c → Countered t c
    countered c chain =
        let divided = dividing_is_split (avoiding c) t (law_avoiding c) well balanced in
        record {
          counter = (
            divided.0,
            record {
              dividing = divided.1.dividing;
              split = divided.1.split;
              least = (avoiding_reaches_figure c).1 t divided.0 well balanced chain divided.1.dividing;
            },
          );
          every = (figure_is_least t c well balanced chain).0;
          told = told-figure t c;
        }

    list_agreed : (floor : ℕ) → 0 < floor → (cs : List (List ℕ)) × ListAgreed t floor cs
    list_agreed floor some =
        let complete = list_is_complete t floor well balanced some in (
          complete.0,
          record {
            listed = complete.1;
            agreed = λ c has.
                let least = figure_is_least t c well balanced (complete.1.only c has).chain in
                record { every = least.0; some = least.1 };
          },
        )

  pub promise_kept : KeptPromise t
  promise_kept = record {
    questions = questions_kept;
    split_if_balanced = split_from_balanced t well;
    balanced_if_split = λ split. balanced_from_split t well split.0 split.1;
    divides = λ choice law balanced. dividing_is_split choice t law well balanced;
    counters = λ c chain balanced. countered balanced c chain;
    lists = λ floor some balanced. list_agreed balanced floor some;
  }
