-- Stops read one after the other. Assumes nothing.
use Rattle.std.proofs.Common.{◌≡◌, ℕ, false, cond, List, [], ◌∷◌, ◌++◌, Err, Result, sym, refl, ap, ◌∙◌, ⊎_elim, arith}
use Rattle.std.proofs.lemmas.Bool.{cases_Bool, cond-true, cond-false}
use Rattle.std.specs.List.{AllByRecursion}
use Rattle.book.specs.Faults.{refusal as book_refusal}
use Rattle.book.specs.Outcome.{Outcome, answers, Stop, stopped}
use Rattle.book.specs.declared.entries.Fault.{Fault as BookFault}
use Rattle.chains.specs.Faults.{refusal, checked}
use Rattle.chains.specs.Stops.{with_place, carrying}
use Rattle.chains.specs.declared.faults.Fault.{Fault}
use Rattle.chains.specs.declared.faults.Fault.TheVariants.{Line}

pub stopped-append : (ss rs : List Stop) (o : Outcome) → stopped (ss ++ rs) o ≡ stopped ss (stopped rs o)
stopped-append [] rs o = refl
stopped-append (s ∷ ss) rs o = ap (cond s.met s.refusal) (stopped-append ss rs o)

-- a book's stop met on a chain carries the place, too
pub placed_refusal : (p : ℕ) (ss : List Stop) (f : BookFault) → ((o : Outcome) → book_refusal f ≡ stopped ss o) → (o : Outcome) → refusal (Line p f) ≡ stopped (with_place p ss) o
placed_refusal p [] f is o =
    let same : book_refusal f ≡ answers [] = is (answers []) in
    let z : ◌≡◌ {A = ℕ} 0 1 = cc in
    absurd (omega arith)
placed_refusal p (s ∷ ss) f is o =
    ⊎_elim
    (λ met. ap (carrying p) (is o ∙ cond-true s.met s.refusal (stopped ss o) met) ∙ sym (cond-true s.met (carrying p s.refusal) (stopped (with_place p ss) o) met))
    (λ unmet. placed_refusal p ss f (λ q. is q ∙ cond-false s.met s.refusal (stopped ss q) unmet) o ∙ sym (cond-false s.met (carrying p s.refusal) (stopped (with_place p ss) o) unmet))
    (cases_Bool s.met)

-- stops that pass every outcome on are all unmet
pub record Unmet (s : Stop) : Type 0 where
  pub unmet : s.met ≡ false

pub all_unmet : (ss : List Stop) → ((o : Outcome) → o ≡ stopped ss o) → AllByRecursion Unmet ss
all_unmet [] pass = tt
all_unmet (s ∷ ss) pass =
    ⊎_elim
    (λ met.
    let one : answers [] ≡ s.refusal = pass (answers []) ∙ cond-true s.met s.refusal (stopped ss (answers [])) met in
    let two : answers (0 ∷ []) ≡ s.refusal = pass (answers (0 ∷ [])) ∙ cond-true s.met s.refusal (stopped ss (answers (0 ∷ []))) met in
    let z : ◌≡◌ {A = ℕ} 0 1 = cc in
    absurd (omega arith))
    (λ unmet. (record { unmet = unmet }, all_unmet ss (λ o. pass o ∙ cond-false s.met s.refusal (stopped ss o) unmet)))
    (cases_Bool s.met)

-- a check that refused, handed on
pub through : {T : Type 0} (r : Result T Fault) (y e : Fault) (x o : Outcome) → r ≡ Err y → y ≡ e → refusal e ≡ x → checked r o ≡ x
through r y e x o is same refused = ap (λ z. checked z o) is ∙ (ap refusal same ∙ refused)
