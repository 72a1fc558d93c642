-- What refuses a question that is handed no chain: never a line of one. Assumes nothing.
use Rattle.std.proofs.Common.{◌≡◌, ℕ, Bool, [], ◌∷◌, sym, ap, ◌∙◌, ⊎_elim, arith}
use Rattle.std.proofs.lemmas.Bool.{cases_Bool, cond-true, cond-false}
use Rattle.book.specs.Limits.{accounts}
use Rattle.book.specs.Outcome.{book, chain, answers, refuses, stop, stopped}
use Rattle.book.specs.Search.{some_of}
use Rattle.book.specs.Tally.{Tally}
use Rattle.book.specs.Totals.{balance_stops, differs}
use Rattle.chains.specs.Faults.{refusal}
use Rattle.chains.specs.declared.faults.Fault.{Fault as ChainFault}
use Rattle.chains.specs.declared.faults.Fault.TheVariants.{Line}
use Rattle.book.specs.Faults.{number, carries}
use Rattle.book.specs.declared.entries.Fault.{Fault}
use Rattle.book.specs.declared.entries.Fault.TheVariants.{Full, AccountTooHigh, NotUpward, AmountOutOfLimits, NotPosted, LineStruck, Unbalanced}

-- a question that no line of a chain is handed to is refused by a stop of the chain's own, or for the balance
line_carries : (g : Fault) (r u v w : ℕ) → refuses book (number g) (r ∷ carries g) ≡ refuses book 7 (u ∷ v ∷ w ∷ []) → ⊥
line_carries Full r u v w s = let q : ◌≡◌ {A = ℕ} 1 7 = cc in omega arith
line_carries (AccountTooHigh account) r u v w s = let q : ◌≡◌ {A = ℕ} 2 7 = cc in omega arith
line_carries NotUpward r u v w s = let q : ◌≡◌ {A = ℕ} 3 7 = cc in omega arith
line_carries (AmountOutOfLimits amount) r u v w s = let q : ◌≡◌ {A = ℕ} 4 7 = cc in omega arith
line_carries (NotPosted line) r u v w s = let q : ◌≡◌ {A = ℕ} 5 7 = cc in omega arith
line_carries (LineStruck line) r u v w s = let q : ◌≡◌ {A = ℕ} 6 7 = cc in omega arith
line_carries (Unbalanced account entering leaving) r u v w s = let q : ◌≡◌ {A = ℕ} 0 1 = cc in omega arith

balance_refused : (t : Tally) (e : ChainFault) → refusal e ≡ stopped (balance_stops t) (answers []) → (p : ℕ) (f : Fault) → e ≡ Line p f → ⊥
unfolding balance_stops
balance_refused t e is p f line =
    ⊎_elim
    (λ met. line_carries f p _ _ _ (sym (ap refusal line) ∙ (is ∙ cond-true _ _ _ met)))
    (λ unmet. let s : refuses book (number f) (p ∷ carries f) ≡ answers [] = sym (ap refusal line) ∙ (is ∙ cond-false _ _ _ unmet) in let q : ◌≡◌ {A = ℕ} 0 1 = cc in omega arith)
    (cases_Bool (some_of (differs t) 0 accounts))

-- a stop with no values of the chain's own before the balance
pub question_refused : (t : Tally) (met : Bool) (n : ℕ) (e : ChainFault) → refusal e ≡ stopped (stop met chain n [] ∷ []) (stopped (balance_stops t) (answers [])) → (p : ℕ) (f : Fault) → e ≡ Line p f → ⊥
question_refused t met n e is p f line =
    ⊎_elim
    (λ yes'. let s : refuses book (number f) (p ∷ carries f) ≡ refuses chain n [] = sym (ap refusal line) ∙ (is ∙ cond-true _ _ _ yes') in let q : ◌≡◌ {A = ℕ} 0 1 = cc in omega arith)
    (λ unmet. balance_refused t e (is ∙ cond-false _ _ _ unmet) p f line)
    (cases_Bool met)
