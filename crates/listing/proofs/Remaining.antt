-- How many lists that a chain may be stand after a given one: it falls from each to the next. Assumes nothing.
use Rattle.std.proofs.Common.{◌≡◌, ℕ, ◌<◌, ◌≤◌, Bool, true, false, cond, List, [], ◌∷◌, length, ap, ◌∙◌, ⊎_elim, arith}
use Rattle.std.proofs.lemmas.Bool.{cases_Bool, cond-false, cond-true}
use Rattle.std.specs.List.{ContainsAt}
use Rattle.book.specs.Tally.{Tally}
use Rattle.book.specs.Totals.{total}
use Rattle.flow.proofs.AllChains.{has_cases, has_lists, has_none, lists}
use Rattle.flow.proofs.ChainFacts.{chain_short, chain_within}
use Rattle.flow.proofs.Order.{is_before, before_true, true_before, before_irreflexive, before_transitive}
use Rattle.flow.proofs.Sums.{false_unless, total_le}
use Rattle.flow.specs.Chains.{Chain, longest_chain}
use Rattle.flow.specs.Listing.{Before}

-- counts under a weaker and a stronger test
abbrev counted : {X : Type 0} → (X → Bool) → X → ℕ
counted p x = cond (p x) 1 0

module _ {X : Type 0} (p q : X → Bool) (stronger : (y : X) → q y ≡ true → p y ≡ true) where
  one_le : (y : X) → counted q y ≤ counted p y
  one_le y =
      ⊎_elim
      (λ h. omega (arith, cond-true {A = ℕ} (q y) 1 0 h, cond-true {A = ℕ} (p y) 1 0 (stronger y h)))
      (λ h. omega (arith, cond-false {A = ℕ} (q y) 1 0 h))
      (cases_Bool (q y))

  count_less : (xs : List X) (x : X) → ContainsAt xs x → p x ≡ true → q x ≡ false → total (counted q) xs < total (counted p) xs
  count_less [] x has passes fails = absurd (has_none x has)
  count_less (y ∷ xs) x has passes fails =
      ⊎_elim
      (λ same. omega (arith, cond-true {A = ℕ} (p y) 1 0 (ap p same ∙ passes), cond-false {A = ℕ} (q y) 1 0 (ap q same ∙ fails), total_le (counted q) (counted p) one_le xs))
      (λ later. omega (arith, one_le y, count_less xs x later passes fails))
      (has_cases y xs x has)

pub remaining : Tally → List ℕ → ℕ
remaining t c = total (counted (is_before c)) (lists longest_chain (length t))

pub remaining_falls : (t : Tally) (c d : List ℕ) → Before c d → Chain t d → remaining t d < remaining t c
unfolding remaining
remaining_falls t c d before chain =
    count_less (is_before c) (is_before d) (λ e h. true_before c e (before_transitive c d e before (before_true d e h)))
    (lists longest_chain (length t)) d (has_lists longest_chain (length t) d (chain_short t d chain) (chain_within t d chain))
    (true_before c d before) (false_unless (is_before d d) (λ h. before_irreflexive d (before_true d d h)))
