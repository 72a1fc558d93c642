-- The lowest number that passes a test. Assumes nothing.
use Rattle.std.proofs.Common.{◌≡◌, ℕ, zero, suc, ◌+◌, ◌<◌, ◌≤◌, Bool, true, false, Some, None, Option, MatchOption, unwrap_or, sym, refl, ◌∙◌, arith}
use Rattle.std.proofs.lemmas.Bool.{cond-false}
use Rattle.book.proofs.Search.{lowest_of_first}
use Rattle.book.specs.Search.{lowest_of}

-- none of a range passes
pub lowest_of_none : (p : ℕ → Bool) (none i count : ℕ) → ((k : ℕ) → i ≤ k → k < i + count → p k ≡ false) → lowest_of p none i count ≡ none
lowest_of_none p none i zero all = refl
lowest_of_none p none i (suc count) all =
    cond-false (p i) i (lowest_of p none (i + 1) count) (all i (omega arith) (omega arith)) ∙ lowest_of_none p none (i + 1) count (λ k ge lt. all k (omega arith) (omega arith))

-- what `find` answers over the numbers below n, or else the number given
pub lowest_of_found : (p : ℕ → Bool) (none n m : ℕ) (r : Option ℕ) → n ≡ m → MatchOption r ((k : ℕ) → 0 ≤ k → k < n → p k ≡ false) (λ i. (0 ≤ i) × (i < n) × (p i ≡ true) × ((k : ℕ) → 0 ≤ k → k < i → p k ≡ false)) → unwrap_or r none ≡ lowest_of p none 0 m
lowest_of_found p none n m None long all = sym (lowest_of_none p none 0 m (λ k ge lt. all k ge (omega arith)))
lowest_of_found p none n m (Some i) long first =
    sym (lowest_of_first p none 0 m i (omega arith) (omega (arith, first.1)) first.2 first.3)
