-- What the lowest number that passes a test is. Assumes nothing.
use Rattle.std.proofs.Common.{◌≡◌, ℕ, zero, suc, ◌+◌, ◌<◌, ◌≤◌, Bool, true, false, sym, refl, ap, ◌∙◌, ⊎_elim, arith}
use Rattle.std.proofs.lemmas.Bool.{cond-true, cond-false, or_left, or_right, or_from, cases_eq}
use Rattle.book.specs.Search.{lowest_of, some_of}

pub lowest_of_first : (p : ℕ → Bool) (none i count a : ℕ) → i ≤ a → a < i + count → p a ≡ true → ((b : ℕ) → i ≤ b → b < a → p b ≡ false) → lowest_of p none i count ≡ a
lowest_of_first p none i zero a le lt here lower = absurd (omega arith)
lowest_of_first p none i (suc count) a le lt here lower =
    ⊎_elim
    (λ same. cond-true (p i) i (lowest_of p none (i + 1) count) (ap p (sym same) ∙ here) ∙ sym same)
    (λ other. cond-false (p i) i (lowest_of p none (i + 1) count) (lower i (omega arith) (omega arith)) ∙ lowest_of_first p none (i + 1) count a (omega arith) (omega arith) here (λ b ge. lower b (omega arith)))
    (cases_eq a i)

pub some_of_true : (p : ℕ → Bool) (i count a : ℕ) → i ≤ a → a < i + count → p a ≡ true → some_of p i count ≡ true
some_of_true p i zero a le lt here = absurd (omega arith)
some_of_true p i (suc count) a le lt here =
    ⊎_elim
    (λ same. or_left (p i) (some_of p (i + 1) count) (ap p (sym same) ∙ here))
    (λ other. or_right (p i) (some_of p (i + 1) count) (some_of_true p (i + 1) count a (omega arith) (omega arith) here))
    (cases_eq a i)

pub some_of_false : (p : ℕ → Bool) (i count : ℕ) → ((a : ℕ) → i ≤ a → a < i + count → p a ≡ false) → some_of p i count ≡ false
some_of_false p i zero none = refl
some_of_false p i (suc count) none =
    or_from (p i) (some_of p (i + 1) count) (none i (omega arith) (omega arith)) (some_of_false p (i + 1) count (λ a ge lt. none a (omega arith) (omega arith)))
