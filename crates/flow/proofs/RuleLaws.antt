-- The rules lowest, widest and avoiding are lawful: whenever a line is open at an account, each names such a line. Assumes nothing.
use Rattle.std.proofs.Common.{◌≡◌, ℕ, zero, suc, ◌+◌, ◌<◌, ◌≤◌, Bool, true, false, cond, not, ◌&&◌, eqb, ltb, ◌⊎◌, List, [], ◌∷◌, ◌++◌, length, get_or, sum, sym, refl, ◌∙◌, subst, inl, inr, ⊎_elim, arith}
use Rattle.std.proofs.lemmas.List.{get_or_past}
use Rattle.std.proofs.lemmas.List.Sums.{get_or-le-sum_by}
use Rattle.std.proofs.lemmas.Bool.{cases_Bool, cases_eq, cases_lt, cond-true, cond-false, cond_both, both_ways, and_parts, and_from, and_cases, or_cases, eqb-true, ltb-true, lt-ltb, not-false, not_from_false}
use Rattle.book.specs.Tally.{Tally, at}
use Rattle.book.specs.Totals.{leaves}
use Rattle.flow.specs.Chains.{from_of, to_of, runs, is_chain}
use Rattle.book.specs.Search.{lowest_of, some_of}
use Rattle.flow.specs.Rules.{Law, Open, is_open, lowest, is_exceeded, widest, turn, ends_with, avoiding_from, avoiding}
use Rattle.flow.proofs.ChainFacts.{leaves_live, leaves_own, leaves_within, runs_step, chain_step}

-- the lowest number that passes does pass, or else none passes
pub lowest_of_finds : (p : ℕ → Bool) (none i count : ℕ) → (p (lowest_of p none i count) ≡ true) ⊎ ((lowest_of p none i count ≡ none) × ((k : ℕ) → i ≤ k → k < i + count → p k ≡ false))
lowest_of_finds p none i zero = inr (refl, λ k low high. absurd (omega arith))
lowest_of_finds p none i (suc count) =
    ⊎_elim
    (λ here. inl (subst (λ r. p r ≡ true) (sym (cond-true (p i) i (lowest_of p none (i + 1) count) here)) here))
    (λ gone.
    let same = cond-false (p i) i (lowest_of p none (i + 1) count) gone in
    ⊎_elim
    (λ found. inl (subst (λ r. p r ≡ true) (sym same) found))
    (λ nothing. inr (same ∙ nothing.0, λ k low high. ⊎_elim (λ here. subst (λ j. p j ≡ false) here gone) (λ later. nothing.1 k (omega arith) (omega arith)) (cases_eq i k)))
    (lowest_of_finds p none (i + 1) count))
    (cases_Bool (p i))

some_of_some : (p : ℕ → Bool) (i count : ℕ) → some_of p i count ≡ true → (n : ℕ) × (p n ≡ true)
some_of_some p i zero h = absurd (both_ways false refl h)
some_of_some p i (suc count) h =
    ⊎_elim
    (λ here. (i, here))
    (λ later. some_of_some p (i + 1) count later)
    (or_cases (p i) (some_of p (i + 1) count) h)

-- an open line is a line of the tally with tonnes left
pub open_leaves : (t : Tally) (left : List ℕ) (a n : ℕ) → Open t left a n → leaves a (at t n) ≡ true
open_leaves t left a n h = (and_parts (leaves a (at t n)) (ltb 0 (get_or left n 0)) h).0

pub open_some : (t : Tally) (left : List ℕ) (a n : ℕ) → Open t left a n → 0 < get_or left n 0
open_some t left a n h = ltb-true 0 (get_or left n 0) (and_parts (leaves a (at t n)) (ltb 0 (get_or left n 0)) h).1

pub open_from : (t : Tally) (left : List ℕ) (a n : ℕ) → leaves a (at t n) ≡ true → 0 < get_or left n 0 → Open t left a n
open_from t left a n out some = and_from (leaves a (at t n)) (ltb 0 (get_or left n 0)) out (lt-ltb 0 (get_or left n 0) some)

get_or_le_sum : (ws : List ℕ) (n : ℕ) → get_or ws n 0 ≤ sum ws
get_or_le_sum ws n =
    ⊎_elim
    (λ within. get_or-le-sum_by (λ x. x) ws n 0 within)
    (λ past. omega (arith, get_or_past ws n 0 past))
    (cases_lt n (length ws))

module _ (t : Tally) (left : List ℕ) (a : ℕ) where
  exceeding : (n : ℕ) → is_exceeded t left a n ≡ true → (m : ℕ) × Open t left a m × (get_or left n 0 < get_or left m 0)
  exceeding n more =
      let r = some_of_some (λ m. is_open t left a m && ltb (get_or left n 0) (get_or left m 0)) 0 (length t) more in
      let both = and_parts (is_open t left a r.0) (ltb (get_or left n 0) (get_or left r.0 0)) r.1 in
      (r.0, both.0, ltb-true (get_or left n 0) (get_or left r.0 0) both.1)

  -- from an open line to one that no open line exceeds
  widest_from : (fuel n : ℕ) → sum left ≤ fuel + get_or left n 0 → Open t left a n → (m : ℕ) × Open t left a m × (is_exceeded t left a m ≡ false)
  widest_from zero n enough opened =
      ⊎_elim
      (λ more. let r = exceeding n more in absurd (omega (arith, r.2, get_or_le_sum left r.0)))
      (λ most. (n, opened, most))
      (cases_Bool (is_exceeded t left a n))
  widest_from (suc fuel) n enough opened =
      ⊎_elim
      (λ more. let r = exceeding n more in widest_from fuel r.0 (omega (arith, r.2)) r.1)
      (λ most. (n, opened, most))
      (cases_Bool (is_exceeded t left a n))

  module _ (m : ℕ) (opened : Open t left a m) where
    posted : m < length t
    posted = leaves_within t a m (open_leaves t left a m opened)

    lowest-open : (walked : List ℕ) → Open t left a (lowest t left a walked)
    lowest-open walked =
        ⊎_elim
        (λ found. found)
        (λ nothing. absurd (both_ways (is_open t left a m) (nothing.1 m (omega arith) (omega (arith, posted))) opened))
        (lowest_of_finds (is_open t left a) 0 0 (length t))

    widest_open : (walked : List ℕ) → Open t left a (widest t left a walked)
    widest_open walked =
        let p : ℕ → Bool = λ k. is_open t left a k && not (is_exceeded t left a k) in
        let w = widest_from (sum left) m (omega arith) opened in
        let passes : p w.0 ≡ true = and_from (is_open t left a w.0) (not (is_exceeded t left a w.0)) w.1 (not_from_false (is_exceeded t left a w.0) w.2) in
        ⊎_elim
        (λ found. (and_parts (is_open t left a (widest t left a walked)) (not (is_exceeded t left a (widest t left a walked))) found).0)
        (λ nothing. absurd (both_ways (p w.0) (nothing.1 w.0 (omega arith) (omega (arith, leaves_within t a w.0 (open_leaves t left a w.0 w.1)))) passes))
        (lowest_of_finds p 0 0 (length t))

    -- the lowest other open line is open; where there is none, the line itself is
    other_open : (n : ℕ) → Open t left a (lowest_of (λ k. is_open t left a k && not (eqb k n)) n 0 (length t))
    other_open n =
        let p : ℕ → Bool = λ k. is_open t left a k && not (eqb k n) in
        ⊎_elim
        (λ found. (and_parts (is_open t left a (lowest_of p n 0 (length t))) (not (eqb (lowest_of p n 0 (length t)) n)) found).0)
        (λ nothing. subst (Open t left a) (only (nothing.1 m (omega arith) (omega (arith, posted))) ∙ sym nothing.0) opened)
        (lowest_of_finds p n 0 (length t))
      where
        only : (is_open t left a m && not (eqb m n)) ≡ false → m ≡ n
        only e =
            ⊎_elim
            (λ shut. absurd (both_ways (is_open t left a m) shut opened))
            (λ same. eqb-true m n (not-false (eqb m n) same))
            (and_cases (is_open t left a m) (not (eqb m n)) e)

    turn_open : (front : List ℕ) (n : ℕ) (walked : List ℕ) → leaves a (at t n) ≡ true → Open t left a (turn front n t left a walked)
    turn_open front n walked out =
        cond_both (ends_with walked front) (lowest_of (λ k. is_open t left a k && not (eqb k n)) n 0 (length t)) (cond (ltb 0 (get_or left n 0)) n (lowest t left a walked)) (Open t left a)
        (λ after. other_open n)
        (λ elsewhere. cond_both (ltb 0 (get_or left n 0)) n (lowest t left a walked) (Open t left a) (λ some. and_from (leaves a (at t n)) (ltb 0 (get_or left n 0)) out some) (λ none. lowest-open walked))

    avoiding_from_open : (front ns : List ℕ) (b : ℕ) (walked : List ℕ) → runs t b ns ≡ true → Open t left a (avoiding_from front ns t left a walked)
    avoiding_from_open front [] b walked run = lowest-open walked
    avoiding_from_open front (n ∷ ns) b walked run =
        let p = runs_step t b n ns run in
        cond_both (eqb (from_of (at t n)) a) (turn front n t left a walked) (avoiding_from (front ++ n ∷ []) ns t left a walked) (Open t left a)
        (λ here. turn_open front n walked (subst (λ x. leaves x (at t n) ≡ true) (eqb-true (from_of (at t n)) a here) (leaves_own (at t n) (leaves_live b (at t n) p.0))))
        (λ elsewhere. avoiding_from_open (front ++ n ∷ []) ns (to_of (at t n)) walked p.1)

    avoiding_open : (c walked : List ℕ) → Open t left a (avoiding c t left a walked)
    avoiding_open [] walked = lowest-open walked
    avoiding_open (n ∷ ns) walked =
        cond_both (is_chain t (n ∷ ns)) (avoiding_from (n ∷ []) ns t left a walked) (lowest t left a walked) (Open t left a)
        (λ chain. avoiding_from_open (n ∷ []) ns (to_of (at t n)) walked (chain_step t n ns chain).1)
        (λ broken. lowest-open walked)

pub law_lowest : Law lowest
law_lowest t left a walked well long n opened = lowest-open t left a n opened walked

pub law_widest : Law widest
law_widest t left a walked well long n opened = widest_open t left a n opened walked

pub law_avoiding : (c : List ℕ) → Law (avoiding c)
law_avoiding c t left a walked well long n opened = avoiding_open t left a n opened c walked
