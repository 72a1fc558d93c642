-- A test of lists of greatest certain chains that computes, and what it shows. Assumes nothing.
--   every_run, every_chain   all runs from an account, or all chains of a book, pass a test
--   is_listing   the test for the list at a floor
use Rattle.std.proofs.Common.{◌≡◌, ℕ, zero, suc, ◌<◌, ◌≤◌, Bool, true, false, cond, not, ◌&&◌, ◌||◌, List, [], ◌∷◌, length, sym, refl, ◌∙◌, subst, ⊎_elim, arith}
use Rattle.std.proofs.ByRecursion.{has_get_or, has_append_right}
use Rattle.std.proofs.lemmas.Bool.{and_parts, or_cases, not-true, both_ways, cond-true}
use Rattle.std.specs.List.{ContainsAt}
use Rattle.book.specs.Tally.{Tally, at, WellFormed}
use Rattle.book.specs.Totals.{any, leaves, Balanced}
use Rattle.flow.specs.Chains.{to_of, runs, Chain, longest_chain}
use Rattle.flow.specs.Listing.{Before, Listing}
use Rattle.flow.specs.Rules.{same_list}
use Rattle.flow.specs.Splits.{Greatest}
use Rattle.flow.proofs.AllChains.{Sorted}
use Rattle.flow.proofs.ChainFacts.{runs_step, chain_step, chain_short, leaves_within, live_within}
use Rattle.flow.proofs.CheckedSplits.{every, every_all}
use Rattle.flow.proofs.Infix.{same_list_is}
use Rattle.flow.proofs.Listed.{is_greatest, greatest_decided, rest_listing}
use Rattle.flow.proofs.Order.{is_before, before_true}
use Rattle.flow.proofs.Sums.{every_below, decides_every_below}

-- a test passed by every number below one is passed by each
every_below_at : (p : ℕ → Bool) (n : ℕ) → every_below p n ≡ true → (k : ℕ) → k < n → p k ≡ true
every_below_at p n h = (decides_every_below p (λ k. p k ≡ true) (λ k. ((λ y. y), (λ y. y))) n).0 h

-- by the number of lines at most
abbrev every_run : Tally → (List ℕ → Bool) → ℕ → ℕ → Bool
every_run t p zero a = p []
every_run t p (suc most) a = p [] && every_below (λ n. cond (leaves a (at t n)) (every_run t (λ ns. p (n ∷ ns)) most (to_of (at t n))) true) (length t)

abbrev pub every_chain : Tally → (List ℕ → Bool) → Bool
every_chain t p = every_below (λ n. every_run t (λ ns. p (n ∷ ns)) longest_chain (to_of (at t n))) (length t)

every_run_lem : (t : Tally) (p : List ℕ → Bool) (most a : ℕ) (c : List ℕ) → every_run t p most a ≡ true → runs t a c ≡ true → length c ≤ most → p c ≡ true
every_run_lem t p zero a [] h run short = h
every_run_lem t p zero a (n ∷ ns) h run short = absurd (omega arith)
every_run_lem t p (suc most) a [] h run short = (and_parts (p []) _ h).0
every_run_lem t p (suc most) a (n ∷ ns) h run short =
    let step = runs_step t a n ns run in
    let on : ℕ → Bool = λ m. every_run t (λ ms. p (m ∷ ms)) most (to_of (at t m)) in
    let here : cond (leaves a (at t n)) (on n) true ≡ true = every_below_at (λ m. cond (leaves a (at t m)) (on m) true) (length t) (and_parts (p []) _ h).1 n (leaves_within t a n step.0) in
    every_run_lem t (λ ms. p (n ∷ ms)) most (to_of (at t n)) ns (sym (cond-true (leaves a (at t n)) (on n) true step.0) ∙ here) step.1 (omega arith)

every_chain_lem : (t : Tally) (p : List ℕ → Bool) (c : List ℕ) → every_chain t p ≡ true → Chain t c → p c ≡ true
every_chain_lem t p [] h chain = absurd (both_ways false refl chain)
every_chain_lem t p (n ∷ ns) h chain =
    let step = chain_step t n ns chain in
    every_run_lem t (λ ms. p (n ∷ ms)) longest_chain (to_of (at t n)) ns
    (every_below_at (λ m. every_run t (λ ms. p (m ∷ ms)) longest_chain (to_of (at t m))) (length t) h n (live_within t n step.0))
    step.1
    (omega (arith, chain_short t (n ∷ ns) chain))

abbrev pub is_sorted : List (List ℕ) → Bool
is_sorted [] = true
is_sorted (c ∷ cs) = every (is_before c) cs && is_sorted cs

sorted_checked : (cs : List (List ℕ)) → is_sorted cs ≡ true → Sorted cs
sorted_checked [] h = tt
sorted_checked (c ∷ cs) h =
    let p = and_parts (every (is_before c) cs) (is_sorted cs) h in
    (every_all (is_before c) (Before c) (before_true c) cs p.0, sorted_checked cs p.1)

has_checked : (cs : List (List ℕ)) (d : List ℕ) → any (same_list d) cs ≡ true → ContainsAt cs d
has_checked [] d h = absurd (both_ways false refl h)
has_checked (c ∷ cs) d h =
    ⊎_elim
    (λ same. subst (ContainsAt (c ∷ cs)) (sym (same_list_is d c same)) (has_get_or (c ∷ cs) 0 c (omega arith)))
    (λ later. has_append_right (c ∷ []) cs d (has_checked cs d later))
    (or_cases (same_list d c) (any (same_list d) cs) h)

-- in order, all greatest, and no chain of the book that is greatest is missing
abbrev pub is_listing : Tally → ℕ → List (List ℕ) → Bool
is_listing t w cs =
    is_sorted ([] ∷ cs)
    && (every (is_greatest t w) cs && every_chain t (λ c. not (is_greatest t w c) || any (same_list c) cs))

module _ (t : Tally) (w : ℕ) (well : WellFormed t) (balanced : Balanced t) (some : 0 < w) where
  missing_none : (cs : List (List ℕ)) (d : List ℕ) → every_chain t (λ c. not (is_greatest t w c) || any (same_list c) cs) ≡ true → Greatest t w d → ContainsAt cs d
  missing_none cs d h greatest =
      ⊎_elim
      (λ other. absurd (both_ways (is_greatest t w d) (not-true (is_greatest t w d) other) ((greatest_decided t w well balanced some d).1 greatest)))
      (has_checked cs d)
      (or_cases (not (is_greatest t w d)) (any (same_list d) cs) (every_chain_lem t (λ c. not (is_greatest t w c) || any (same_list c) cs) d h greatest.chain))

  pub listing_checked : (cs : List (List ℕ)) → is_listing t w cs ≡ true → Listing t w [] cs
  listing_checked cs h =
      let first = and_parts (is_sorted ([] ∷ cs)) _ h in
      let rest = and_parts (every (is_greatest t w) cs) _ first.1 in
      let sorted : Sorted ([] ∷ cs) = sorted_checked ([] ∷ cs) first.0 in
      rest_listing t w [] cs sorted.0 (record {
        sorted = sorted.1;
        only = every_all (is_greatest t w) (Greatest t w) (λ c. (greatest_decided t w well balanced some c).0) cs rest.0;
        every = λ d greatest after. missing_none cs d rest.1 greatest;
      })
