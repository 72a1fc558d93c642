-- The widest open line among the first lines of a book. Assumes nothing.
--   Best   of the lines below a number, the open line with most tonnes left, the lowest among equals
use Rattle.std.proofs.Common.{◌≡◌, ℕ, ◌+◌, ◌<◌, ◌≤◌, Bool, true, false, not, ◌&&◌, ltb, ◌⊎◌, List, length, get_or, sym, ap, ◌∙◌, subst, inl, inr, ⊎_elim, arith}
use Rattle.std.proofs.lemmas.Bool.{and_from, and_parts, both_ways, cases_eq, lt-ltb, ltb-true, not_from_false, not-true}
use Rattle.book.proofs.Search.{lowest_of_first, some_of_true, some_of_false}
use Rattle.book.specs.Tally.{Tally, at}
use Rattle.book.specs.Totals.{leaves}
use Rattle.flow.proofs.RuleLaws.{open_from, open_leaves, open_some}
use Rattle.flow.proofs.ChainFacts.{leaves_within}
use Rattle.flow.proofs.Sums.{false_unless}
use Rattle.flow.specs.Rules.{is_open, Open, is_exceeded, widest}
use Rattle.dividing.proofs.LowestOf.{lowest_of_none}

pub record First (t : Tally) (left : List ℕ) (a i best most : ℕ) : Type 0 where
  pub below : best < i
  pub opened : Open t left a best
  pub tonnes : get_or left best 0 ≡ most
  pub first : (k : ℕ) → k < best → Open t left a k → get_or left k 0 < most

pub record Best (t : Tally) (left : List ℕ) (a i best most : ℕ) : Type 0 where
  pub bound : (k : ℕ) → k < i → Open t left a k → get_or left k 0 ≤ most
  pub found : ((best ≡ 0) × (most ≡ 0)) ⊎ First t left a i best most

module _ (t : Tally) (left : List ℕ) (a : ℕ) where
  pub best_same : (i best most : ℕ) → Best t left a i best most → (Open t left a i → get_or left i 0 ≤ most) → Best t left a (i + 1) best most
  best_same i best most so here = record {
    bound = λ k lt opened. ⊎_elim (λ same. omega (arith, ap (λ j. get_or left j 0) same, here (subst (Open t left a) same opened))) (λ other. so.bound k (omega arith) opened) (cases_eq k i);
    found = ⊎_elim (λ none. inl none) (λ f. inr (record { below = omega (arith, f.below); opened = f.opened; tonnes = f.tonnes; first = f.first })) so.found;
  }

  pub best_more : (i best most tonnes : ℕ) → tonnes ≡ get_or left i 0 → Best t left a i best most → leaves a (at t i) ≡ true → most < tonnes → Best t left a (i + 1) i tonnes
  best_more i best most tonnes is so out more = record {
    bound = λ k lt opened. ⊎_elim (λ same. omega (arith, ap (λ j. get_or left j 0) same)) (λ other. omega (arith, so.bound k (omega arith) opened)) (cases_eq k i);
    found = inr (record {
      below = omega arith;
      opened = open_from t left a i out (omega arith);
      tonnes = sym is;
      first = λ k lt opened. omega (arith, so.bound k lt opened);
    });
  }

  -- at the end it is the widest
  abbrev passes : ℕ → Bool
  passes k = is_open t left a k && not (is_exceeded t left a k)

  abbrev exceeds : ℕ → ℕ → Bool
  exceeds n m = is_open t left a m && ltb (get_or left n 0) (get_or left m 0)

  module _ (best most : ℕ) (so : Best t left a (length t) best most) where
    bounded : (k : ℕ) → Open t left a k → get_or left k 0 ≤ most
    bounded k opened = so.bound k (leaves_within t a k (open_leaves t left a k opened)) opened

    unexceeded : (f : First t left a (length t) best most) → is_exceeded t left a best ≡ false
    unexceeded f =
        some_of_false (exceeds best) 0 (length t) (λ m ge lt. false_unless (exceeds best m) (λ h.
        let both = and_parts (is_open t left a m) (ltb (get_or left best 0) (get_or left m 0)) h in
        omega (arith, ltb-true (get_or left best 0) (get_or left m 0) both.1, bounded m both.0, f.tonnes)))

    lower : First t left a (length t) best most → (k : ℕ) → k < best → passes k ≡ false
    lower f k lt =
        false_unless (passes k) (λ h.
        let both = and_parts (is_open t left a k) (not (is_exceeded t left a k)) h in
        let more = and_from (is_open t left a best) (ltb (get_or left k 0) (get_or left best 0)) f.opened (lt-ltb (get_or left k 0) (get_or left best 0) (omega (arith, f.first k lt both.0, f.tonnes))) in
        both_ways (is_exceeded t left a k) (not-true (is_exceeded t left a k) both.1) (some_of_true (exceeds k) 0 (length t) best (omega arith) (omega (arith, f.below)) more))

    pub best_all : (walked : List ℕ) → best ≡ widest t left a walked
    best_all walked =
        ⊎_elim
        (λ none.
        none.0
        ∙ sym (lowest_of_none passes 0 0 (length t) (λ k ge lt. false_unless (passes k) (λ h.
        let opened = (and_parts (is_open t left a k) (not (is_exceeded t left a k)) h).0 in
        omega (arith, bounded k opened, open_some t left a k opened, none.1)))))
        (λ f. sym (lowest_of_first passes 0 0 (length t) best (omega arith) (omega (arith, f.below)) (and_from (is_open t left a best) (not (is_exceeded t left a best)) f.opened (not_from_false (is_exceeded t left a best) (unexceeded f))) (λ k ge lt. lower f k lt)))
        so.found
