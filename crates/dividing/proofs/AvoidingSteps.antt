-- The avoiding rule, line by line of its chain. Assumes nothing.
use Rattle.std.proofs.Common.{◌≡◌, ℕ, zero, suc, ◌+◌, ◌-◌, ◌<◌, ◌≤◌, Bool, true, false, Some, None, cond, not, ◌&&◌, eqb, ltb, List, [], ◌∷◌, ◌++◌, length, get_or, take, drop, sym, refl, ap, ◌∙◌, ⊎_elim, arith, rules}
use Rattle.std.proofs.lemmas.List.{at_drop_more, at_drop_all, take_more}
use Rattle.std.proofs.lemmas.Bool.{both_ways, cases_Bool, cond-true, cond-false, eq-eqb, ne_eqb, le-ltb, lt-ltb}
use Rattle.std.proofs.lemmas.Slice.Eq.{compares_Decides, slice_eq-Decides}
use Rattle.std.proofs.lemmas.Bool.Decides.{same_from_decides, Decides-eqb}
use Rattle.std.specs.Cmp.Lexicographic.{pointwise}
use Rattle.book.specs.Search.{lowest_of}
use Rattle.book.specs.Tally.{Tally, at}
use Rattle.dividing.specs.Places.{InnerPlace, LeavesAt}
use Rattle.flow.specs.Chains.{from_of, is_chain}
use Rattle.flow.specs.Rules.{is_open, lowest, same_list, ends_with, turn, avoiding_from, avoiding}

-- the chain from a place on
module _ (t : Tally) (left : List ℕ) (a : ℕ) (walked : List ℕ) where
  abbrev from_place : List ℕ → ℕ → ℕ
  from_place c i = avoiding_from (take i c) (drop i c) t left a walked

  module _ (c : List ℕ) (i : ℕ) (h : i < length c) where
    split : from_place c i ≡ cond (eqb (from_of (at t (get_or c i 0))) a) (turn (take i c) (get_or c i 0) t left a walked) (avoiding_from (take i c ++ get_or c i 0 ∷ []) (drop (i + 1) c) t left a walked)
    split = at_drop_more (λ d. avoiding_from (take i c) d t left a walked) c i 0 h

    place_turns : from_of (at t (get_or c i 0)) ≡ a → from_place c i ≡ turn (take i c) (get_or c i 0) t left a walked
    place_turns here = split ∙ cond-true _ _ _ (eq-eqb (from_of (at t (get_or c i 0))) a here)

    place_more : (from_of (at t (get_or c i 0)) ≡ a → ⊥) → from_place c i ≡ from_place c (i + 1)
    place_more elsewhere =
        split
        ∙ (cond-false _ _ _ (ne_eqb (from_of (at t (get_or c i 0))) a elsewhere) ∙ ap (λ f. avoiding_from f (drop (i + 1) c) t left a walked) (sym (take_more c i 0 h)))

  place_first : (c : List ℕ) → is_chain t c ≡ true → from_place c 1 ≡ avoiding c t left a walked
  place_first [] chain = absurd (both_ways (is_chain t []) refl chain)
  place_first (n ∷ ns) chain = sym (cond-true (is_chain t (n ∷ ns)) _ _ chain)

  -- past lines of the chain that leave other accounts
  place_past : (c : List ℕ) (d : ℕ) → d < length c → ((k : ℕ) → 1 ≤ k → k < 1 + d → LeavesAt t a c k → ⊥) → from_place c 1 ≡ from_place c (1 + d)
  place_past c zero within none = refl
  place_past c (suc d) within none =
      place_past c d (omega arith) (λ k ge lt. none k ge (omega arith))
      ∙ (place_more c (1 + d) (omega arith) (none (1 + d) (omega arith) (omega arith)) ∙ ap (from_place c) (omega arith))

  pub avoiding_turns : (c : List ℕ) (i j : ℕ) → j ≡ i → InnerPlace t a c (Some i) → turn (take j c) (get_or c i 0) t left a walked ≡ avoiding c t left a walked
  avoiding_turns c i j same (chain, inner, within, here, none) =
      let before = place_past c (i - 1) (omega arith) (λ k ge lt. none k ge (omega arith)) in
      let place : 1 + (i - 1) ≡ i = omega arith in
      ap (λ k. turn (take k c) (get_or c i 0) t left a walked) same
      ∙ sym (place_turns c i within here) ∙ (sym (ap (from_place c) place) ∙ (sym before ∙ place_first c chain))

  avoiding_broken : (c : List ℕ) → is_chain t c ≡ false → lowest t left a walked ≡ avoiding c t left a walked
  avoiding_broken [] broken = refl
  avoiding_broken (n ∷ ns) broken = sym (cond-false (is_chain t (n ∷ ns)) _ _ broken)

  avoiding_passes : (c : List ℕ) → InnerPlace t a c None → is_chain t c ≡ true → lowest t left a walked ≡ avoiding c t left a walked
  avoiding_passes [] none chain = refl
  avoiding_passes (n ∷ ns) none chain =
      let c = n ∷ ns in
      let past = place_past c (length ns) (omega arith) (λ k ge lt. none chain k ge (omega arith)) in
      let all = at_drop_all (λ d. avoiding_from (take (1 + length ns) c) d t left a walked) c (1 + length ns) (omega arith) in
      sym all ∙ (sym past ∙ place_first c chain)

  pub avoiding_lowest : (c : List ℕ) → InnerPlace t a c None → lowest t left a walked ≡ avoiding c t left a walked
  avoiding_lowest c none = ⊎_elim (avoiding_passes c none) (avoiding_broken c) (cases_Bool (is_chain t c))

  -- at the account that a line of the chain leaves
  module _ (front : List ℕ) (n : ℕ) where
    pub turn_other : ends_with walked front ≡ true → lowest_of (λ m. is_open t left a m && not (eqb m n)) n 0 (length t) ≡ turn front n t left a walked
    turn_other after = sym (cond-true (ends_with walked front) _ _ after)

    pub turn_itself : ends_with walked front ≡ false → 0 < get_or left n 0 → n ≡ turn front n t left a walked
    turn_itself elsewhere some = sym (cond-false (ends_with walked front) _ _ elsewhere ∙ cond-true (ltb 0 (get_or left n 0)) _ _ (lt-ltb 0 (get_or left n 0) some))

    pub turn_lowest : ends_with walked front ≡ false → get_or left n 0 ≡ 0 → lowest t left a walked ≡ turn front n t left a walked
    turn_lowest elsewhere none = sym (cond-false (ends_with walked front) _ _ elsewhere ∙ cond-false (ltb 0 (get_or left n 0)) _ _ (le-ltb 0 (get_or left n 0) (omega arith)))

pub ends_is : (walked front : List ℕ) (r : Bool) → r ≡ pointwise eqb front (drop (length walked - length front) walked) → ends_with walked front ≡ r
ends_is walked front r matches =
    let rest = drop (length walked - length front) walked in
    same_from_decides (same_list front rest) r (compares_Decides same_list (search rules) front rest) (slice_eq-Decides Decides-eqb front rest r matches)
