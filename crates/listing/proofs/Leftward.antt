-- A certain chain grows to the left by the lines that `precedes` accepts, and is greatest where it grows at neither end. Assumes nothing.
use Rattle.std.proofs.Common.{◌≡◌, ℕ, ◌+◌, ◌<◌, ◌≤◌, true, false, eqb, ltb, List, [], ◌∷◌, length, get_or, pos, Some, None, sym, refl, ap, subst, arith}
use Rattle.std.proofs.lemmas.List.{get_or_past}
use Rattle.std.proofs.lemmas.Int.{ints}
use Rattle.std.proofs.lemmas.Bool.{and_from, and_left, and_parts, and_right, both_ways, eq-eqb, eqb-true, le-leb, leb-true, lt-ltb, ltb-true}
use Rattle.book.specs.Tally.{Tally, at, WellFormed}
use Rattle.book.specs.Totals.{amount_of, in_total, Balanced}
use Rattle.book.specs.declared.entries.Line.TheVariants.{Struck}
use Rattle.flow.proofs.ChainFacts.{chain_runs, chain_step, leaves_from, runs_step, sound_at}
use Rattle.flow.proofs.ExcessForms.{excess_first}
use Rattle.flow.proofs.Listed.{alone_greatest, greatest_alone}
use Rattle.flow.specs.Chains.{Chain, from_of, runs, start, to_of}
use Rattle.flow.specs.Excess.{excess}
use Rattle.flow.specs.Splits.{Greatest}
use Rattle.listing.proofs.Growing.{amount_from_live, certain_excess, certain_from, grown_none, grown_some, linked-chain, live_from_amount}
use Rattle.listing.specs.Growth.{CertainChain, Comes, FirstGrown, Preceded, precedes}
use Rattle.listing.specs.declared.reach.Reach.{Reach}

pub precedes_past : (t : Tally) (w account tonnes n : ℕ) → length t ≤ n → precedes t w account tonnes n ≡ false
precedes_past t w account tonnes n past =
    let none : ltb 0 (amount_of (at t n)) ≡ false = ap (λ l. ltb 0 (amount_of l)) (get_or_past t n Struck past) in
    and_right _ _ (and_left _ _ none)

module _ (t : Tally) (w : ℕ) (well : WellFormed t) (balanced : Balanced t) (some : 0 < w) where
  longer_left : (c : List ℕ) (e n : ℕ) → CertainChain t w c → pos e ≡ excess t c → precedes t w (start t c) e n ≡ true → CertainChain t w (n ∷ c)
  longer_left [] e n certain is fits = absurd (both_ways false refl certain.0)
  longer_left (m ∷ c) e n certain is fits =
      let p = and_parts (eqb (to_of (at t n)) (from_of (at t m))) _ fits in
      let q = and_parts (ltb 0 (amount_of (at t n))) _ p.1 in
      let to = eqb-true (to_of (at t n)) (from_of (at t m)) p.0 in
      let high = leb-true (in_total t (from_of (at t m)) + w) (e + amount_of (at t n)) q.1 in
      let live = live_from_amount (at t n) (ltb-true 0 (amount_of (at t n)) q.0) in
      let run : runs t (to_of (at t n)) (m ∷ c) ≡ true = subst (λ a. runs t a (m ∷ c) ≡ true) (sym to) (chain_runs t (m ∷ c) certain.0) in
      let law = excess_first t n m c in
      certain_from t w well balanced some (n ∷ m ∷ c) (linked-chain t well n (m ∷ c) live run) (omega (arith, ints))

  left_precedes : (c : List ℕ) (e n : ℕ) → CertainChain t w c → pos e ≡ excess t c → CertainChain t w (n ∷ c) → precedes t w (start t c) e n ≡ true
  left_precedes [] e n certain is longer = absurd (both_ways false refl certain.0)
  left_precedes (m ∷ c) e n certain is longer =
      let p = chain_step t n (m ∷ c) longer.0 in
      let out = (runs_step t (to_of (at t n)) m c p.1).0 in
      let law = excess_first t n m c in
      let high = certain_excess t w well balanced some (n ∷ m ∷ c) longer in
      and_from (eqb (to_of (at t n)) (from_of (at t m))) _ (eq-eqb (to_of (at t n)) (from_of (at t m)) (sym (leaves_from (to_of (at t n)) (at t m) out)))
      (and_from (ltb 0 (amount_of (at t n))) _
      (lt-ltb 0 (amount_of (at t n)) (amount_from_live (at t n) (sound_at t well.1 n) p.0))
      (le-leb (in_total t (from_of (at t m)) + w) (e + amount_of (at t n)) (omega (arith, ints))))

  -- a chain that grows at one end, and one that grows at neither
  module _ (c : List ℕ) (r : Reach) (comes : Comes t w c r) where
    pub grows_right : (m : ℕ) (more : Reach) (low : ℕ) → FirstGrown t w (Some r) low (Some (m, more)) → Greatest t w c → ⊥
    grows_right m more low found greatest =
        let longer = (grown_some t w well balanced some c (Some r) m more comes (sym found.1)).certain in
        (greatest_alone t w c greatest).right m longer.0 longer.1

    pub grows_before : Preceded t w (start t c) r.tonnes true → Greatest t w c → ⊥
    grows_before (n, fits) greatest =
        let longer = longer_left c r.tonnes n comes.certain comes.tonnes fits in
        (greatest_alone t w c greatest).left n longer.0 longer.1

    pub grows_nowhere : FirstGrown t w (Some r) 0 None → Preceded t w (start t c) r.tonnes false → Greatest t w c
    grows_nowhere right none =
        alone_greatest t w c comes.certain.0
        (record {
          certain = comes.certain.1;
          left = λ n chain certain. both_ways (precedes t w (start t c) r.tonnes n) (none n) (left_precedes c r.tonnes n comes.certain comes.tonnes (chain, certain));
          right = λ n chain certain. grown_none t w well balanced some c (Some r) n comes (sym (right n (omega arith))) (chain, certain);
        })

-- where a chain starts, by its first line
pub start_first : (t : Tally) (c : List ℕ) → Chain t c → start t c ≡ from_of (at t (get_or c 0 0))
start_first t [] chain = absurd (both_ways false refl chain)
start_first t (n ∷ c) chain = refl

pub chain_some : (t : Tally) (c : List ℕ) → Chain t c → 0 < length c
chain_some t [] chain = absurd (both_ways false refl chain)
chain_some t (n ∷ c) chain = omega arith
