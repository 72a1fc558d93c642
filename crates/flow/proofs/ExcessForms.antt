-- The excess of a chain of a balanced book, read from either end. Assumes nothing.
use Rattle.std.proofs.Common.{◌≡◌, ℕ, ◌+◌, true, List, [], ◌∷◌, ℤ, pos, ◌+ℤ◌, ◌-ℤ◌, sym, refl, ap, ◌∙◌, subst, arith}
use Rattle.std.proofs.lemmas.Int.{ints}
use Rattle.std.proofs.lemmas.Bool.{cond-true}
use Rattle.book.specs.Tally.{Tally, at, is_live}
use Rattle.book.specs.Totals.{amount_of, in_total, out_total, figure, leaves, enters, Enters, Balanced}
use Rattle.book.specs.declared.entries.Line.TheVariants.{Struck}
use Rattle.book.specs.declared.table.Side.TheVariants.{In, Out}
use Rattle.flow.specs.Chains.{Chain, runs, from_of, to_of}
use Rattle.flow.specs.Excess.{excess, excess_on, joined, leaving_beside, entering_beside, all_leaving, converging_on}
use Rattle.flow.specs.Promises.{ExcessBothWays}
use Rattle.flow.proofs.ChainFacts.{live_within, live_entered, leaves_live, leaves_from, leaves_own, leaves_some, enters_own, runs_step, chain_step, chain_rest, line_meets}
use Rattle.flow.proofs.Sums.{total-set}

-- a live line's amount and what stands beside it make up the total of its account
pub out_beside : (t : Tally) (n : ℕ) → is_live (at t n) ≡ true → out_total t (from_of (at t n)) ≡ amount_of (at t n) + leaving_beside t n
out_beside t n live =
    omega (
      arith,
      total-set (figure Out (from_of (at t n))) t n Struck Struck (live_within t n live),
      cond-true (leaves (from_of (at t n)) (at t n)) (amount_of (at t n)) 0 (leaves_own (at t n) live),
    )

in_beside : (t : Tally) (n : ℕ) → is_live (at t n) ≡ true → in_total t (to_of (at t n)) ≡ amount_of (at t n) + entering_beside t n
in_beside t n live =
    omega (
      arith,
      total-set (figure In (to_of (at t n))) t n Struck Struck (live_within t n live),
      cond-true (enters (to_of (at t n)) (at t n)) (amount_of (at t n)) 0 (enters_own (at t n) live),
    )

run_diverging : (t : Tally) → Balanced t → (a : ℕ) (e : ℤ) (ns : List ℕ) → Enters t a → runs t a ns ≡ true → excess_on t e ns ≡ e -ℤ pos (all_leaving t ns)
run_diverging t balanced a e [] entered run = omega (arith, ints)
run_diverging t balanced a e (n ∷ ns) entered run =
    let p = runs_step t a n ns run in
    let live = leaves_live a (at t n) p.0 in
    let from = leaves_from a (at t n) p.0 in
    let both : in_total t (from_of (at t n)) ≡ out_total t (from_of (at t n)) = subst (λ z. in_total t z ≡ out_total t z) (sym from) (balanced a entered (leaves_some t a n p.0)) in
    let own = out_beside t n live in
    let rest = run_diverging t balanced (to_of (at t n)) (joined t e n) ns (live_entered t n live) p.1 in
    omega (arith, ints)

-- the excess of a chain by its first line
excess_on_add : (t : Tally) (e k : ℤ) (ns : List ℕ) → excess_on t (e +ℤ k) ns ≡ excess_on t e ns +ℤ k
excess_on_add t e k [] = refl
excess_on_add t e k (n ∷ ns) =
    let moved : joined t (e +ℤ k) n ≡ joined t e n +ℤ k = omega (arith, ints) in
    ap (λ z. excess_on t z ns) moved ∙ excess_on_add t (joined t e n) k ns

pub excess_first : (t : Tally) (n m : ℕ) (ns : List ℕ) → excess t (n ∷ m ∷ ns) ≡ excess t (m ∷ ns) +ℤ (pos (amount_of (at t n)) -ℤ pos (in_total t (from_of (at t m))))
excess_first t n m ns =
    let e = pos (amount_of (at t m)) in
    let k = pos (amount_of (at t n)) -ℤ pos (in_total t (from_of (at t m))) in
    let moved : joined t (pos (amount_of (at t n))) m ≡ e +ℤ k = omega (arith, ints) in
    ap (λ z. excess_on t z ns) moved ∙ excess_on_add t e k ns

excess-converging : (t : Tally) (n : ℕ) (ns : List ℕ) → Chain t (n ∷ ns) → excess t (n ∷ ns) ≡ converging_on t n ns
excess-converging t n [] chain = refl
excess-converging t n (m ∷ ms) chain =
    let first = excess_first t n m ms in
    let rest = excess-converging t m ms (chain_rest t n m ms chain) in
    let own = in_beside t n (chain_step t n (m ∷ ms) chain).0 in
    let at-m : in_total t (from_of (at t m)) ≡ in_total t (to_of (at t n)) = sym (ap (in_total t) (line_meets t n [] m ms chain)) in
    omega (arith, ints)

pub excess_both_ways : ExcessBothWays
excess_both_ways t [] well balanced chain = (refl, refl)
excess_both_ways t (n ∷ ns) well balanced chain =
    let p = chain_step t n ns chain in (
      run_diverging t balanced (to_of (at t n)) (pos (amount_of (at t n))) ns (live_entered t n p.0) p.1,
      excess-converging t n ns chain,
    )
