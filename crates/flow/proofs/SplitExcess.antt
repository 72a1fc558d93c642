-- Every split puts at least the excess on every chain. Assumes nothing.
use Rattle.std.proofs.Common.{◌≡◌, ℕ, true, false, List, [], ◌∷◌, ◌++◌, ℤ, pos, ◌≤ℤ◌, sym, refl, ap, ◌∙◌, subst, arith}
use Rattle.std.proofs.lemmas.List.{append_assoc, append-nil}
use Rattle.std.proofs.lemmas.Int.{ints}
use Rattle.std.proofs.lemmas.Bool.{both_ways}
use Rattle.book.specs.Tally.{Tally, at, is_live}
use Rattle.book.specs.Totals.{amount_of}
use Rattle.flow.specs.Chains.{Chain}
use Rattle.flow.specs.Excess.{excess, excess_on, joined}
use Rattle.flow.specs.Promises.{SplitPutsExcess}
use Rattle.flow.specs.Splits.{puts}
use Rattle.flow.proofs.ChainFacts.{chain_step}
use Rattle.flow.proofs.RowsAtLine.{split_adds}

-- what holds of a chain's first line and its amount, and goes on to each line more and its excess, holds of the chain and its excess
module _ (t : Tally) (R : ℤ → List ℕ → Type 0) where
  abbrev GoesOn : List ℕ → Type 0
  GoesOn c = (first : ℕ) (inner : List ℕ) (p : ℕ) (rest : List ℕ) (e : ℤ) → c ≡ first ∷ (inner ++ p ∷ rest) → R e (first ∷ inner) → R (joined t e p) (first ∷ (inner ++ p ∷ []))

  along_from : (c : List ℕ) → GoesOn c → (first : ℕ) (inner rest : List ℕ) (e : ℤ) → c ≡ first ∷ (inner ++ rest) → R e (first ∷ inner) → R (excess_on t e rest) c
  along_from c more first inner [] e is so = subst (R e) (sym (is ∙ ap (λ l. first ∷ l) (append-nil inner))) so
  along_from c more first inner (p ∷ rest) e is so =
      along_from c more first (inner ++ p ∷ []) rest (joined t e p) (is ∙ ap (λ l. first ∷ l) (sym (append_assoc inner (p ∷ []) rest))) (more first inner p rest e is so)

  pub excess_along : (c : List ℕ) → Chain t c → ((n : ℕ) → is_live (at t n) ≡ true → R (pos (amount_of (at t n))) (n ∷ [])) → GoesOn c → R (excess t c) c
  excess_along [] chain begin more = absurd (both_ways false refl chain)
  excess_along (n ∷ ns) chain begin more = along_from (n ∷ ns) more n [] ns (pos (amount_of (at t n))) refl (begin n (chain_step t n ns chain).0)

pub split_puts_excess : SplitPutsExcess
split_puts_excess t s c well split chain =
    excess_along t (λ e d. e ≤ℤ pos (puts s d)) c chain
    (λ n live. let own = split.sums n live in omega (arith, ints))
    (λ first inner p rest e is least. let adds = split_adds t well first inner p rest (subst (Chain t) is chain) s split in omega (arith, ints))
