-- Going through the certain chains in order up to the first greatest one. Assumes nothing.
use Rattle.std.proofs.Common.{ℕ, ◌+◌, ◌<◌, List, Some, None, Option, ap, subst, inl, inr, arith}
use Rattle.arrayvec.specs.ArrayVec.{ArrayVec}
use Rattle.book.specs.Tally.{Tally, WellFormed}
use Rattle.book.specs.Totals.{Balanced}
use Rattle.flow.proofs.Certainty.{figure_is_least}
use Rattle.flow.proofs.Order.{before_transitive, compare_before}
use Rattle.flow.specs.Excess.{positive}
use Rattle.flow.specs.Listing.{Before}
use Rattle.flow.specs.Splits.{Greatest}
use Rattle.listing.proofs.Remaining.{remaining, remaining_falls}
use Rattle.listing.specs.After.{FirstCertain}
use Rattle.listing.specs.Picks.{Chosen}
use Rattle.listing.specs.Walks.{Found, Stepped}
use Rattle.listing.specs.declared.reach.Reach.{Reach}

-- no greatest certain chain after the given list has been passed over up to the last
pub record Upto (t : Tally) (w : ℕ) (given last : List ℕ) : Type 0 where
  pub beyond : (d : List ℕ) → Before last d → Before given d
  pub passed : (d : List ℕ) → Greatest t w d → Before given d → Before last d

module _ (t : Tally) (w : ℕ) (given last : List ℕ) (upto : Upto t w given last) where
  pub upto_more : (c : List ℕ) → FirstCertain t w last c → (Greatest t w c → ⊥) → Upto t w given c
  upto_more c first other = record {
    beyond = λ d after. upto.beyond d (before_transitive last c d first.after after);
    passed = λ d greatest after.
        elim (compare_before d c) [
          | inl before ↦ absurd (first.first d (greatest.chain, greatest.certain) (upto.passed d greatest after) before)
          | inr (inl same) ↦ absurd (other (subst (Greatest t w) same greatest))
          | inr (inr later) ↦ later
        ];
  }

  pub upto_found : WellFormed t → Balanced t → (c : List ℕ) (r : Reach) → Found t w last c r → Greatest t w c → Chosen t w given c r.tonnes
  upto_found well balanced c r found greatest =
      let least = figure_is_least t c well balanced greatest.chain in
      record {
        first = record {
          greatest = greatest;
          after = upto.beyond c found.first.after;
          first = λ d greatest-d after before. found.first.first d (greatest-d.chain, greatest-d.certain) (upto.passed d greatest-d after) before;
        };
        amount = ap positive found.comes.tonnes;
        agreed = record { every = least.0; some = least.1 };
      }

-- what is ahead is the step on from the last
pub record Ahead (t : Tally) (w : ℕ) (given : List ℕ) (ahead : Option (ArrayVec ℕ × Reach)) : Type 0 where
  pub last : List ℕ
  pub upto : Upto t w given last
  pub stepped : Stepped t w last ahead

abbrev pub ahead_remaining : Tally → Option (ArrayVec ℕ × Reach) → ℕ
ahead_remaining t None = 0
ahead_remaining t (Some p) = remaining t p.0.items + 1

pub ahead_falls : (t : Tally) (w : ℕ) (found : ArrayVec ℕ) (r : Reach) (after : Option (ArrayVec ℕ × Reach)) → Stepped t w found.items after → ahead_remaining t after < ahead_remaining t (Some (found, r))
ahead_falls t w found r None stepped = omega arith
ahead_falls t w found r (Some p) stepped = omega (arith, remaining_falls t found.items p.0.items stepped.first.after stepped.first.certain.0)

pub ahead_more : (t : Tally) (w : ℕ) (given : List ℕ) (found : ArrayVec ℕ) (r : Reach) (after : Option (ArrayVec ℕ × Reach)) → Ahead t w given (Some (found, r)) → (Greatest t w found.items → ⊥) → Stepped t w found.items after → Ahead t w given after
ahead_more t w given found r after a other stepped = record {
  last = found.items;
  upto = upto_more t w given a.last a.upto found.items a.stepped.first other;
  stepped = stepped;
}
