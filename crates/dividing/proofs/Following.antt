-- The line that a lawful rule names at an account where some line is open. Assumes nothing.
use Rattle.std.proofs.Common.{◌≡◌, ℕ, ◌<◌, List, length, get_or, sym, refl, subst, arith}
use Rattle.book.specs.Limits.{most_lines}
use Rattle.book.specs.Tally.{Tally, at, WellFormed}
use Rattle.flow.proofs.ChainFacts.{leaves_within, rises, entered_within}
use Rattle.flow.proofs.RuleLaws.{open_leaves}
use Rattle.flow.specs.Chains.{to_of}
use Rattle.flow.specs.Rules.{Choice, Law, Open}
use Rattle.dividing.specs.Rows.{Followed}

module _ (choice : Choice) (t : Tally) (left : List ℕ) (a : ℕ) (walked : List ℕ) (law : Law choice) (well : WellFormed t) (long : length left ≡ most_lines) (some : (n : ℕ) × Open t left a n) where
  named_open : (n : ℕ) → n ≡ choice t left a walked → Open t left a n
  named_open n named = subst (Open t left a) (sym named) (law t left a walked well long some.0 some.1)

  pub named_within : (n : ℕ) → n ≡ choice t left a walked → n < length left
  named_within n named = omega (arith, leaves_within t a n (open_leaves t left a n (named_open n named)), well.0)

  pub named_followed : (n to : ℕ) → n ≡ choice t left a walked → to ≡ to_of (at t n) → Followed choice t left a walked n to (get_or left n 0)
  named_followed n to named entered = record {
    named = named;
    is_open = named_open n named;
    entered = entered;
    rising = omega (arith, entered, rises t well.1 a n (open_leaves t left a n (named_open n named)));
    placed = omega (arith, entered, entered_within t well.1 n);
    tonnes_left = refl;
  }
