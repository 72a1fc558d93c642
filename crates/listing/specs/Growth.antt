-- How a certain chain grows by a line at its end. Assumes nothing.
--   CertainChain   a chain that is certain at a floor
--   Reached        what a chain, or no line, has come to: the account that it enters at last and its excess
--   grown          what it comes to with one line more, where that is certain
--   FirstGrown     the lowest line from a number on by which it grows
--   precedes       whether a line before a chain makes a longer certain one
--   Front          the longest beginning of a list that is a certain chain, and what it has come to
use Rattle.std.specs.Prelude.{◌≡◌, ℕ, ◌+◌, ◌-◌, ◌<◌, ◌≤◌, Bool, true, false, cond, ◌&&◌, List, [], length, take, pos, Some, None, Option, ◌==◌, nat_le, nat_lt}
use Rattle.book.specs.Tally.{Tally, at}
use Rattle.book.specs.Totals.{amount_of, in_total}
use Rattle.flow.specs.Chains.{Chain, finish, from_of, to_of}
use Rattle.flow.specs.Excess.{excess}
use Rattle.flow.specs.Splits.{Certain}
use Rattle.listing.specs.declared.reach.Reach.{Reach}

abbrev pub CertainChain : Tally → ℕ → List ℕ → Type 0
CertainChain t w c = Chain t c × Certain t w c

pub record Comes (t : Tally) (w : ℕ) (c : List ℕ) (r : Reach) : Type 0 where
  pub certain : CertainChain t w c
  pub account : r.account ≡ finish t c
  pub tonnes : pos r.tonnes ≡ excess t c

abbrev pub Reached : Tally → ℕ → List ℕ → Option Reach → Type 0
Reached t w c None = c ≡ []
Reached t w c (Some r) = Comes t w c r

abbrev pub reach : ℕ → ℕ → Reach
reach account tonnes = record { account = account; tonnes = tonnes }

-- a live line that leaves the account and keeps the excess at the floor or more
abbrev pub accepts : Tally → ℕ → Reach → ℕ → Bool
accepts t w r n =
    (r.account == from_of (at t n)) && (nat_lt 0 (amount_of (at t n)) && nat_le (in_total t (from_of (at t n)) + w) (r.tonnes + amount_of (at t n)))

-- from no line, a line of the floor or more; else a line accepted
abbrev pub grown : Tally → ℕ → Option Reach → ℕ → Option Reach
grown t w None n = cond (nat_le w (amount_of (at t n))) (Some (reach (to_of (at t n)) (amount_of (at t n)))) None
grown t w (Some r) n =
    cond (accepts t w r n)
    (Some (reach (to_of (at t n)) ((r.tonnes + amount_of (at t n)) - in_total t (from_of (at t n)))))
    None

abbrev pub held : Option Reach → ℕ
held None = 0
held (Some r) = r.tonnes

abbrev pub FirstGrown : Tally → ℕ → Option Reach → ℕ → Option (ℕ × Reach) → Type 0
FirstGrown t w before from None = (j : ℕ) → from ≤ j → grown t w before j ≡ None
FirstGrown t w before from (Some p) =
    (from ≤ p.0) × (grown t w before p.0 ≡ Some p.1) × ((j : ℕ) → from ≤ j → j < p.0 → grown t w before j ≡ None)

pub record Front (t : Tally) (w : ℕ) (given : List ℕ) (k : ℕ) (r : Option Reach) : Type 0 where
  pub within : k ≤ length given
  pub reached : Reached t w (take k given) r
  pub longest : k < length given → CertainChain t w (take (k + 1) given) → ⊥

-- a live line that enters the account a chain leaves, and keeps the excess of the longer chain at the floor or more
abbrev pub precedes : Tally → ℕ → ℕ → ℕ → ℕ → Bool
precedes t w account tonnes n =
    (to_of (at t n) == account) && (nat_lt 0 (amount_of (at t n)) && nat_le (in_total t account + w) (tonnes + amount_of (at t n)))

abbrev pub Preceded : Tally → ℕ → ℕ → ℕ → Bool → Type 0
Preceded t w account tonnes true = (n : ℕ) × (precedes t w account tonnes n ≡ true)
Preceded t w account tonnes false = (n : ℕ) → precedes t w account tonnes n ≡ false
