-- The place at which a chain leaves an account. Assumes nothing.
--   InnerPlace   the place of the first line that leaves the account, among the lines of a chain behind its first; none where there is none, or the lines are no chain
use Rattle.std.specs.Prelude.{◌≡◌, ℕ, ◌<◌, ◌≤◌, List, length, Some, None, Option, slice_index}
use Rattle.book.specs.Tally.{Tally, at}
use Rattle.flow.specs.Chains.{Chain, from_of}

abbrev pub LeavesAt : Tally → ℕ → List ℕ → ℕ → Type 0
LeavesAt t a c i = from_of (at t (slice_index c i)) ≡ a

abbrev pub InnerPlace : Tally → ℕ → List ℕ → Option ℕ → Type 0
InnerPlace t a c (Some i) =
    Chain t c × (1 ≤ i) × (i < length c) × LeavesAt t a c i × ((k : ℕ) → 1 ≤ k → k < i → LeavesAt t a c k → ⊥)
InnerPlace t a c None = Chain t c → (k : ℕ) → 1 ≤ k → k < length c → LeavesAt t a c k → ⊥
