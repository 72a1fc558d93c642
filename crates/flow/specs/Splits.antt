-- Splits of a book's totals into full chains, and what they agree on. Assumes nothing.
--   Row        a full chain of a split, with its tonnes
--   begins     whether a list begins with another
--   holds      whether a list contains another unbroken
--   puts       the tonnes of those chains of a split that contain a chain unbroken
--   Split      full chains with 1 or more tonnes each, which add up to the amount at every live line; a chain may be named twice
--   Certain    every split puts that many tonnes or more on the chain
--   Greatest   a chain that is certain and lies in no longer chain that is
use Rattle.std.specs.Prelude.{◌≡◌, ℕ, ◌<◌, ◌≤◌, Bool, true, false, cond, ◌&&◌, ◌||◌, List, [], ◌∷◌, length, ◌==◌}
use Rattle.std.specs.List.{AllByRecursion}
use Rattle.book.specs.Tally.{Tally, at, is_live}
use Rattle.book.specs.Totals.{total, amount_of}
use Rattle.flow.specs.Chains.{Chain, Full}

pub record Row : Type 0 where
  pub chain : List ℕ
  pub tonnes : ℕ

abbrev pub begins : List ℕ → List ℕ → Bool
begins [] d = true
begins (m ∷ c) [] = false
begins (m ∷ c) (n ∷ d) = m == n && begins c d

abbrev pub holds : List ℕ → List ℕ → Bool
holds c [] = begins c []
holds c (n ∷ d) = begins c (n ∷ d) || holds c d

abbrev pub puts : List Row → List ℕ → ℕ
puts s c = total (λ r. cond (holds c r.chain) r.tonnes 0) s

pub record Split (t : Tally) (s : List Row) : Type 0 where
  pub full : AllByRecursion (λ r. Full t r.chain) s
  pub some : AllByRecursion (λ r. 0 < r.tonnes) s
  pub sums : (n : ℕ) → is_live (at t n) ≡ true → puts s (n ∷ []) ≡ amount_of (at t n)

abbrev pub Certain : Tally → ℕ → List ℕ → Type 0
Certain t w c = (s : List Row) → Split t s → w ≤ puts s c

pub record Greatest (t : Tally) (w : ℕ) (c : List ℕ) : Type 0 where
  pub chain : Chain t c
  pub certain : Certain t w c
  pub alone : (d : List ℕ) → Chain t d → holds c d ≡ true → length c < length d → Certain t w d → ⊥
