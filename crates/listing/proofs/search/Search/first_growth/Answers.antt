use Rattle.std.proofs.Common.{◌≡◌, ℕ, ◌<◌, ◌≤◌, length, Some, None, Option, MatchOption, ap, ◌∙◌, ⊎_elim, arith, rules, tests}
use Rattle.std.proofs.lemmas.Bool.{cases_lt}
use Rattle.book.specs.Lines.{lines}
use Rattle.book.specs.Tally.{Tally}
use Rattle.listing.proofs.Growing.{grown_past}
use Rattle.listing.proofs.Ranges.{found_in_range}
use Rattle.listing.specs.Growth.{grown, FirstGrown}
use Rattle.listing.specs.declared.reach.Reach.{Reach}
use Rattle.listing.proofs.search.Search.first_growth.Goals as goal

first_grown : (t : Tally) (w : ℕ) (before : Option Reach) (lowest n : ℕ) → 0 < w → length t ≤ n → (r : Option (ℕ × Reach)) → MatchOption r ((k : ℕ) → lowest ≤ k → k < n → grown t w before k ≡ None) (λ b. (i : ℕ) × (lowest ≤ i) × (i < n) × ((b.0 ≡ i) × (grown t w before i ≡ Some b.1)) × ((k : ℕ) → lowest ≤ k → k < i → grown t w before k ≡ None)) → FirstGrown t w before lowest r
first_grown t w before lowest n some all None none = λ k low.
    ⊎_elim (λ below. none k low below) (λ past. grown_past t w before k some (omega arith)) (cases_lt k n)
first_grown t w before lowest n some all (Some b) (i, low, inside, found, first) = (
  omega (arith, found.0),
  ap (grown t w before) found.0 ∙ found.1,
  λ k from below. first k from (omega (arith, found.0)),
)

pub returns : goal.returns
returns c =
    let s = c.args.self.now in
    let t = lines s.book.now in
    first_grown t s.floor c.args.before c.args.lowest c.len.result s.some (omega arith) c.find_map.result
    (found_in_range _ _ _ (λ i b. (b.0 ≡ i) × (grown t s.floor c.args.before i ≡ Some b.1)) (λ i. grown t s.floor c.args.before i ≡ None)
    (λ x r q k. search (rules, tests)) (λ x b k. search (rules, tests)) (λ x k. search (rules, tests)) c.find_map.result c.find_map.ensures.runs)
