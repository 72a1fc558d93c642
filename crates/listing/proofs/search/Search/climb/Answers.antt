use Rattle.std.proofs.Common.{◌≡◌, ℕ, List, None, Some, Option, MatchOption, sym, ap, ◌∙◌, subst, rules, tests}
use Rattle.arrayvec.specs.ArrayVec.{ArrayVec}
use Rattle.book.specs.Lines.{lines}
use Rattle.book.specs.Tally.{Tally}
use Rattle.listing.proofs.Branching.{open_below}
use Rattle.listing.proofs.Ranges.{callable_down, found_down, highest_left}
use Rattle.listing.specs.After.{Barren, Open}
use Rattle.listing.specs.Walks.{Found, Stepped}
use Rattle.listing.specs.declared.reach.Reach.{Reach}
use Rattle.listing.proofs.search.Search.climb.Goals as goal

stepped : (t : Tally) (w : ℕ) (given : List ℕ) (r : Option (ArrayVec ℕ × Reach)) → MatchOption r (Barren t w given 0) (λ p. Found t w given p.0.items p.1) → Stepped t w given r
stepped t w given None barren = barren
stepped t w given (Some p) found = found

-- a number of lines kept is open, as the numbers above it are barren
pub find_map-requires-clause-callable : goal.find_map-requires-clause-callable
find_map-requires-clause-callable c =
    let s = c.args.self.now in
    let t = lines s.book.now in
    let given = c.args.given.now in
    let zero : c.rev.result.iter.start ≡ 0 = ap (λ r. r.start) c.rev.ensures.source ∙ c.new.ensures.start in
    callable_down _ _ (Open t s.floor given)
    (λ n q opened call.
    let barren : Barren t s.floor given n = search (rules, tests) in
    (search (rules, tests), λ k is. open_below t s.floor s.sound s.balanced s.some given k (subst (Open t s.floor given) is opened) (subst (Barren t s.floor given) is barren)))
    _ c.rev.result zero
    (λ k is. subst (Open t s.floor given) (sym (ap (λ r. r.end) c.rev.ensures.source ∙ c.new.ensures.end) ∙ highest_left _ _ _ k zero is) c.requires)
    (λ n opened. search rules)

pub returns : goal.returns
returns c =
    let s = c.args.self.now in
    let t = lines s.book.now in
    let given = c.args.given.now in
    stepped t s.floor given c.find_map.result
    (found_down _ _ (λ p. Found t s.floor given p.0.items p.1) (Barren t s.floor given) _ _ c.rev.ensures.runs
    (λ x r q k. search (rules, tests)) (λ x b k. search (rules, tests)) (λ x k. search (rules, tests))
    c.new.ensures.start c.new.ensures.exhausted c.find_map.result c.find_map.ensures.runs)
