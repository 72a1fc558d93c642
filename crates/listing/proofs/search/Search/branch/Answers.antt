use Rattle.std.proofs.Common.{ℕ, List, take, Option, sym, subst, arith}
use Rattle.std.proofs.lemmas.List.{length-take-le}
use Rattle.book.specs.Lines.{lines}
use Rattle.listing.proofs.Branching.{front_whole, growth_found, growth_none, growth_short}
use Rattle.listing.proofs.Growing.{reached_small}
use Rattle.listing.specs.After.{Open}
use Rattle.listing.specs.Growth.{Front, Reached}
use Rattle.listing.specs.Walks.{Branched, Found}
use Rattle.listing.specs.declared.reach.Reach.{Reach}
use Rattle.listing.specs.declared.search.Search.{Search}
use Rattle.listing.proofs.search.Search.branch.Goals as goal

-- what the lines kept have come to
came_to : (s : Search) (given : List ℕ) (kept i : ℕ) (before : Option Reach) → Open (lines s.book.now) s.floor given kept → Front (lines s.book.now) s.floor (take kept given) i before → Reached (lines s.book.now) s.floor (take kept given) before
came_to s = front_whole (lines s.book.now) s.floor s.sound s.balanced s.some

pub first_growth-requires : goal.first_growth-requires
first_growth-requires c =
    let s = c.args.self.now in
    reached_small (lines s.book.now) s.sound s.floor (take c.args.kept c.args.given.now) c.front-before.result.1
    (came_to s c.args.given.now c.args.kept c.front-before.result.0 c.front-before.result.1 c.requires c.front-before.ensures)

pub branch_off-requires : goal.branch_off-requires
branch_off-requires c =
    let s = c.args.self.now in
    let reached = came_to s c.args.given.now c.args.kept c.front-before.result.0 c.front-before.result.1 c.requires c.front-before.ensures in
    let short = growth_short (lines s.book.now) s.floor s.sound s.balanced s.some c.args.given.now c.args.kept c.lowest_after-lowest.result c.front-before.result.1 c.requires reached c.lowest_after-lowest.ensures c.in_ok-line.line c.in_ok-line.reach c.in_ok-line.ensures in
    omega (arith, length-take-le c.args.kept c.args.given.now c.requires.within)

pub returns-in_err-line : goal.returns-in_err-line
returns-in_err-line c =
    let s = c.args.self.now in
    let t = lines s.book.now in
    let reached = came_to s c.args.given.now c.args.kept c.front-before.result.0 c.front-before.result.1 c.requires c.front-before.ensures in
    subst (Branched t s.floor c.args.given.now c.args.kept) (sym c.from_residual.ensures)
    (growth_none t s.floor s.sound s.balanced s.some c.args.given.now c.args.kept c.lowest_after-lowest.result c.front-before.result.1 c.requires reached c.lowest_after-lowest.ensures c.in_err-line.ensures)

pub returns : goal.returns
returns c =
    let s = c.args.self.now in
    let t = lines s.book.now in
    let reached = came_to s c.args.given.now c.args.kept c.front-before.result.0 c.front-before.result.1 c.requires c.front-before.ensures in
    subst (λ z. Found t s.floor c.args.given.now z c.in_ok-line.reach) (sym c.branch_off.ensures)
    (growth_found t s.floor s.sound s.balanced s.some c.args.given.now c.args.kept c.lowest_after-lowest.result c.front-before.result.1 c.requires reached c.lowest_after-lowest.ensures c.in_ok-line.line c.in_ok-line.reach c.in_ok-line.ensures)
