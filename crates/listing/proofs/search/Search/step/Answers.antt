use Rattle.book.specs.Lines.{lines}
use Rattle.listing.proofs.Branching.{front_open}
use Rattle.listing.proofs.search.Search.step.Goals as goal

pub climb-requires : goal.climb-requires
climb-requires c =
    let s = c.args.self.now in
    front_open (lines s.book.now) s.floor s.sound s.balanced s.some c.args.given.now c.front-longest.result.0 c.front-longest.result.1 c.front-longest.ensures
