use Rattle.book.specs.Lines.{lines}
use Rattle.listing.proofs.Growing.{front_more, front_stops, reached_small}
use Rattle.listing.proofs.search.Search.front.Goals as goal

pub grow-requires : goal.grow-requires
grow-requires c =
    let s = c.args.self.now in
    reached_small (lines s.book.now) s.sound s.floor _ c.loop-i.reach c.loop-i.invariant

pub returns-in-None : goal.returns-in-None
returns-in-None c =
    let s = c.args.self.now in
    front_stops (lines s.book.now) s.floor s.sound s.balanced s.some c.args.given.now c.loop-i.i c.loop-i.reach c.loop-i-test.true c.loop-i.invariant c.in-None.ensures

pub loop-i-preserved : goal.loop-i-preserved
loop-i-preserved c =
    let s = c.args.self.now in
    front_more (lines s.book.now) s.floor s.sound s.balanced s.some c.args.given.now c.loop-i.i c.loop-i.reach _ c.loop-i-test.true c.loop-i.invariant c.in-Some.ensures
