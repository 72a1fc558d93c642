use Rattle.book.specs.Lines.{lines}
use Rattle.listing.proofs.Picking.{Ahead, ahead_remaining}
use Rattle.listing.proofs.search.Search.first_greatest.Given as goal

abbrev pub invariant-loop-ahead : goal.invariant-loop-ahead
invariant-loop-ahead l = Ahead (lines l.self.book.now) l.self.floor l.fn.given l.ahead

abbrev pub decreases-loop-ahead : goal.decreases-loop-ahead
decreases-loop-ahead l = ahead_remaining (lines l.self.book.now) l.ahead
