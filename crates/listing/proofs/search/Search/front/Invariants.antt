use Rattle.std.proofs.Common.{take}
use Rattle.book.specs.Lines.{lines}
use Rattle.listing.specs.Growth.{Reached}
use Rattle.listing.proofs.search.Search.front.Given as goal

abbrev pub invariant-loop-i : goal.invariant-loop-i
invariant-loop-i l = Reached (lines l.self.book.now) l.self.floor (take l.i l.given) l.reach
