use Rattle.std.proofs.Common.{vec_items}
use Rattle.book.specs.Lines.{lines}
use Rattle.listing.proofs.Reading.{Half}
use Rattle.listing.proofs.Remaining.{remaining}
use Rattle.listing.proofs.whole.read_list.Given as goal

abbrev pub invariant-loop-list : goal.invariant-loop-list
invariant-loop-list l = Half (lines l.book) l.floor (vec_items l.list) l.last.items

abbrev pub decreases-loop-list : goal.decreases-loop-list
decreases-loop-list l = remaining (lines l.book) l.last.items
