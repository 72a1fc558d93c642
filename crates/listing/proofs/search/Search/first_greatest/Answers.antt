use Rattle.std.proofs.Common.{◌<◌, sym, subst}
use Rattle.book.specs.Lines.{lines}
use Rattle.flow.specs.Splits.{Greatest}
use Rattle.listing.proofs.Picking.{Ahead, ahead_falls, ahead_more, ahead_remaining, upto_found}
use Rattle.listing.specs.Walks.{Stepped}
use Rattle.listing.proofs.search.Search.first_greatest.Goals as goal

pub returns-in-Greatest : goal.returns-in-Greatest
returns-in-Greatest c =
    let s = c.args.self.now in
    let t = lines s.book.now in
    let ahead = subst (Ahead t s.floor c.args.given.now) c.in-Some.is c.loop-ahead.invariant in
    upto_found t s.floor c.args.given.now ahead.last ahead.upto s.sound s.balanced c.in-Some.found.items c.in-Some.reach ahead.stepped (subst (Greatest t s.floor) c.deref.ensures.0 c.in-Greatest.ensures)

pub loop-ahead-smaller : goal.loop-ahead-smaller
loop-ahead-smaller c =
    let s = c.args.self.now in
    let t = lines s.book.now in
    subst (λ z. ahead_remaining t c.in-Passed.after < ahead_remaining t z) (sym c.in-Some.is)
    (ahead_falls t s.floor c.in-Some.found c.in-Some.reach c.in-Passed.after (subst (λ z. Stepped t s.floor z c.in-Passed.after) c.deref.ensures.0 c.in-Passed.ensures.1))

pub loop-ahead-preserved : goal.loop-ahead-preserved
loop-ahead-preserved c =
    let s = c.args.self.now in
    let t = lines s.book.now in
    ahead_more t s.floor c.args.given.now c.in-Some.found c.in-Some.reach c.in-Passed.after (subst (Ahead t s.floor c.args.given.now) c.in-Some.is c.loop-ahead.invariant)
    (λ greatest. c.in-Passed.ensures.0 (subst (Greatest t s.floor) (sym c.deref.ensures.0) greatest))
    (subst (λ z. Stepped t s.floor z c.in-Passed.after) c.deref.ensures.0 c.in-Passed.ensures.1)
