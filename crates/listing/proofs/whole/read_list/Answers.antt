use Rattle.std.proofs.Common.{vec_items, subst}
use Rattle.book.specs.Lines.{lines}
use Rattle.listing.proofs.Reading.{chosen_falls, half_all}
use Rattle.listing.specs.Picks.{Picked}
use Rattle.listing.proofs.whole.read_list.Goals as goal

pub returns-clause-answer : goal.returns-clause-answer
returns-clause-answer c =
    let t = lines c.args.book.now in
    let passed = c.in_ok-chain.ensures.passed in
    let none = subst (Picked t c.args.floor c.loop-list.last.items) c.in_default.is (subst (λ z. Picked t c.args.floor z c.in_ok-chain.field-0) c.deref.ensures.0 c.in_ok-chain.ensures.answer) in
    half_all t c.args.floor (vec_items c.loop-list.list) c.loop-list.last.items c.loop-list.invariant none passed.2 passed.1 passed.0

pub loop-list-smaller : goal.loop-list-smaller
loop-list-smaller c =
    let t = lines c.args.book.now in
    let chosen = subst (Picked t c.args.floor c.loop-list.last.items) c.in-Some.is (subst (λ z. Picked t c.args.floor z c.in_ok-chain.field-0) c.deref.ensures.0 c.in_ok-chain.ensures.answer) in
    chosen_falls t c.args.floor c.loop-list.last.items c.in-Some.chain.items c.in-Some.figure chosen
