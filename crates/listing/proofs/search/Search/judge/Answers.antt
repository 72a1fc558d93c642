use Rattle.std.proofs.Common.{◌≡◌, true, false, Some, sym, ◌∙◌, subst, arith}
use Rattle.book.specs.Lines.{lines}
use Rattle.flow.specs.Chains.{start}
use Rattle.listing.proofs.Branching.{whole_grows, whole_short, whole-stops}
use Rattle.listing.proofs.Growing.{reached_small}
use Rattle.listing.proofs.Leftward.{chain_some, grows_before, grows_nowhere, grows_right, start_first}
use Rattle.listing.specs.Growth.{Preceded}
use Rattle.listing.specs.Walks.{Found}
use Rattle.listing.proofs.search.Search.judge.Goals as goal

pub first_growth-requires : goal.first_growth-requires
first_growth-requires c =
    let s = c.args.self.now in
    reached_small (lines s.book.now) s.sound s.floor c.args.chain.now (Some c.args.reach) c.requires

pub grows_left-requires-clause-small : goal.grows_left-requires-clause-small
grows_left-requires-clause-small c =
    let s = c.args.self.now in
    reached_small (lines s.book.now) s.sound s.floor c.args.chain.now (Some c.args.reach) c.requires

pub branch_off-requires : goal.branch_off-requires
branch_off-requires c =
    let s = c.args.self.now in
    whole_short (lines s.book.now) s.floor s.sound s.balanced s.some c.args.chain.now c.args.reach c.requires c.in-Some.line c.in-Some.more c.in-Some.ensures

pub returns-in-Some : goal.returns-in-Some
returns-in-Some c =
    let s = c.args.self.now in
    let t = lines s.book.now in
    let chain = c.args.chain.now in (
      grows_right t s.floor s.sound s.balanced s.some chain c.args.reach c.requires c.in-Some.line c.in-Some.more 0 c.in-Some.ensures,
      subst (λ z. Found t s.floor chain z c.in-Some.more) (sym c.branch_off.ensures)
          (whole_grows t s.floor s.sound s.balanced s.some chain c.args.reach c.requires c.in-Some.line c.in-Some.more c.in-Some.ensures),
    )

pub climb-requires : goal.climb-requires
climb-requires c =
    let s = c.args.self.now in
    let t = lines s.book.now in
    whole-stops t s.floor s.sound s.balanced s.some c.args.chain.now c.args.reach c.requires c.in_default.ensures (omega (arith, chain_some t c.args.chain.now c.requires.certain.0))

pub returns-then-grows_left : goal.returns-then-grows_left
returns-then-grows_left c =
    let s = c.args.self.now in
    let t = lines s.book.now in
    let chain = c.args.chain.now in
    let leaves-first : c.parts-account.result.from ≡ start t chain = c.parts-account.ensures.from.0 ∙ sym (start_first t chain c.requires.certain.0) in (
      grows_before t s.floor s.sound s.balanced s.some chain c.args.reach c.requires
          (subst (λ a. Preceded t s.floor a c.args.reach.tonnes true) leaves-first c.if-grows_left.ensures),
      c.climb.ensures,
    )

pub returns : goal.returns
returns c =
    let s = c.args.self.now in
    let t = lines s.book.now in
    let chain = c.args.chain.now in
    let leaves-first : c.parts-account.result.from ≡ start t chain = c.parts-account.ensures.from.0 ∙ sym (start_first t chain c.requires.certain.0) in
    grows_nowhere t s.floor s.sound s.balanced s.some chain c.args.reach c.requires c.in_default.ensures
    (subst (λ a. Preceded t s.floor a c.args.reach.tonnes false) leaves-first c.if-grows_left.ensures)
