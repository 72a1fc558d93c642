use Rattle.std.proofs.Common.{arith}
use Rattle.book.proofs.Balance.{touching}
use Rattle.book.specs.Lines.{lines}
use Rattle.book.specs.declared.table.Side.TheVariants.{Out}
use Rattle.dividing.proofs.Walking.{walking_more, walking_all}
use Rattle.dividing.proofs.state.Division.walk.Goals as goal

pub follow-step-requires : goal.follow-step-requires
follow-step-requires g c =
    let s = c.args.self.now in
    let a = c.loop-account.account in
    c.loop-account.invariant.opened (touching Out a (lines s.book.now) (omega (arith, s.leaving a c.loop-account.invariant.placed)))

-- No name of the call that takes the lesser of two is cited: what is proved of the least follows from what that call ensures.
pub loop-account-preserved : goal.loop-account-preserved
loop-account-preserved g c =
    let s = c.args.self.now in
    let step = c.follow-step in
    walking_more (g.R.Rule.choice s.rule.now) (lines s.book.now) s.left c.args.start s.sound s.fair c.requires
    c.loop-account.account c.loop-account.least c.loop-account.lines.items c.loop-account.invariant
    _ _ step.result.line step.result.to step.result.tonnes _ c.as_slice.ensures.value (omega arith) step.ensures c.push.ensures.items (omega arith)

pub returns : goal.returns
returns g c =
    let s = c.args.self.now in
    let a = c.loop-account.account in
    walking_all (g.R.Rule.choice s.rule.now) (lines s.book.now) s.left c.args.start s.sound s.fair c.requires
    a c.loop-account.least c.loop-account.lines.items c.loop-account.invariant (omega (arith, s.leaving a c.loop-account.invariant.placed))
