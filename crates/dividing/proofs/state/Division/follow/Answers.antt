-- No answer cites the call of the rule by its name: what is proved of the line follows from what that call ensures.
use Rattle.std.proofs.Common.{rules}
use Rattle.book.specs.Lines.{lines}
use Rattle.dividing.proofs.Following.{named_within, named_followed}
use Rattle.dividing.proofs.state.Division.follow.Goals as goal

pub bounds-self-line : goal.bounds-self-line
bounds-self-line g c =
    let s = c.args.self.now in
    search (rules, named_within (g.R.Rule.choice s.rule.now) (lines s.book.now) s.left c.args.account c.args.walked.now (g.met.R.Rule.keeps s.rule.now) s.sound s.fair.whole c.requires)

pub returns : goal.returns
returns g c =
    let s = c.args.self.now in
    search (rules, named_followed (g.R.Rule.choice s.rule.now) (lines s.book.now) s.left c.args.account c.args.walked.now (g.met.R.Rule.keeps s.rule.now) s.sound s.fair.whole c.requires)
