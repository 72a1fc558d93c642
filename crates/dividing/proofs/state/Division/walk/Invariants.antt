use Rattle.std.proofs.Common.{◌-◌}
use Rattle.book.specs.Lines.{lines}
use Rattle.book.specs.Limits.{accounts}
use Rattle.dividing.proofs.Walking.{Walking}
use Rattle.dividing.proofs.state.Division.walk.Given as goal

abbrev pub invariant-loop-account : goal.invariant-loop-account
invariant-loop-account g l =
    Walking (g.R.Rule.choice l.self.rule.now) (lines l.self.book.now) l.self.left l.start l.account l.lines.items l.least

abbrev pub decreases-loop-account : goal.decreases-loop-account
decreases-loop-account g l = accounts - l.account
