use Rattle.std.proofs.Common.{◌+◌, ◌-◌, length, refl, arith}
use Rattle.book.specs.Lines.{lines}
use Rattle.dividing.proofs.Rowing.{row_borne, row_fair, row_put}
use Rattle.dividing.proofs.state.Division.put_row.Goals as goal

pub take_off-requires : goal.take_off-requires
take_off-requires g c =
    let s = c.args.self.now in
    row_borne (g.R.Rule.choice s.rule.now) (lines s.book.now) s.left c.in_ok-start.start c.walk-walk.result.lines.items c.as_slice-lines.result.now c.walk-walk.result.least s.sound c.in_ok-start.ensures c.walk-walk.ensures c.as_slice-lines.ensures.value

pub invariant_of-self-clause-fair : goal.invariant_of-self-clause-fair
invariant_of-self-clause-fair g c =
    let s = c.args.self.now in
    row_fair (g.R.Rule.choice s.rule.now) (lines s.book.now) s.left c.in_ok-start.start c.walk-walk.result.lines.items c.as_slice-lines.result.now c.walk-walk.result.least s.sound c.in_ok-start.ensures c.walk-walk.ensures c.as_slice-lines.ensures.value
    c.take_off.new.left c.take_off.ensures s.fair

pub returns-clause-row : goal.returns-clause-row
returns-clause-row g c =
    let s = c.args.self.now in
    let count = length c.as_slice-lines.result.now in
    row_put (g.R.Rule.choice s.rule.now) (lines s.book.now) s.left c.in_ok-start.start c.walk-walk.result.lines.items c.as_slice-lines.result.now c.walk-walk.result.least s.sound c.in_ok-start.ensures c.walk-walk.ensures c.as_slice-lines.ensures.value
    c.take_off.new.left c.take_off.ensures c.args.row.now c.copy_from_slice.new.self count (count + 1 - 1) (omega arith) refl (omega arith) c.copy_from_slice.ensures.after
