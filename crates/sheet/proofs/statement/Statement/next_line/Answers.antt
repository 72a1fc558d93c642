use Rattle.std.proofs.Common.{◌≡◌, refl, sym, subst, rules}
use Rattle.book.specs.Lines.{lines}
use Rattle.sheet.specs.Commands.{meaning}
use Rattle.sheet.specs.Reading.{read, reading, number, carries}
use Rattle.sheet.specs.Statements.{Obeyed}
use Rattle.sheet.specs.Stepping.{running, state, Touched}
use Rattle.sheet.proofs.Printing.{printed, prints_command, prints_refusal, with_ended, behind_refusal}
use Rattle.sheet.proofs.statement.Statement.next_line.Goals as goal

pub returns-in-Ok-Some : goal.returns-in-Ok-Some
returns-in-Ok-Some c =
    let s = c.args.self.now in
    let did = c.obey.ensures in
    let is : read (meaning c.in-Ok-Some.found.command) c.in-Ok-Some.found.after ≡ reading s.course.sheet.now s.course.place = search rules in
    let obeyed = subst (λ e. Obeyed (with_ended (running s.course) e) did.line.text (with_ended (running c.obey.new.self) e) c.in-Ok-Some.found.after (meaning c.in-Ok-Some.found.command)) (sym c.if-self.false) did.line.obeyed in
    let line = printed _ _ _ _ _ _ did.line.put (prints_command (state s) _ did.line.text _ _ c.if-self.false is obeyed) in
    (line.0, line.1, subst (Touched (lines s.course.book) c.args.rows.now c.args.tonnes.now c.obey.new.rows c.obey.new.tonnes) is did.tables)

pub returns-in-Err : goal.returns-in-Err
returns-in-Err c =
    let s = c.args.self.now in
    let refused = c.refuse-printed.ensures in
    let next = behind_refusal (running s.course) (running c.refuse-printed.new.self) (number c.in-Err.fault) c.ends-self.result refused.next c.ends-self.ensures in
    let line = printed _ _ _ _ _ _ refused.page (prints_refusal (state s) _ (number c.in-Err.fault) (carries c.in-Err.fault) c.if-self.false c.in-Err.ensures.answer next) in
    (line.0, line.1, subst (Touched (lines s.course.book) c.args.rows.now c.args.tonnes.now c.args.rows.now c.args.tonnes.now) c.in-Err.ensures.answer (refl, refl))
