use Rattle.std.proofs.Common.{refl, arith}
use Rattle.std.proofs.lemmas.Result.{err_from_is_err_and}
use Rattle.sheet.proofs.Runs.{ran_over, running_on, ran_refused, ran_all}
use Rattle.sheet.proofs.statement.Statement.run.Goals as goal

pub returns-in_err-add_line : goal.returns-in_err-add_line
returns-in_err-add_line c =
    let p = err_from_is_err_and c.from_residual.result c.from_residual.ensures.1 in
    ran_refused _ _ _ _ _ _ _ _ c.loop.invariant c.from_residual.result p.0 p.1 c.in_err-add_line.ensures

pub returns-then-branch : goal.returns-then-branch
returns-then-branch c = ran_over _ _ _ _ _ _ _ c.args.most c.loop.invariant c.loop-test.true _ c.if-branch.true c.in_ok-add_line.ensures

pub loop-preserved : goal.loop-preserved
loop-preserved c = running_on _ _ _ _ _ _ _ c.args.most c.loop.invariant _ c.if-branch.false c.in_ok-add_line.ensures

pub returns : goal.returns
returns c = ran_all _ _ _ _ _ _ _ _ c.loop.invariant refl refl (omega arith)
