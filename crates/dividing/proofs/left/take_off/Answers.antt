use Rattle.dividing.proofs.Amounts.{take_more}
use Rattle.dividing.proofs.left.take_off.Goals as goal

pub loop-line-preserved : goal.loop-line-preserved
loop-line-preserved c =
    take_more c.args.tonnes c.args.row.now c.loop-line.line-index c.loop-line.left _ c.loop-line-test.true c.loop-line.invariant
