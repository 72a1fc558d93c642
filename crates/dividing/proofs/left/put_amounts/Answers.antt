use Rattle.std.proofs.Common.{◌≡◌, length, sym, subst, arith}
use Rattle.book.specs.Lines.{lines}
use Rattle.dividing.proofs.Amounts.{AmountsTo, amounts_none, amounts_more, amounts_all}
use Rattle.dividing.proofs.left.put_amounts.Goals as goal

pub loop-n-init : goal.loop-n-init
loop-n-init c = subst (AmountsTo (lines c.args.book.now) 0) (sym c.requires) (amounts_none (lines c.args.book.now))

pub loop-n-preserved : goal.loop-n-preserved
loop-n-preserved c =
    amounts_more (lines c.args.book.now) c.loop-n.n c.loop-n.left c.parts.result.amount (omega arith) c.parts.ensures.amount.0 c.loop-n.invariant

pub returns : goal.returns
returns c =
    let t = lines c.args.book.now in
    let ends : c.loop-n.n ≡ length t = omega arith in
    record {
      amounts = amounts_all t c.loop-n.left (omega arith) (subst (λ i. AmountsTo t i c.loop-n.left) ends c.loop-n.invariant);
      sound = c.len-n-end.ensures.sound;
    }
