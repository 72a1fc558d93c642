use Rattle.std.proofs.Common.{arith}
use Rattle.std.proofs.lemmas.Fmt.{length-decimal-le}
use Rattle.sheet.proofs.Laid.{put_then}
use Rattle.sheet.proofs.text.put_number.Goals as goal

pub returns : goal.returns
returns c =
    let space = c.put-digits.ensures in
    let digits = c.put_decimal.ensures in
    record {
      put = put_then space digits.put;
      short = omega (arith, space.place, digits.put.place, length-decimal-le 3 c.args.number (omega arith) (omega arith) (omega arith));
    }
