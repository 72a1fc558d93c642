use Rattle.sheet.proofs.Laid.{put_then}
use Rattle.sheet.proofs.text.say_number.Goals as goal

pub returns : goal.returns
returns c = put_then (put_then c.put-after.ensures c.put_decimal-end.ensures.put) c.put.ensures
