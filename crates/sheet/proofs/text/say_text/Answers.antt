use Rattle.sheet.proofs.Laid.{put_then}
use Rattle.sheet.proofs.text.say_text.Goals as goal

pub returns : goal.returns
returns c = put_then (put_then c.put-after.ensures c.put-end.ensures) c.put.ensures
