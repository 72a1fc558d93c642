use Rattle.sheet.proofs.Laid.{put_then}
use Rattle.sheet.proofs.text.say_refusal.Goals as goal

pub returns : goal.returns
returns c = put_then c.put_head-end.ensures.put c.put.ensures
