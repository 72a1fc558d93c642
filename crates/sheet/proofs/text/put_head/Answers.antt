use Rattle.sheet.proofs.Laid.{put_then}
use Rattle.sheet.proofs.text.put_head.Goals as goal

pub returns-clause-put : goal.returns-clause-put
returns-clause-put c = put_then c.put-word.ensures (put_then c.put-name.ensures (put_then c.put-space.ensures c.put_number_and_place.ensures.put))
