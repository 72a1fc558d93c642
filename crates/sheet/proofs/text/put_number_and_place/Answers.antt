use Rattle.sheet.proofs.Laid.{put_then}
use Rattle.sheet.proofs.text.put_number_and_place.Goals as goal

pub returns-clause-put : goal.returns-clause-put
returns-clause-put c = put_then c.put_decimal-after.ensures.put (put_then c.put-next.ensures c.put_decimal.ensures.put)
