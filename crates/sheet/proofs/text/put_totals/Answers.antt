use Rattle.sheet.proofs.Laid.{put_then}
use Rattle.sheet.proofs.text.put_totals.Goals as goal

pub returns-clause-put : goal.returns-clause-put
returns-clause-put c =
    put_then c.put-a.ensures
    (put_then c.put_decimal-b.ensures.put
    (put_then c.put-c.ensures
    (put_then c.put_decimal-d.ensures.put
    (put_then c.put-e.ensures c.put_decimal.ensures.put))))
