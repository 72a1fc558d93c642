use Rattle.sheet.proofs.Laid.{put_then}
use Rattle.sheet.proofs.text.say_chain.Goals as goal

pub returns : goal.returns
returns c =
    put_then
    (put_then c.put-after.ensures (put_then c.put_decimal-colon.ensures.put (put_then c.put-first.ensures c.put_numbers-end.ensures.put)))
    c.put.ensures
