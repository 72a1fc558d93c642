use Rattle.std.proofs.Common.{◌++◌, codes, subst}
use Rattle.book.specs.Faults.{number, carries}
use Rattle.sheet.specs.Page.{Put}
use Rattle.sheet.specs.Statements.{text_line, detail, refusal_head}
use Rattle.sheet.proofs.Laid.{put_then}
use Rattle.sheet.proofs.text.say_book_refusal.Goals as goal

pub returns : goal.returns
returns c =
    let f = c.args.fault.now in
    subst
    (λ n. Put c.args.page.now 0 (text_line (refusal_head (codes "book") n c.args.place ++ detail (number f) (carries f))) c.put.new.page c.put.result)
    c.number.ensures
    (put_then (put_then c.put_head-head.ensures.put c.put_detail-end.ensures.put) c.put.ensures)
