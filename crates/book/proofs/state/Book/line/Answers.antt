use Rattle.std.proofs.Common.{◌<◌, ltb, length, take, Some, sym, ap, ◌∙◌, arith}
use Rattle.std.proofs.lemmas.Bool.{cond-true, cond-false, lt-ltb}
use Rattle.std.proofs.lemmas.List.{get_or-take, length-map, length-take-le}
use Rattle.book.specs.Lines.{lines}
use Rattle.book.specs.Records.{blank, line_of}
use Rattle.book.proofs.Balance.{well_formed}
use Rattle.book.proofs.Records.{length-lines, at-lines}
use Rattle.book.proofs.state.Book.line.Goals as goal

pub returns-in_err-record : goal.returns-in_err-record
returns-in_err-record c =
    let b = c.args.self.now in
    let past = ap (ltb c.args.number) (length-map (take b.count b.table.records) line_of) ∙ sym c.in_err-record.ensures.lookup.0 in
    record { line = c.from_residual.ensures ∙ sym (cond-false _ _ _ past); sound = well_formed b }

pub returns : goal.returns
returns c =
    let b = c.args.self.now in
    let n = length-lines b.count b.table.records (omega arith) in
    let long = length-take-le b.count b.table.records (omega arith) in
    let below : c.args.number < b.count = omega (arith, c.in_ok-record.ensures.lookup.3.0) in
    record {
      line =
          ap Some (c.from.ensures ∙ (ap line_of (c.in_ok-record.ensures.lookup.3.1 blank ∙ get_or-take b.count b.table.records c.args.number blank below) ∙ sym (at-lines b.table.records b.count c.args.number below (omega arith))))
          ∙ sym (cond-true _ _ _ (lt-ltb c.args.number (length (lines b)) (omega arith)));
      sound = well_formed b;
    }
