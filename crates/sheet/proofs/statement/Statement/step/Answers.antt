use Rattle.std.proofs.Common.{◌≡◌, length, Err, refl, ap, ◌∙◌}
use Rattle.std.proofs.lemmas.Result.{err_from_is_err_and}
use Rattle.sheet.specs.declared.command.Fault.TheVariants.{TablesTooSmall}
use Rattle.sheet.specs.Reading.{checked}
use Rattle.sheet.specs.Stepping.{state}
use Rattle.sheet.proofs.FirstParts.{first_part, stepped_whole, refused_whole}
use Rattle.sheet.proofs.Printing.{passes, small_rows, small_tonnes}
use Rattle.sheet.proofs.statement.Statement.step.Goals as goal

pub returns-in_err-rows : goal.returns-in_err-rows
returns-in_err-rows c =
    let page = rw c.in_ok-page.ensures.ok_part at c.first_chunk_mut.ensures.cases in
    let few = rw c.in_err-rows.ensures.ok_part at c.first_chunk_mut-2.ensures.cases in
    let value = rw c.in_err-rows.ensures.ok_part at c.in_err-rows.ensures.value in
    let p = err_from_is_err_and c.from_residual-in_err-rows.result c.from_residual-in_err-rows.ensures.1 in
    let is : c.from_residual-in_err-rows.result ≡ Err TablesTooSmall = cc (p.1, p.2, value) in
    record {
      stop = λ o. ap (λ z. checked z o) is ∙ small_rows (length c.args.page.now) (length c.args.rows.now) (length c.args.tonnes.now) page.enough few o;
      stepped = refused_whole (state c.args.self.now) _ _ _ _ _ _ _ TablesTooSmall is (first_part c.args.page.now c.in_ok-page.page.now 320 page) refl refl;
    }

pub returns-in_err-tonnes : goal.returns-in_err-tonnes
returns-in_err-tonnes c =
    let page = rw c.in_ok-page.ensures.ok_part at c.first_chunk_mut.ensures.cases in
    let rows = rw c.in_ok-rows.ensures.ok_part at c.first_chunk_mut-2.ensures.cases in
    let few = rw c.in_err-tonnes.ensures.ok_part at c.first_chunk_mut-3.ensures.cases in
    let value = rw c.in_err-tonnes.ensures.ok_part at c.in_err-tonnes.ensures.value in
    let p = err_from_is_err_and c.from_residual-in_err-tonnes.result c.from_residual-in_err-tonnes.ensures.1 in
    let is : c.from_residual-in_err-tonnes.result ≡ Err TablesTooSmall = cc (p.1, p.2, value) in
    record {
      stop = λ o. ap (λ z. checked z o) is ∙ small_tonnes (length c.args.page.now) (length c.args.rows.now) (length c.args.tonnes.now) page.enough few o;
      stepped =
          refused_whole (state c.args.self.now) _ _ _ _ _ _ _ TablesTooSmall is (first_part c.args.page.now c.in_ok-page.page.now 320 page)
          (first_part c.args.rows.now c.in_ok-rows.rows.now 16384 rows)
          refl;
    }

pub returns : goal.returns
returns c =
    let page = rw c.in_ok-page.ensures.ok_part at c.first_chunk_mut.ensures.cases in
    let rows = rw c.in_ok-rows.ensures.ok_part at c.first_chunk_mut-2.ensures.cases in
    let tonnes = rw c.in_ok-tonnes.ensures.ok_part at c.first_chunk_mut-3.ensures.cases in
    record {
      stop = passes (length c.args.page.now) (length c.args.rows.now) (length c.args.tonnes.now) page.enough rows.enough tonnes.enough;
      stepped =
          stepped_whole (state c.args.self.now) (state c.next_line.new.self) c.args.page.now c.args.rows.now c.args.tonnes.now
          c.in_ok-page.page.now c.in_ok-rows.rows.now c.in_ok-tonnes.tonnes.now
          c.next_line.new.page c.next_line.new.rows c.next_line.new.tonnes
          c.next_line.result page rows tonnes c.next_line.ensures;
    }
