use Rattle.std.proofs.Common.{length, refl, sym, ◌∙◌, arith}
use Rattle.std.proofs.Output.{has_written_append, has_written_of_eq}
use Rattle.std.proofs.lemmas.List.{length_push}
use Rattle.dividing.specs.Tables.{row_stride}
use Rattle.case_words.proofs.Shown.{chunk_is, next_is, rows_more}
use Rattle.case_words.proofs.tables.RowsDisplay.fmt.Goals as goal

pub loop-row-preserved : goal.loop-row-preserved
loop-row-preserved g c =
    let so_far = c.loop-row.invariant in
    let (chunk, number) = c.in-Some.ensures.steps.0 in
    let k = length c.loop-row.yielded in
    let rows = c.args.self.now.0.now.rows.items in
    let tonnes = c.args.self.now.0.now.tonnes.items in
    let (row, rows_left, begun) = chunk_is row_stride k rows _ _ _ _ so_far.stride so_far.rows_left chunk.1.0 chunk.1.1 chunk.1.2 in
    let (entry, tonnes_left, placed) = next_is k tonnes _ _ (sym so_far.tonnes_left ∙ number) in
    rw (length_push c.loop-row.yielded (c.in-Some.row, c.in-Some.tonnes)) (record {
      can = (omega (arith, chunk.0), tt);
      finite = tt;
      stride = chunk.0 ∙ so_far.stride;
      rows_left = rows_left;
      tonnes_left = sym tonnes_left;
      count_left = omega (arith, c.in-Some.ensures.steps.1);
      begun = omega arith;
      placed = omega arith;
      text = λ plain.
          let shown = so_far.text plain in
          has_written_of_eq _ _ _ _ _ (rows_more rows tonnes k _ _ _ row entry c.lines_of.ensures)
          (has_written_append _ _ _ _ _ _ shown (c.in_ok-write.ensures.writes shown.plain refl));
    })
