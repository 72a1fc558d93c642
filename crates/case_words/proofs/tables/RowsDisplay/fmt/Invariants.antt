use Rattle.std.proofs.Common.{◌≡◌, ◌+◌, ◌*◌, ◌<◌, ◌≤◌, length, drop}
use Rattle.std.specs.Fmt.{HasWritten, IsPlainFormatter}
use Rattle.std.specs.Iterator.Adapters.{take_source, take_count, zip_first, zip_second}
use Rattle.std.specs.Slice.Iter.{chunks_rest, chunks_size, iter_rest}
use Rattle.dividing.specs.Tables.{row_stride}
use Rattle.case_words.specs.Shown.{first_rows_text}
use Rattle.case_words.proofs.tables.RowsDisplay.fmt.Given as goal

abbrev pub invariant-loop-row : goal.invariant-loop-row
invariant-loop-row g l = record {
  can : (goal.iterator-loop-row g).can_next l.row-iterator;
  finite : (goal.iterator-loop-row g).is_finite l.row-iterator;
  stride : chunks_size (zip_first (take_source l.row-iterator)) ≡ row_stride;
  rows_left : chunks_rest (zip_first (take_source l.row-iterator)) ≡ drop (row_stride * length l.yielded) l.fn.self.0.now.rows.items;
  tonnes_left : iter_rest (zip_second (take_source l.row-iterator)) ≡ drop (length l.yielded) l.fn.self.0.now.tonnes.items;
  count_left : take_count l.row-iterator + length l.yielded ≡ l.fn.self.1;
  begun : row_stride * length l.yielded < length l.fn.self.0.now.rows.items + row_stride;
  placed : length l.yielded ≤ length l.fn.self.0.now.tonnes.items;
  text : IsPlainFormatter l.initial.f
      → HasWritten g.W.Write.write_str_gives l.initial.f (first_rows_text l.fn.self.0.now.rows.items l.fn.self.0.now.tonnes.items (length l.yielded)) l.f;
}
