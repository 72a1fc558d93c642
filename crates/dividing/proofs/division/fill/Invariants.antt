use Rattle.std.proofs.Common.{◌≡◌}
use Rattle.book.specs.Lines.{lines}
use Rattle.dividing.proofs.Tabled.{Filling}
use Rattle.dividing.proofs.division.fill.Given as goal

abbrev pub invariant-loop-number : goal.invariant-loop-number
invariant-loop-number g l = record {
  book : l.division.book.now ≡ l.book;
  rule : l.division.rule.now ≡ l.rule;
  filling : Filling (g.R.Rule.choice l.rule) (lines l.book) l.initial.rows l.initial.tonnes l.division.left l.number l.rows l.tonnes;
}
