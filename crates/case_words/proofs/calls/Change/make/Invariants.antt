use Rattle.std.proofs.Common.{◌≡◌, ◌-◌, ◌≤◌, replicate}
use Rattle.book.specs.Lines.{lines}
use Rattle.book.specs.Tally.{tally}
use Rattle.case_words.proofs.calls.Change.make.Given as goal

abbrev pub invariant-loop : goal.invariant-loop
invariant-loop l = record {
  made : lines l.book ≡ tally (lines l.initial.book) (replicate (l.counter - 1) l.self.call);
  few : l.counter - 1 ≤ l.self.times - 1;
}
