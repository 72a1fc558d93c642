use Rattle.std.proofs.Common.{◌+◌, ◌*◌, ◌≤◌, take}
use Rattle.sheet.specs.Page.{Put}
use Rattle.sheet.specs.Statements.{numbers_text}
use Rattle.sheet.proofs.text.put_numbers.Given as goal

abbrev pub invariant-loop-number : goal.invariant-loop-number
invariant-loop-number l = Put l.initial.page l.at (numbers_text (take l.number-index l.numbers)) l.page l.end × (l.end ≤ l.at + 4 * l.number-index)
