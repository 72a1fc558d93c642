use Rattle.std.proofs.Common.{arith}
use Rattle.book.specs.Lines.{lines}
use Rattle.dividing.proofs.Sourcing.{source_entered, source_found}
use Rattle.dividing.proofs.state.Division.source_of.Goals as goal

pub returns-then-self-from-gt0 : goal.returns-then-self-from-gt0
returns-then-self-from-gt0 g c =
    let s = c.args.self.now in
    let from = c.parts-from.result.from in
    let read = c.parts-from.ensures.from in
    source_entered (lines s.book.now) s.left c.args.line from read.0 (omega (arith, s.entering from read.1))

pub returns : goal.returns
returns g c =
    let s = c.args.self.now in
    let from = c.parts-from.result.from in
    let read = c.parts-from.ensures.from in
    source_found (lines s.book.now) s.left s.sound s.fair c.args.line from read.0 (omega (arith, s.entering from read.1)) (omega (arith, c.if-self-line-eq0.false))
