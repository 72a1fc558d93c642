use Rattle.std.proofs.Common.{◌≡◌, ◌+◌, ◌-◌, suc, arith, sym, ap, ◌∙◌}
use Rattle.book.specs.Tally.{after, outcome}
use Rattle.case_words.proofs.Repeats.{tally-replicate-suc}
use Rattle.case_words.proofs.calls.Change.make.Goals as goal

pub loop-preserved : goal.loop-preserved
loop-preserved c = record {
  made =
      let once_more : c.loop.counter + 1 - 1 ≡ suc (c.loop.counter - 1) = omega arith in
      rw once_more (c.make.ensures.lines ∙ ap (λ t. after t c.args.self.now.call) c.loop.invariant.made ∙ sym (tally-replicate-suc (c.loop.counter - 1) _ _));
  few = omega arith;
}

pub returns-clause-answer : goal.returns-clause-answer
returns-clause-answer c =
    let all_made : c.loop.counter - 1 ≡ c.args.self.now.times - 1 = omega arith in
    rw (← all_made) (c.make-2.ensures.answer ∙ ap (λ t. outcome t c.args.self.now.call) c.loop.invariant.made)

pub returns-clause-lines : goal.returns-clause-lines
returns-clause-lines c =
    let all_made : c.loop.counter - 1 ≡ c.args.self.now.times - 1 = omega arith in
    rw (← all_made) (c.make-2.ensures.lines ∙ ap (λ t. after t c.args.self.now.call) c.loop.invariant.made)
