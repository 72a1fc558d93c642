use Rattle.std.proofs.Common.{◌-◌, ◌<◌, length, pos, ap, ◌∙◌, arith, ltb-false, ltb-true}
use Rattle.std.proofs.lemmas.Int.{ints}
use Rattle.std.proofs.lemmas.List.{length-take}
use Rattle.book.specs.Lines.{lines}
use Rattle.book.specs.Totals.{in_total}
use Rattle.chains.proofs.Excess.{excess_front}
use Rattle.chains.proofs.certainty.+excess_of.Goals as goal

pub returns-in-len1-up : goal.returns-in-len1-up
returns-in-len1-up t c =
    let tally = lines c.args.book.now in
    let chain = c.args.chain.now in
    let long : 1 < length chain = omega (arith, ltb-true, ltb-false) in
    let law = excess_front tally chain (length chain - 1) (omega arith) (omega arith) in
    let before = c.excess_of-before.ensures in
    let from = c.parts-from.ensures.from in
    let amount = c.parts-from.ensures.amount in
    let total = c.requires.totals c.parts-from.result.from from.1 ∙ ap (in_total tally) from.0 in
    let front = length-take (length chain - 1) chain in
    record {
      value = omega (arith, ints, ap pos total, ap pos amount.0, before.value, law, front, before.low, before.high);
      low = omega (arith, ints, before.low, before.high, front, amount.1);
      high = omega (arith, ints, before.low, before.high, front, amount.1);
    }
