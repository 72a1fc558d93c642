use Rattle.std.proofs.Common.{◌≡◌, ap, ◌∙◌, arith, w64, to_z, of_z}
use Rattle.std.proofs.lemmas.Int.{ints}
use Rattle.book.specs.Lines.{lines}
use Rattle.flow.proofs.Certainty.{figure_is_least}
use Rattle.flow.specs.Excess.{excess}
use Rattle.chains.specs.Certainty.{by_excess}
use Rattle.chains.proofs.certainty.certain.Goals as goal

pub returns : goal.returns
returns c =
    let t = lines c.args.book.now in
    let chain = c.args.chain.now in
    let passed = c.in_ok-check_chain.ensures.passed in
    let least = figure_is_least t chain passed.2 passed.1 passed.0 in
    let same : to_z w64 (of_z w64 c.excess_of.result) ≡ excess t chain = omega (arith, ints, c.excess_of.ensures.value) in
    record {
      stop = c.in_ok-check_chain.ensures.stop;
      answer = c.judge.ensures ∙ ap by_excess same;
      agreed = record { every = least.0; some = least.1 };
    }
