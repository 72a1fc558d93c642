use Rattle.std.proofs.Common.{◌∙◌, subst}
use Rattle.book.specs.Lines.{lines}
use Rattle.chains.specs.Stops.{chain_stopped}
use Rattle.dividing.specs.Filling.{Filled}
use Rattle.flow.proofs.Avoiding.{avoiding_reaches_figure}
use Rattle.flow.proofs.Certainty.{figure_is_least}
use Rattle.flow.proofs.ChainFacts.{chain_short}
use Rattle.flow.specs.Rules.{avoiding}
use Rattle.dividing.proofs.opposing.counter.Goals as goal

pub returns : goal.returns
returns c =
    let t = lines c.args.book.now in
    let chain = c.args.chain.now in
    let passed = c.in_ok-check_chain.ensures.passed in
    let held = c.new-rule.ensures.held (chain_short t chain passed.0) in
    record {
      stop = λ o. c.in_ok-check_chain.ensures.stop o ∙ c.in_ok-check_tables.ensures.stop (chain_stopped t chain o);
      filled = subst (λ d. Filled (avoiding d) t c.args.rows.now c.args.tonnes.now c.fill.result c.fill.new.rows c.fill.new.tonnes) held c.fill.ensures;
      opposed = λ rs d. record {
        least = (avoiding_reaches_figure chain).1 t rs passed.2 passed.1 passed.0 d;
        certain = (figure_is_least t chain passed.2 passed.1 passed.0).0;
      };
    }
