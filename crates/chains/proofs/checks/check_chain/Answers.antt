use Rattle.std.proofs.Common.{None, ◌∙◌}
use Rattle.std.proofs.lemmas.Result.{IfOk-weaker}
use Rattle.book.specs.Lines.{lines}
use Rattle.book.specs.Outcome.{stopped}
use Rattle.book.specs.Tally.{WellFormed}
use Rattle.book.specs.Totals.{Balanced, balance_stops}
use Rattle.flow.specs.Chains.{Chain}
use Rattle.chains.proofs.LineStops.{chain_passed}
use Rattle.chains.specs.Stops.{lines_stops}
use Rattle.chains.proofs.checks.check_chain.Goals as goal

pub returns : goal.returns
returns c =
    let t = lines c.args.book.now in
    let chain = c.args.chain.now in
    let fits = c.in_ok-check_length.ensures.passed in
    let linked = chain_passed t chain fits.0 fits.1 c.in_ok-check_lines.ensures in
    record {
      stop = λ o.
          c.check_balance.ensures.stop o
          ∙ (c.in_ok-check_lines.ensures (stopped (balance_stops t) o) ∙ c.in_ok-check_length.ensures.stop (stopped (lines_stops t 0 None chain) (stopped (balance_stops t) o)));
      passed = IfOk-weaker c.check_balance.result (λ _. Balanced t) (λ _. Chain t chain × Balanced t × WellFormed t) (λ _ balanced. (linked, balanced, c.check_balance.ensures.sound)) c.check_balance.ensures.passed;
    }
