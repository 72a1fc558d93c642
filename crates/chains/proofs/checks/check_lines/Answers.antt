use Rattle.std.proofs.Common.{◌+◌, get_or, drop, Some, sym, ap, ◌∙◌}
use Rattle.std.proofs.lemmas.Result.{err_from_is_err_and}
use Rattle.book.specs.Lines.{lines}
use Rattle.book.specs.Outcome.{stopped}
use Rattle.book.specs.Tally.{at}
use Rattle.flow.specs.Chains.{to_of}
use Rattle.chains.proofs.LineStops.{lines_step}
use Rattle.chains.proofs.Stops.{through}
use Rattle.chains.specs.Stops.{lines_stops}
use Rattle.chains.proofs.checks.check_lines.Goals as goal

pub returns-in_err-check_line : goal.returns-in_err-check_line
returns-in_err-check_line c = λ o.
    let t = lines c.args.book.now in
    let chain = c.args.chain.now in
    let i = c.loop-place.place in
    let p = err_from_is_err_and c.from_residual.result c.from_residual.ensures.1 in
    through c.from_residual.result p.0 _ _ o p.1 p.2
    (c.in_err-check_line.ensures.stop (stopped (lines_stops t (i + 1) (Some (to_of (at t (get_or chain i 0)))) (drop (i + 1) chain)) o)
    ∙ (sym (lines_step t i c.loop-place.before chain o c.loop-place-test.true) ∙ c.loop-place.invariant o))

pub loop-place-preserved : goal.loop-place-preserved
loop-place-preserved c = λ o.
    let t = lines c.args.book.now in
    let chain = c.args.chain.now in
    let i = c.loop-place.place in
    ap (λ a. stopped (lines_stops t (i + 1) (Some a) (drop (i + 1) chain)) o) c.in_ok-check_line.ensures.entered
    ∙ (c.in_ok-check_line.ensures.stop (stopped (lines_stops t (i + 1) (Some (to_of (at t (get_or chain i 0)))) (drop (i + 1) chain)) o)
    ∙ (sym (lines_step t i c.loop-place.before chain o c.loop-place-test.true) ∙ c.loop-place.invariant o))
