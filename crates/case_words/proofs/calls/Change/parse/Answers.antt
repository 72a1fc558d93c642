use Rattle.std.proofs.Common.{inl, inr, rules, ◌≡◌}
use Rattle.std.specs.Prelude.{codes}
use Rattle.case_words.proofs.CallSteps.{error_handed_on}
use Rattle.case_words.proofs.calls.Change.parse.Goals as goal

pub returns-in_err-call : goal.returns-in_err-call
returns-in_err-call c =
    error_handed_on _ _ _ _ c.from_residual.ensures.1
    (inl (search rules, c.in_err-call.ensures))

pub returns-in_err-call-2 : goal.returns-in_err-call-2
returns-in_err-call-2 c =
    let named : c.args.name.now ≡ codes "times" = search rules in
    error_handed_on _ _ _ _ c.from_residual-in_err-call-2.ensures.1
    (inr (named, inr (_, _, c.in_ok-times.ensures, inr (c.in_ok-next_word.field-0, _, c.in_ok-next_word.ensures, c.in_err-call-2.ensures))))
