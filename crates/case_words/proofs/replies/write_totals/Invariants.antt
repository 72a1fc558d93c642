use Rattle.std.specs.Fmt.{HasWritten, IsPlainFormatter}
use Rattle.case_words.specs.Shown.{accounts_text}
use Rattle.case_words.proofs.replies.write_totals.Given as goal

abbrev pub invariant-loop-account : goal.invariant-loop-account
invariant-loop-account g l =
    IsPlainFormatter l.initial.f → HasWritten g.W.Write.write_str_gives l.initial.f (accounts_text l.fn.totals l.account-counter) l.f
