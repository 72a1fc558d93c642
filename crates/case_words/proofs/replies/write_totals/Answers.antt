use Rattle.std.proofs.Common.{◌≡◌, ◌++◌, length, codes, refl, ap, arith}
use Rattle.std.proofs.Output.{has_written_append, has_written_of_eq}
use Rattle.case_words.specs.Shown.{accounts_text}
use Rattle.case_words.proofs.Shown.{accounts_more, accounts_same}
use Rattle.case_words.proofs.replies.write_totals.Goals as goal
use Rattle.case_words.proofs.replies.write_totals.Goals.{then-total-gt0+in_ok-write, else-total-gt0}

pub loop-account-preserved : goal.loop-account-preserved
loop-account-preserved g c = λ plain.
    let so_far = c.loop-account.invariant plain in
    elim c.if-total-gt0.branch [
      | then-total-gt0+in_ok-write w ↦
          rw w.f-is (has_written_of_eq _ _ _ _ _ (accounts_more c.args.totals.now c.loop-account.account-counter w.if-total-gt0.true)
          (has_written_append _ _ _ _ _ _ so_far (w.in_ok-write.ensures.writes so_far.plain refl)))
      | else-total-gt0 w ↦ rw w.f-is (has_written_of_eq _ _ _ _ _ (accounts_same c.args.totals.now c.loop-account.account-counter w.if-total-gt0.false) so_far)
    ]

pub returns : goal.returns
returns g c = λ plain ok.
    let so_far = c.loop-account.invariant plain in
    let all : c.loop-account.account-counter ≡ length c.args.totals.now = omega arith in
    has_written_of_eq _ _ _ _ _ (ap (λ count. accounts_text c.args.totals.now count ++ codes "rest 0") all)
    (has_written_append _ _ _ _ _ _ so_far (c.write-2.ensures.writes so_far.plain ok))
