use Rattle.std.proofs.Common.{inl, inr}
use Rattle.case_words.proofs.CallSteps.{error_handed_on}
use Rattle.case_words.proofs.calls.parse_call.Goals as goal

pub returns-in_err-next_number-in-post-2 : goal.returns-in_err-next_number-in-post-2
returns-in_err-next_number-in-post-2 c =
    error_handed_on _ _ _ _ c.from_residual-in_err-next_number-in-post-2.ensures.1
    (inl (c.in-post.is, inr (_, _, c.in_ok-next_number-in-post.ensures, inl c.in_err-next_number-in-post-2.ensures)))

pub returns-in_err-next_number-in-post-3 : goal.returns-in_err-next_number-in-post-3
returns-in_err-next_number-in-post-3 c =
    error_handed_on _ _ _ _ c.from_residual-in_err-next_number-in-post-3.ensures.1
    (inl (c.in-post.is, inr (_, _, c.in_ok-next_number-in-post.ensures, inr (_, _, c.in_ok-next_number-in-post-2.ensures, inl c.in_err-next_number-in-post-3.ensures))))

pub returns-in_err-next_number-in-amend-2 : goal.returns-in_err-next_number-in-amend-2
returns-in_err-next_number-in-amend-2 c =
    error_handed_on _ _ _ _ c.from_residual-in_err-next_number-in-amend-2.ensures.1
    (inr (inl (c.in-amend.is, inr (_, _, c.in_ok-next_number-in-amend.ensures, inl c.in_err-next_number-in-amend-2.ensures))))
