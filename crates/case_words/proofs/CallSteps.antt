-- Numbers read one after the other, of which one is missing.
use Rattle.std.proofs.Common.{◌≡◌, Result, Ok, Err, MatchResult, sym, subst}
use Rattle.std.specs.Result.{IsErrAnd}

-- a fact of the error that was handed on
pub error_handed_on : {T E : Type 0} (r : Result T E) (e : E) (P : T → Type 0) (Q : E → Type 0) → IsErrAnd r (λ x. x ≡ e) → Q e → MatchResult r P Q
error_handed_on (Ok x) e P Q h k = absurd h
error_handed_on (Err x) e P Q h k = subst Q (sym h) k
