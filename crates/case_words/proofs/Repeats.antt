-- One call made many times.
use Rattle.std.proofs.Common.{◌≡◌, ℕ, zero, suc, replicate, refl}
use Rattle.book.specs.declared.entries.Call.{Call}
use Rattle.book.specs.Tally.{Tally, after, tally}

-- once more: the last call is made on what the others left
pub tally-replicate-suc : (n : ℕ) (t : Tally) (call : Call) → tally t (replicate (suc n) call) ≡ after (tally t (replicate n call)) call
tally-replicate-suc zero t call = refl
tally-replicate-suc (suc n) t call = tally-replicate-suc n (after t call) call
