use Rattle.std.proofs.Common.{ℕ, ◌<◌}
use Rattle.book.specs.Totals.{Agree}
use Rattle.book.proofs.state.balance.compare.Given as goal

abbrev pub invariant-loop-a : goal.invariant-loop-a
invariant-loop-a l = (b : ℕ) → b < l.a → Agree l.ins l.outs b
