-- A split puts on a part of a chain at least what it puts on the chain. Assumes nothing.
use Rattle.std.proofs.Common.{◌≡◌, ℕ, ◌≤◌, true, cond, List, ⊎_elim, arith}
use Rattle.std.proofs.lemmas.Bool.{cases_Bool, cond-true, cond-false}
use Rattle.flow.specs.Promises.{PartCertain}
use Rattle.flow.specs.Splits.{Row, holds, puts}
use Rattle.flow.proofs.Infix.{holds_trans}
use Rattle.flow.proofs.Sums.{total_le}

pub part_puts : (s : List Row) (c d : List ℕ) → holds c d ≡ true → puts s d ≤ puts s c
part_puts s c d part = total_le (λ r. cond (holds d r.chain) r.tonnes 0) (λ r. cond (holds c r.chain) r.tonnes 0) row s
  where
    row : (r : Row) → cond (holds d r.chain) r.tonnes 0 ≤ cond (holds c r.chain) r.tonnes 0
    row r =
        ⊎_elim
        (λ y. omega (arith, cond-true (holds d r.chain) r.tonnes 0 y, cond-true (holds c r.chain) r.tonnes 0 (holds_trans c d r.chain part y)))
        (λ z. omega (arith, cond-false (holds d r.chain) r.tonnes 0 z))
        (cases_Bool (holds d r.chain))

pub part_certain : PartCertain
part_certain t w c d chain certain part s split = omega (arith, certain s split, part_puts s c d part)
