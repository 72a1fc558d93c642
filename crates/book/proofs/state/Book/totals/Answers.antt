use Rattle.std.proofs.Common.{◌<◌, ◌≤◌, get_or, take, sym, refl, subst, arith}
use Rattle.std.proofs.lemmas.List.{length-take-le, get_or-take}
use Rattle.book.proofs.Totals.{running_none, running_live, running_struck, account_within}
use Rattle.book.specs.Limits.{highest_account, greatest_amount}
use Rattle.book.specs.Records.{blank}
use Rattle.book.specs.declared.table.Record.{Record}
use Rattle.book.proofs.state.Book.totals.Goals as goal
use Rattle.book.proofs.state.Book.totals.Goals.{then-record, else-record}

pub loop-record-init : goal.loop-record-init
loop-record-init c = running_none _ _

pub loop-record-preserved : goal.loop-record-preserved
loop-record-preserved c =
    let b = c.args.self.now in
    let i = c.loop-record.record-index in
    let long = length-take-le b.count b.table.records (omega arith) in
    let below : i < b.count = omega arith in
    let held : (P : Record → Type 0) → P (get_or b.table.records i blank) → P (get_or (take b.count b.table.records) i blank) =
    λ P h. subst P (sym (get_or-take b.count b.table.records i blank below)) h in
    elim c.if-record.branch [
      | then-record w ↦
          let within = account_within c.args.side (get_or (take b.count b.table.records) i blank) (held (λ r. r.from < r.to) (b.upward i below)) (held (λ r. r.to ≤ highest_account) (b.placed i below)) in
          rw w.sums-is (running_live _ _ _ _ c.loop-record.invariant _ _ (omega arith) refl w.account.ensures w.if-record.true (omega (arith, w.account.ensures)) (held (λ r. r.amount ≤ greatest_amount) (b.sized i below)))
      | else-record w ↦ rw w.sums-is (running_struck _ _ _ _ c.loop-record.invariant (omega arith) w.if-record.false)
    ]
