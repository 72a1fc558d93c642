-- The running totals of a book's records. Assumes nothing.
use Rattle.std.proofs.Common.{◌≡◌, ℕ, ◌+◌, ◌*◌, ◌<◌, ◌≤◌, true, false, cond, eqb, List, map, length, get_or, drop, set, replicate, sym, ap, ◌∙◌, ⊎_elim, arith}
use Rattle.std.proofs.lemmas.List.{length-replicate, get_or-replicate, at_drop_more, length-set, get_or-set_same, get_or-set_other}
use Rattle.std.proofs.lemmas.Bool.{cases_eq, cond-true, cond-false, eq-eqb, ne_eqb}
use Rattle.book.specs.Limits.{accounts, highest_account, greatest_amount}
use Rattle.book.specs.Records.{line_of, blank, account_of}
use Rattle.book.specs.Totals.{total, figure}
use Rattle.book.specs.declared.entries.Line.TheVariants.{Live, Struck}
use Rattle.book.specs.declared.table.Record.{Record}
use Rattle.book.specs.declared.table.Side.{Side}
use Rattle.book.specs.declared.table.Side.TheVariants.{In, Out}

-- what a record adds to a total
figure_struck : (s : Side) (a : ℕ) (r : Record) → r.live ≡ false → figure s a (line_of r) ≡ 0
figure_struck In a r e = ap (λ v. figure In a (cond v (Live r.from r.to r.amount) Struck)) e
figure_struck Out a r e = ap (λ v. figure Out a (cond v (Live r.from r.to r.amount) Struck)) e

figure_live : (s : Side) (a : ℕ) (r : Record) → r.live ≡ true → figure s a (line_of r) ≡ cond (eqb (account_of s r) a) r.amount 0
figure_live In a r e = ap (λ v. figure In a (cond v (Live r.from r.to r.amount) Struck)) e
figure_live Out a r e = ap (λ v. figure Out a (cond v (Live r.from r.to r.amount) Struck)) e

-- the first i records of rs are added up
pub record Running (s : Side) (rs : List Record) (i : ℕ) (sums : List ℕ) : Type 0 where
  pub len : length sums ≡ accounts
  pub part : (a : ℕ) → a < accounts → get_or sums a 0 + total (figure s a) (map line_of (drop i rs)) ≡ total (figure s a) (map line_of rs)
  pub small : (a : ℕ) → a < accounts → get_or sums a 0 ≤ i * greatest_amount

module _ (s : Side) (rs : List Record) (i : ℕ) (sums : List ℕ) (run : Running s rs i sums) where
  next_figure : (a : ℕ) → i < length rs → total (figure s a) (map line_of (drop i rs)) ≡ figure s a (line_of (get_or rs i blank)) + total (figure s a) (map line_of (drop (i + 1) rs))
  next_figure a h = at_drop_more (λ xs. total (figure s a) (map line_of xs)) rs i blank h

  pub running_struck : i < length rs → (get_or rs i blank).live ≡ false → Running s rs (i + 1) sums
  running_struck h e = record {
    len = run.len;
    part = λ a within. omega (arith, run.part a within, next_figure a h, figure_struck s a (get_or rs i blank) e);
    small = λ a within. omega (arith, run.small a within);
  }

  pub running_live : (r : Record) (here : ℕ) → i < length rs → get_or rs i blank ≡ r → here ≡ account_of s r → r.live ≡ true → here < accounts → r.amount ≤ greatest_amount → Running s rs (i + 1) (set sums here (get_or sums here 0 + r.amount))
  running_live r here h is where' e placed sized = record {
    len = length-set sums here new ∙ run.len;
    part = λ a within. ⊎_elim (at_same a within) (at_other a within) (cases_eq a here);
    small = λ a within. ⊎_elim (small_same a within) (small_other a within) (cases_eq a here);
  }
    where
      new : ℕ
      new = get_or sums here 0 + r.amount

      adds : (a : ℕ) → figure s a (line_of (get_or rs i blank)) ≡ cond (eqb here a) r.amount 0
      adds a = ap (λ z. figure s a (line_of z)) is ∙ (figure_live s a r e ∙ ap (λ z. cond (eqb z a) r.amount 0) (sym where'))

      at_same : (a : ℕ) → a < accounts → a ≡ here → get_or (set sums here new) a 0 + total (figure s a) (map line_of (drop (i + 1) rs)) ≡ total (figure s a) (map line_of rs)
      at_same a within same =
          let now : get_or (set sums here new) a 0 ≡ new = ap (λ z. get_or (set sums here new) z 0) same ∙ get_or-set_same sums here new 0 (omega (arith, run.len)) in
          let old : get_or sums a 0 ≡ get_or sums here 0 = ap (λ z. get_or sums z 0) same in
          omega (arith, now, old, run.part a within, next_figure a h, adds a, cond-true (eqb here a) r.amount 0 (eq-eqb here a (sym same)))

      at_other : (a : ℕ) → a < accounts → (a ≡ here → ⊥) → get_or (set sums here new) a 0 + total (figure s a) (map line_of (drop (i + 1) rs)) ≡ total (figure s a) (map line_of rs)
      at_other a within other =
          omega (arith, get_or-set_other sums here a new 0 other, run.part a within, next_figure a h, adds a, cond-false (eqb here a) r.amount 0 (ne_eqb here a (λ p. other (sym p))))

      small_same : (a : ℕ) → a < accounts → a ≡ here → get_or (set sums here new) a 0 ≤ (i + 1) * greatest_amount
      small_same a within same =
          let now : get_or (set sums here new) a 0 ≡ new = ap (λ z. get_or (set sums here new) z 0) same ∙ get_or-set_same sums here new 0 (omega (arith, run.len)) in
          omega (arith, now, run.small here placed)

      small_other : (a : ℕ) → a < accounts → (a ≡ here → ⊥) → get_or (set sums here new) a 0 ≤ (i + 1) * greatest_amount
      small_other a within other = omega (arith, get_or-set_other sums here a new 0 other, run.small a within)

pub running_none : (s : Side) (rs : List Record) → Running s rs 0 (replicate accounts 0)
running_none s rs = record {
  len = length-replicate {A = ℕ} accounts 0;
  part = λ a within. omega (arith, get_or-replicate {A = ℕ} accounts a 0 0 within);
  small = λ a within. omega (arith, get_or-replicate {A = ℕ} accounts a 0 0 within);
}

pub account_within : (s : Side) (r : Record) → r.from < r.to → r.to ≤ highest_account → account_of s r < accounts
account_within In r up placed = omega arith
account_within Out r up placed = omega arith
