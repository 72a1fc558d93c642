-- From equal totals by account to balance, and what every book has. Assumes nothing.
use Rattle.std.proofs.Common.{◌≡◌, ℕ, ◌<◌, ◌≤◌, true, false, cond, not, ◌&&◌, eqb, List, [], ◌∷◌, get_or, Ok, Err, Result, sym, refl, ap, ◌∙◌, subst, ⊎_elim, arith}
use Rattle.std.proofs.ByRecursion.{All-from_get_or}
use Rattle.std.proofs.lemmas.Bool.{cases_Bool, cases_lt, cond-true, cond-false, or_cases, or_left, or_right, and_from, and_parts, eqb-true, eqb-false, ne_eqb, not-true, not_from_false, both_ways}
use Rattle.std.specs.List.{AllByRecursion}
use Rattle.book.specs.Faults.{refusal, checked}
use Rattle.book.specs.Limits.{accounts, highest_account, greatest_amount}
use Rattle.book.specs.Lines.{lines}
use Rattle.book.specs.Outcome.{Outcome, book, refuses, stopped}
use Rattle.book.specs.Records.{line_of, blank}
use Rattle.book.specs.Tally.{Tally, Sound, WellFormed}
use Rattle.book.specs.Totals.{any, touches, side_total, in_total, out_total, amount_of, enters, leaves, Compared, Differs, differs, Balances, balance_stops, Agree}
use Rattle.book.specs.declared.entries.Fault.{Fault}
use Rattle.book.specs.declared.entries.Fault.TheVariants.{Unbalanced}
use Rattle.book.specs.declared.entries.Line.{Line}
use Rattle.book.specs.declared.entries.Line.TheVariants.{Live, Struck}
use Rattle.book.specs.declared.state.Book.{Book}
use Rattle.book.specs.declared.table.Record.{Record}
use Rattle.book.specs.declared.table.Side.{Side}
use Rattle.book.specs.declared.table.Side.TheVariants.{In, Out}
use Rattle.book.proofs.Records.{length-taken, at-lines}
use Rattle.book.proofs.Search.{lowest_of_first, some_of_true, some_of_false}

-- a live line that touches an account has an amount, and the account is one there is
touch : (s : Side) (a : ℕ) (l : Line) → Sound l → touches s a l ≡ true → (0 < amount_of l) × (a < accounts)
touch In a (Live from to amount) sound yes' = (sound.2, omega (arith, sound.1, eqb-true to a yes'))
touch Out a (Live from to amount) sound yes' = (sound.2, omega (arith, sound.0, sound.1, eqb-true from a yes'))
touch In a Struck sound yes' = absurd (both_ways false refl yes')
touch Out a Struck sound yes' = absurd (both_ways false refl yes')

pub touched : (s : Side) (a : ℕ) (t : Tally) → AllByRecursion Sound t → any (touches s a) t ≡ true → (0 < side_total s t a) × (a < accounts)
touched s a [] sound yes' = absurd (both_ways false refl yes')
touched s a (l ∷ t) sound yes' =
    ⊎_elim
    (λ here. let p = touch s a l sound.0 here in (omega (arith, p.0, cond-true (touches s a l) (amount_of l) 0 here), p.1))
    (λ later. let p = touched s a t sound.1 later in (omega (arith, p.0), p.1))
    (or_cases (touches s a l) (any (touches s a) t) yes')

pub touching : (s : Side) (a : ℕ) (t : Tally) → 0 < side_total s t a → any (touches s a) t ≡ true
touching s a [] some = absurd (omega arith)
touching s a (l ∷ t) some =
    ⊎_elim
    (λ here. or_left (touches s a l) (any (touches s a) t) here)
    (λ gone. or_right (touches s a l) (any (touches s a) t) (touching s a t (omega (arith, cond-false (touches s a l) (amount_of l) 0 gone))))
    (cases_Bool (touches s a l))

module _ (t : Tally) (sound : AllByRecursion Sound t) (ins outs : List ℕ) (in_is : (a : ℕ) → a < accounts → get_or ins a 0 ≡ in_total t a) (out-is : (a : ℕ) → a < accounts → get_or outs a 0 ≡ out_total t a) where
  agrees : (a : ℕ) → a < accounts → Agree ins outs a → any (touches In a) t ≡ true → any (touches Out a) t ≡ true → in_total t a ≡ out_total t a
  agrees a within agree enters leaves =
      let i = touched In a t sound enters in
      let o = touched Out a t sound leaves in
      let ie = in_is a within in
      let oe = out-is a within in
      omega (arith, agree (omega arith) (omega arith))

  pub compared_balances : (r : Result Unit Fault) → Compared ins outs r → Balances t r
  compared_balances (Ok x) h = λ a enters leaves. let i = touched In a t sound enters in agrees a i.1 (h a i.1) enters leaves
  compared_balances (Err e) (a, within, differ, below, is) =
      let ie = in_is a within in
      let oe = out-is a within in
      let some_in : 0 < get_or ins a 0 = ⊎_elim (λ h. h) (λ none. absurd (differ (λ i o. absurd (omega arith)))) (cases_lt 0 (get_or ins a 0)) in
      let some_out : 0 < get_or outs a 0 = ⊎_elim (λ h. h) (λ none. absurd (differ (λ i o. absurd (omega arith)))) (cases_lt 0 (get_or outs a 0)) in (
        a,
        (touching In a t (omega arith), touching Out a t (omega arith), λ same. differ (λ i o. ie ∙ (same ∙ sym oe))),
        (λ b lower d. d.2 (agrees b (omega arith) (below b lower) d.0 d.1)),
        ap refusal (is ∙ (ap (λ z. Unbalanced a z (get_or outs a 0)) ie ∙ ap (λ z. Unbalanced a (in_total t a) z) oe)),
      )

-- the computed test tells whether an account differs
pub differs_true : (t : Tally) (a : ℕ) → Differs t a → differs t a ≡ true
differs_true t a (entered, left, apart) =
    and_from _ _ (and_from _ _ entered left) (not_from_false (eqb (in_total t a) (out_total t a)) (ne_eqb (in_total t a) (out_total t a) apart))

pub true_differs : (t : Tally) (a : ℕ) → differs t a ≡ true → Differs t a
true_differs t a d =
    let outer = and_parts (any (enters a) t && any (leaves a) t) (not (eqb (in_total t a) (out_total t a))) d in
    let inner = and_parts (any (enters a) t) (any (leaves a) t) outer.0 in
    (inner.0, inner.1, eqb-false (in_total t a) (out_total t a) (not-true (eqb (in_total t a) (out_total t a)) outer.1))

differs_false : (t : Tally) (a : ℕ) → (Differs t a → ⊥) → differs t a ≡ false
differs_false t a same = ⊎_elim (λ d. absurd (same (true_differs t a d))) (λ e. e) (cases_Bool (differs t a))

pub balances_stop : (t : Tally) → AllByRecursion Sound t → (r : Result Unit Fault) → Balances t r → (o : Outcome) → checked r o ≡ stopped (balance_stops t) o
unfolding balance_stops
balances_stop t sound (Ok x) balanced o =
    sym (cond-false _ _ _ (some_of_false (differs t) 0 accounts (λ a ge lt. differs_false t a (λ d. d.2 (balanced a d.0 d.1)))))
balances_stop t sound (Err e) (a, d, lower, is) o =
    let within = (touched In a t sound d.0).1 in
    let first = lowest_of_first (differs t) 0 0 accounts a (omega arith) (omega arith) (differs_true t a d) (λ b ge lt. differs_false t b (lower b lt)) in
    is ∙ (ap (λ z. refuses book 7 (z ∷ in_total t z ∷ out_total t z ∷ [])) (sym first) ∙ sym (cond-true _ _ _ (some_of_true (differs t) 0 accounts a (omega arith) (omega arith) (differs_true t a d))))

-- every book is well-formed
sound_record : (r : Record) → r.from < r.to → r.to ≤ highest_account → 0 < r.amount → r.amount ≤ greatest_amount → Sound (line_of r)
sound_record r up placed some sized =
    elim r.live as (λ v. Sound (cond v (Live r.from r.to r.amount) Struck)) [ true ↦ (up, placed, some, sized) | false ↦ tt ]

pub well_formed : (b : Book) → WellFormed (lines b)
well_formed b =
    let long = length-taken b.count b.table.records in (
      omega arith,
      All-from_get_or Sound (lines b) Struck (λ i within.
          let h : i < b.count = omega arith in
          subst Sound (sym (at-lines b.table.records b.count i h (omega arith))) (sound_record (get_or b.table.records i blank) (b.upward i h) (b.placed i h) (b.some i h) (b.sized i h))),
    )

-- no line touches an account above the highest
pub none_above : (s : Side) (a : ℕ) (t : Tally) → AllByRecursion Sound t → highest_account < a → 0 ≡ side_total s t a
none_above s a t sound above =
    ⊎_elim
    (λ some. absurd (omega (arith, (touched s a t sound (touching s a t some)).1)))
    (λ none. omega arith)
    (cases_lt 0 (side_total s t a))
