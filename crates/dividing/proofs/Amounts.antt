-- The tonnes left: the amounts at first, and what is taken off the lines of a row. Assumes nothing.
--   AmountsTo   the amounts of the lines below a number stand in a list of zeros
use Rattle.std.proofs.Common.{◌≡◌, ◌≢◌, ℕ, zero, suc, ◌+◌, ◌-◌, ◌<◌, ◌≤◌, true, false, Bool, cond, eqb, List, [], ◌∷◌, map, length, get_or, drop, set, replicate, sym, refl, ap, ◌∙◌, subst, ⊎_elim, arith}
use Rattle.std.proofs.lemmas.List.{ext_get_or, length-replicate, length-append, length-map, length-set, get_or_past, drop_more, get_or-set_same, get_or-set_other, set_comm}
use Rattle.std.proofs.lemmas.Bool.{cases_eq, cases_lt, eqb-false, or_parts}
use Rattle.std.specs.List.{AllByRecursion}
use Rattle.book.specs.Limits.{most_lines}
use Rattle.book.specs.Tally.{Tally, at}
use Rattle.book.specs.Totals.{amount_of, enters, leaves}
use Rattle.book.specs.declared.entries.Line.{Line}
use Rattle.book.specs.declared.entries.Line.TheVariants.{Struck}
use Rattle.flow.proofs.Infix.{Apart, holds_one_step}
use Rattle.flow.proofs.TonnesLeft.{weigh, get_or-amounts, get_or_zeros, Bears}
use Rattle.flow.proofs.Walks.{Fair}
use Rattle.flow.specs.Dividing.{amounts, off}
use Rattle.flow.specs.Splits.{holds}

cond-same : (b : Bool) (n : ℕ) → cond b n n ≡ n
cond-same b n = elim b as (λ v. cond v n n ≡ n) [ true ↦ refl | false ↦ refl ]

weigh-zeros : (p : Line → Bool) (t : Tally) (m : ℕ) → weigh p t (replicate m 0) ≡ 0
weigh-zeros p [] m = refl
weigh-zeros p (l ∷ t) zero = refl
weigh-zeros p (l ∷ t) (suc m) = omega (arith, cond-same (p l) 0, weigh-zeros p t m)

-- no tonnes on any line are fair
pub fair_zeros : (t : Tally) → Fair t (replicate most_lines 0)
fair_zeros t = record {
  whole = length-replicate {A = ℕ} most_lines 0;
  spent = λ n struck. get_or_zeros most_lines n;
  even = λ a entered left-on. weigh-zeros (enters a) t most_lines ∙ sym (weigh-zeros (leaves a) t most_lines);
}

pub record AmountsTo (t : Tally) (i : ℕ) (left : List ℕ) : Type 0 where
  pub whole : length left ≡ most_lines
  pub filled : (k : ℕ) → k < i → get_or left k 0 ≡ amount_of (at t k)
  pub blank : (k : ℕ) → i ≤ k → get_or left k 0 ≡ 0

pub amounts_none : (t : Tally) → AmountsTo t 0 (replicate most_lines 0)
amounts_none t = record {
  whole = length-replicate {A = ℕ} most_lines 0;
  filled = λ k lt. absurd (omega arith);
  blank = λ k ge. get_or_zeros most_lines k;
}

pub amounts_more : (t : Tally) (i : ℕ) (left : List ℕ) (amount : ℕ) → i < most_lines → amount ≡ amount_of (at t i) → AmountsTo t i left → AmountsTo t (i + 1) (set left i amount)
amounts_more t i left amount within is so = record {
  whole = length-set left i amount ∙ so.whole;
  filled = λ k lt.
      ⊎_elim
      (λ same. ap (λ j. get_or (set left i amount) j 0) same ∙ (get_or-set_same left i amount 0 (omega (arith, so.whole)) ∙ (is ∙ ap (λ j. amount_of (at t j)) (sym same))))
      (λ other. get_or-set_other left i k amount 0 other ∙ so.filled k (omega arith))
      (cases_eq k i);
  blank = λ k ge. get_or-set_other left i k amount 0 (λ same. omega arith) ∙ so.blank k (omega arith);
}

length-amounts : (t : Tally) → length t ≤ most_lines → length (amounts t) ≡ most_lines
length-amounts t few =
    omega (arith, length-append (map amount_of t) (replicate (most_lines - length t) 0), length-map t amount_of, length-replicate {A = ℕ} (most_lines - length t) 0)

pub amounts_all : (t : Tally) (left : List ℕ) → length t ≤ most_lines → AmountsTo t (length t) left → left ≡ amounts t
amounts_all t left few so =
    ext_get_or 0 left (amounts t) (so.whole ∙ sym (length-amounts t few)) (λ i lt.
    ⊎_elim
    (λ posted. so.filled i posted ∙ sym (get_or-amounts t i))
    (λ past. so.blank i past ∙ sym (get_or-amounts t i ∙ ap amount_of (get_or_past t i Struck past)))
    (cases_lt i (length t)))

-- a book with no line has no amounts
pub no_amounts : (t : Tally) → length t ≡ 0 → (n : ℕ) → get_or (amounts t) n 0 ≡ 0
no_amounts t none n = get_or-amounts t n ∙ ap amount_of (get_or_past t n Struck (omega arith))

-- a line that is not among those that are taken off
module _ (ws : List ℕ) (k n v : ℕ) where
  elsewhere : (m : ℕ) (c : List ℕ) → holds (n ∷ []) (m ∷ c) ≡ false → (n ≢ m) × (holds (n ∷ []) c ≡ false)
  elsewhere m c out =
      let both = or_parts (eqb n m) (holds (n ∷ []) c) (sym (holds_one_step n m c) ∙ out) in
      (eqb-false n m both.0, both.1)

  off-set : (c : List ℕ) → holds (n ∷ []) c ≡ false → off (set ws n v) k c ≡ set (off ws k c) n v
  off-set [] out = refl
  off-set (m ∷ c) out =
      let apart = elsewhere m c out in
      ap (λ x. set (off (set ws n v) k c) m (x - k)) (get_or-set_other ws n m v 0 (λ same. apart.0 (sym same)))
      ∙ (ap (λ l. set l m (get_or ws m 0 - k)) (off-set c apart.1) ∙ set_comm (off ws k c) n m v (get_or ws m 0 - k) apart.0)

  bears-set : (c : List ℕ) → holds (n ∷ []) c ≡ false → AllByRecursion (Bears ws k) c → AllByRecursion (Bears (set ws n v) k) c
  bears-set [] out bears = tt
  bears-set (m ∷ c) out bears =
      let apart = elsewhere m c out in (
        (omega (arith, bears.0.0, length-set ws n v), omega (arith, bears.0.1, get_or-set_other ws n m v 0 (λ same. apart.0 (sym same)))),
        bears-set c apart.1 bears.1,
      )

-- the lines of a row from a place on, which differ and bear the tonnes, and are still to be taken off
pub record ToTake (tonnes : ℕ) (row : List ℕ) (i : ℕ) (left all : List ℕ) : Type 0 where
  pub apart : Apart (drop i row)
  pub bear : AllByRecursion (Bears left tonnes) (drop i row)
  pub goes : off left tonnes (drop i row) ≡ all

module _ (tonnes : ℕ) (row : List ℕ) (i : ℕ) (left all : List ℕ) (within : i < length row) (so : ToTake tonnes row i left all) where
  abbrev line : ℕ
  line = get_or row i 0

  split : drop i row ≡ line ∷ drop (i + 1) row
  split = drop_more row i 0 within

  pub take_more : ToTake tonnes row (i + 1) (set left line (get_or left line 0 - tonnes)) all
  take_more =
      let apart = subst Apart split so.apart in
      let bear = subst (AllByRecursion (Bears left tonnes)) split so.bear in
      let v = get_or left line 0 - tonnes in
      let rest = drop (i + 1) row in
      record {
        apart = apart.1;
        bear = bears-set left tonnes line v rest apart.0 bear.1;
        goes = off-set left tonnes line v rest apart.0 ∙ (ap (off left tonnes) (sym split) ∙ so.goes);
      }
