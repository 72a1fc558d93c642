-- Under every lawful rule a balanced book has exactly one dividing, and it is a split with at most one row for each live line. Assumes nothing.
--   of any row:       row_runs, row_open, row_bears, row_full, row_some, row_reaches, row_off, row_lessens, row_crossing
--   of any dividing:  divides_puts, divides_full, divides_some, divides_few, divides_alone
--   of fair tonnes:   fair_after, next_row, divides_from, fair_amounts
use Rattle.std.proofs.Common.{◌≡◌, ℕ, zero, suc, ◌+◌, ◌-◌, ◌<◌, ◌≤◌, Bool, true, false, cond, ◌&&◌, ltb, List, [], ◌∷◌, map, length, get_or, replicate, sym, refl, ap, ◌∙◌, subst, ⊎_elim, arith}
use Rattle.std.specs.List.{AllByRecursion}
use Rattle.std.proofs.lemmas.List.{length-append, length-map, length-replicate}
use Rattle.std.proofs.lemmas.Bool.{cases_Bool, cases_order, both_ways, and_parts, and_from, cond-true, ltb-true, lt-ltb}
use Rattle.book.specs.Limits.{most_lines, accounts}
use Rattle.book.specs.Tally.{Tally, at, is_live, WellFormed}
use Rattle.book.specs.Totals.{any, enters, leaves, touches, amount_of, Balanced}
use Rattle.book.specs.declared.entries.Line.{Line}
use Rattle.book.specs.declared.entries.Line.TheVariants.{Live, Struck}
use Rattle.book.specs.declared.table.Side.{Side}
use Rattle.book.specs.declared.table.Side.TheVariants.{In, Out}
use Rattle.flow.specs.Chains.{from_of, runs, Origin, Full}
use Rattle.flow.specs.Dividing.{amounts, Walk, least_left, IsRow, off, Divides, Dividing}
use Rattle.flow.specs.Promises.{DividingIsSplit}
use Rattle.flow.specs.Rules.{Choice, Law, Open, lowest}
use Rattle.flow.specs.Splits.{Row, Split, puts, holds}
use Rattle.flow.proofs.ChainFacts.{is_origin, decides_origin, full_crosses, runs_full}
use Rattle.flow.proofs.RuleLaws.{law_lowest, open_leaves, open_some}
use Rattle.flow.proofs.SplitTotals.{off-crossing}
use Rattle.flow.proofs.Sums.{lowest_such}
use Rattle.flow.proofs.TonnesLeft.{weigh, weigh-at, weigh-amounts, get_or-amounts, nothing_or_some, open_count, open_count_lt, open_count-amounts, least_le, least_some, least_reached, Bears, bears_from, length-off, off_at}
use Rattle.flow.proofs.Walks.{Fair, walk_runs, walk_ends, walk_some, walk_alone, open_out, walk_from, open_origin}

-- a walk from an origin has a line
module _ (choice : Choice) (t : Tally) (left : List ℕ) (a : ℕ) (origin : Origin t a) where
  pub walk_full : (c : List ℕ) → WellFormed t → Walk choice t left a [] c → Full t c
  walk_full [] well w = absurd (both_ways (any (leaves a) t) w origin.left)
  walk_full (n ∷ ns) well w = runs_full t well.1 a n ns (walk_runs choice t left a [] (n ∷ ns) w) origin (walk_ends choice t left a [] (n ∷ ns) w)

  pub walk_least : (c : List ℕ) → Walk choice t left a [] c → 0 < least_left left c
  walk_least [] w = absurd (both_ways (any (leaves a) t) w origin.left)
  walk_least (n ∷ ns) w = least_some left n ns (walk_some choice t left a [] (n ∷ ns) w)

  pub walk_reaches : (c : List ℕ) → Walk choice t left a [] c → (m : ℕ) × (holds (m ∷ []) c ≡ true) × (get_or left m 0 ≡ least_left left c)
  walk_reaches [] w = absurd (both_ways (any (leaves a) t) w origin.left)
  walk_reaches (n ∷ ns) w = least_reached left n ns

-- a row runs through lines with tonnes left, each of which has the row's tonnes or more, and one of them just those
module _ (choice : Choice) (t : Tally) (left : List ℕ) (row : Row) (is : IsRow choice t left row) where
  pub row_runs : runs t is.account row.chain ≡ true
  row_runs = walk_runs choice t left is.account [] row.chain is.walk

  pub row_open : AllByRecursion (λ n. 0 < get_or left n 0) row.chain
  row_open = walk_some choice t left is.account [] row.chain is.walk

  pub row_bears : AllByRecursion (Bears left row.tonnes) row.chain
  row_bears = bears_from left row.tonnes row.chain row_open (subst (λ k. AllByRecursion (λ n. k ≤ get_or left n 0) row.chain) (sym is.least) (least_le left row.chain))

  pub row_full : WellFormed t → Full t row.chain
  row_full well = walk_full choice t left is.account is.origin row.chain well is.walk

  pub row_some : 0 < row.tonnes
  row_some = omega (arith, is.least, walk_least choice t left is.account is.origin row.chain is.walk)

  pub row_reaches : (m : ℕ) × (holds (m ∷ []) row.chain ≡ true) × (get_or left m 0 ≡ row.tonnes)
  row_reaches =
      let r = walk_reaches choice t left is.account is.origin row.chain is.walk in
      (r.0, r.1, r.2 ∙ sym is.least)

  -- what a row takes off each line
  pub row_off : (n : ℕ) → get_or (off left row.tonnes row.chain) n 0 + cond (holds (n ∷ []) row.chain) row.tonnes 0 ≡ get_or left n 0
  row_off n = off_at left row.tonnes row.chain row_bears n

  -- it brings a line to nothing
  pub row_lessens : open_count (off left row.tonnes row.chain) < open_count left
  row_lessens =
      let r = row_reaches in
      open_count_lt (off left row.tonnes row.chain) left (length-off left row.tonnes row.chain)
      (λ n. omega (arith, row_off n))
      r.0
      (omega (arith, row_off r.0, r.2, cond-true (holds (r.0 ∷ []) row.chain) row.tonnes 0 r.1))
      (omega (arith, r.2, row_some))

  -- and takes its tonnes off each account that it crosses
  row_crossing : WellFormed t → (side : Side) (a : ℕ) → weigh (touches side a) t (off left row.tonnes row.chain) + cond (any (λ n. touches side a (at t n)) row.chain) row.tonnes 0 ≡ weigh (touches side a) t left
  row_crossing well side a = off-crossing t well.1 side a left row.tonnes is.account row.chain row_runs row_bears

  -- so the tonnes left stay fair
  pub fair_after : WellFormed t → Fair t left → Fair t (off left row.tonnes row.chain)
  fair_after well fair = record {
    whole = length-off left row.tonnes row.chain ∙ fair.whole;
    spent = λ n struck. omega (arith, row_off n, fair.spent n struck);
    even = λ a entered left-on.
        omega (arith, row_crossing well Out a, row_crossing well In a, ap (λ v. cond v row.tonnes 0) (full_crosses t a row.chain (row_full well) entered left-on), fair.even a entered left-on);
  }

-- any dividing
module _ (choice : Choice) (t : Tally) where
  pub divides_puts : (left : List ℕ) (rows : List Row) → Divides choice t left rows → (n : ℕ) → puts rows (n ∷ []) ≡ get_or left n 0
  divides_puts left [] d n = sym (d n)
  divides_puts left (row ∷ rows) d n = omega (arith, row_off choice t left row d.0 n, divides_puts (off left row.tonnes row.chain) rows d.1 n)

  pub divides_full : WellFormed t → (left : List ℕ) (rows : List Row) → Divides choice t left rows → AllByRecursion (λ r. Full t r.chain) rows
  divides_full well left [] d = tt
  divides_full well left (row ∷ rows) d = (row_full choice t left row d.0 well, divides_full well (off left row.tonnes row.chain) rows d.1)

  pub divides_some : (left : List ℕ) (rows : List Row) → Divides choice t left rows → AllByRecursion (λ r. 0 < r.tonnes) rows
  divides_some left [] d = tt
  divides_some left (row ∷ rows) d = (row_some choice t left row d.0, divides_some (off left row.tonnes row.chain) rows d.1)

  pub divides_few : (left : List ℕ) (rows : List Row) → Divides choice t left rows → length rows ≤ open_count left
  divides_few left [] d = omega arith
  divides_few left (row ∷ rows) d = omega (arith, row_lessens choice t left row d.0, divides_few (off left row.tonnes row.chain) rows d.1)

  -- the lowest origin, the walk from it and its tonnes are the only ones
  same_account : (left : List ℕ) (r s : Row) (p : IsRow choice t left r) (q : IsRow choice t left s) → p.account ≡ q.account
  same_account left r s p q =
      ⊎_elim
      (λ same. same)
      (⊎_elim
      (λ below. absurd (q.lowest p.account p.some_open.0 below p.origin p.some_open.1))
      (λ above. absurd (p.lowest q.account q.some_open.0 above q.origin q.some_open.1)))
      (cases_order p.account q.account)

  pub row_alone : (left : List ℕ) (r s : Row) → IsRow choice t left r → IsRow choice t left s → r ≡ s
  row_alone left r s p q =
      let same : r.chain ≡ s.chain = walk_alone choice t left p.account [] r.chain s.chain p.walk (subst (λ a. Walk choice t left a [] s.chain) (sym (same_account left r s p q)) q.walk) in
      let tonnes : r.tonnes ≡ s.tonnes = p.least ∙ (ap (least_left left) same ∙ sym q.least) in
      let by : List ℕ → ℕ → Row = λ c k. record { chain = c; tonnes = k } in
      ap (λ c. by c r.tonnes) same ∙ ap (λ k. by s.chain k) tonnes

  nothing_no_row : (left : List ℕ) (row : Row) → ((n : ℕ) → get_or left n 0 ≡ 0) → IsRow choice t left row → ⊥
  nothing_no_row left row nothing is = let r = is.some_open in omega (arith, nothing r.0, open_some t left is.account r.0 r.1)

  pub divides_alone : (left : List ℕ) (rows others : List Row) → Divides choice t left rows → Divides choice t left others → others ≡ rows
  divides_alone left [] [] d e = refl
  divides_alone left [] (s ∷ others) d e = absurd (nothing_no_row left s d e.0)
  divides_alone left (r ∷ rows) [] d e = absurd (nothing_no_row left r e d.0)
  divides_alone left (r ∷ rows) (s ∷ others) d e =
      let same : s ≡ r = row_alone left s r e.0 d.0 in
      ap (λ row. row ∷ others) same
      ∙ ap (λ rest. r ∷ rest) (divides_alone (off left r.tonnes r.chain) rows others d.1 (subst (λ row. Divides choice t (off left row.tonnes row.chain) others) same e.1))

-- an origin with tonnes left on a line out, as a test
abbrev is_source : Tally → List ℕ → ℕ → Bool
is_source t left a = is_origin t a && ltb 0 (weigh (leaves a) t left)

source_from : (t : Tally) (left : List ℕ) (a n : ℕ) → Origin t a → Open t left a n → is_source t left a ≡ true
source_from t left a n origin opened =
    and_from (is_origin t a) (ltb 0 (weigh (leaves a) t left)) ((decides_origin t a).1 origin)
    (lt-ltb 0 (weigh (leaves a) t left) (omega (arith, weigh-at (leaves a) t left n refl (open_leaves t left a n opened), open_some t left a n opened)))

source_is : (t : Tally) (left : List ℕ) (a : ℕ) → is_source t left a ≡ true → Origin t a × (0 < weigh (leaves a) t left)
source_is t left a h =
    let p = and_parts (is_origin t a) (ltb 0 (weigh (leaves a) t left)) h in
    ((decides_origin t a).0 p.0, ltb-true 0 (weigh (leaves a) t left) p.1)

module _ (choice : Choice) (law : Law choice) (t : Tally) (well : WellFormed t) where
  -- from the lowest source there is a row
  row_from : (left : List ℕ) → Fair t left → (a : ℕ) → is_source t left a ≡ true → ((b : ℕ) → b < a → is_source t left b ≡ false) → (row : Row) × IsRow choice t left row
  row_from left fair a source low =
      let is = source_is t left a source in
      let opened = open_out t left a is.1 in
      let found = walk_from t left well fair choice law accounts a [] (omega arith) (λ _. opened) in
      made found.0 is.0 opened found.1
    where
      made : (c : List ℕ) → Origin t a → (n : ℕ) × Open t left a n → Walk choice t left a [] c → (row : Row) × IsRow choice t left row
      made c origin opened w = (
        record { chain = c; tonnes = least_left left c },
        record {
          account = a;
          origin = origin;
          some_open = opened;
          lowest = λ b m below lower open-b. both_ways (is_source t left b) (low b below) (source_from t left b m lower open-b);
          walk = w;
          least = refl;
        },
      )

  -- while tonnes are left anywhere there is a next row
  pub next_row : (left : List ℕ) → Fair t left → (n : ℕ) → 0 < get_or left n 0 → (row : Row) × IsRow choice t left row
  next_row left fair n some =
      let live : is_live (at t n) ≡ true = ⊎_elim (λ live. live) (λ struck. absurd (omega (arith, fair.spent n struck))) (cases_Bool (is_live (at t n))) in
      let from = open_origin t left well fair (suc (from_of (at t n))) n (omega arith) live some in
      let low = lowest_such (is_source t left) from.0 (source_from t left from.0 from.1 from.2 from.3) in
      row_from left fair low.0 low.1 low.2

  -- so the rows come to an end
  pub divides_from : (fuel : ℕ) (left : List ℕ) → open_count left ≤ fuel → Fair t left → (rows : List Row) × Divides choice t left rows
  divides_from zero left enough fair =
      ⊎_elim
      (λ nothing. ([], nothing))
      (λ some. let next = next_row left fair some.0 some.1 in absurd (omega (arith, row_lessens choice t left next.0 next.1)))
      (nothing_or_some left)
  divides_from (suc fuel) left enough fair =
      ⊎_elim
      (λ nothing. ([], nothing))
      (λ some.
      let next = next_row left fair some.0 some.1 in
      let row = next.0 in
      let rest = divides_from fuel (off left row.tonnes row.chain) (omega (arith, row_lessens choice t left row next.1)) (fair_after choice t left row next.1 well fair) in
      (row ∷ rest.0, (next.1, rest.1)))
      (nothing_or_some left)

struck_nothing : (l : Line) → is_live l ≡ false → amount_of l ≡ 0
struck_nothing (Live from to amount) h = absurd (both_ways true h refl)
struck_nothing Struck h = refl

pub fair_amounts : (t : Tally) → WellFormed t → Balanced t → Fair t (amounts t)
fair_amounts t well balanced = record {
  whole = omega (arith, length-append (map amount_of t) (replicate (most_lines - length t) 0), length-map t amount_of, length-replicate {A = ℕ} (most_lines - length t) 0, well.0);
  spent = λ n struck. get_or-amounts t n ∙ struck_nothing (at t n) struck;
  even = λ a entered left-on. weigh-amounts (enters a) t ∙ (balanced a entered left-on ∙ sym (weigh-amounts (leaves a) t));
}

pub dividing_split : (choice : Choice) (t : Tally) (rows : List Row) → WellFormed t → Dividing choice t rows → Split t rows
dividing_split choice t rows well d = record {
  full = divides_full choice t well (amounts t) rows d;
  some = divides_some choice t (amounts t) rows d;
  sums = λ n live. divides_puts choice t (amounts t) rows d n ∙ get_or-amounts t n;
}

pub dividing_is_split : DividingIsSplit
dividing_is_split choice t law well balanced =
    let found = divides_from choice law t well (open_count (amounts t)) (amounts t) (omega arith) (fair_amounts t well balanced) in
    let rows = found.0 in (
      rows,
      record {
        dividing = found.1;
        alone = λ others d. divides_alone choice t (amounts t) rows others found.1 d;
        split = dividing_split choice t rows well found.1;
        few = omega (arith, divides_few choice t (amounts t) rows found.1, open_count-amounts t);
      },
    )

pub split_from_balanced : (t : Tally) → WellFormed t → Balanced t → (s : List Row) × Split t s
split_from_balanced t well balanced = let r = dividing_is_split lowest t law_lowest well balanced in (r.0, r.1.split)
