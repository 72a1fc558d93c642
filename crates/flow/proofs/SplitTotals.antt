-- What a split puts through an account, and that a book with a split is balanced. Assumes nothing.
--   crossing   the tonnes of a split's rows with a line on one side of an account
use Rattle.std.proofs.Common.{◌≡◌, ℕ, ◌+◌, ◌<◌, true, false, cond, List, [], ◌∷◌, get_or, sym, refl, ap, ◌∙◌, ⊎_elim, arith}
use Rattle.std.proofs.lemmas.Bool.{cases_lt, cond-true}
use Rattle.std.specs.List.{AllByRecursion}
use Rattle.book.specs.Tally.{Tally, at, is_live, Sound, WellFormed}
use Rattle.book.specs.Totals.{total, any, touches, side_total, Enters, Leaves, Balanced}
use Rattle.book.specs.declared.entries.Line.{Line}
use Rattle.book.specs.declared.entries.Line.TheVariants.{Struck}
use Rattle.book.specs.declared.table.Side.{Side}
use Rattle.book.specs.declared.table.Side.TheVariants.{In, Out}
use Rattle.flow.specs.Chains.{start, Full, runs}
use Rattle.flow.specs.Dividing.{amounts, off}
use Rattle.flow.specs.Splits.{Row, Split, holds, puts}
use Rattle.flow.proofs.ChainFacts.{enters_live, leaves_live, enters_once, leaves_once, full_crosses, chain_runs, runs_live, runs_apart}
use Rattle.flow.proofs.Infix.{all_held}
use Rattle.flow.proofs.Sums.{Once, all_both, total_same}
use Rattle.flow.proofs.TonnesLeft.{weigh, weigh_some, weigh-amounts, get_or-amounts, Bears, within_from_some, off_at, weigh-off}

abbrev pub crossing : Side → Tally → List Row → ℕ → ℕ
crossing side t s a = total (λ r. cond (any (λ n. touches side a (at t n)) r.chain) r.tonnes 0) s

touches_live : (side : Side) (a : ℕ) (l : Line) → touches side a l ≡ true → is_live l ≡ true
touches_live In a l h = enters_live a l h
touches_live Out a l h = leaves_live a l h

touches_none : (side : Side) (a : ℕ) → touches side a Struck ≡ false
touches_none In a = refl
touches_none Out a = refl

module _ (t : Tally) (sound : AllByRecursion Sound t) where
  touches_once : (side : Side) (a b : ℕ) (d : List ℕ) → runs t b d ≡ true → Once (λ n. touches side a (at t n)) d
  touches_once In a b d run = enters_once t sound b a d run
  touches_once Out a b d run = leaves_once t sound b a d run

  -- tonnes taken off the lines of a run are taken off the account where one of these lines stands on the given side of it
  pub off-crossing : (side : Side) (a : ℕ) (ws : List ℕ) (k b : ℕ) (d : List ℕ) → runs t b d ≡ true → AllByRecursion (Bears ws k) d → weigh (touches side a) t (off ws k d) + cond (any (λ n. touches side a (at t n)) d) k 0 ≡ weigh (touches side a) t ws
  off-crossing side a ws k b d run bears = weigh-off ws k (touches side a) t (touches_none side a) d bears (runs_apart t sound b d run) (touches_once side a b d run)

  -- tonnes that are just those of rows, taken off row by row
  abbrev Carries : List ℕ → List Row → Type 0
  Carries ws s = (n : ℕ) → is_live (at t n) ≡ true → get_or ws n 0 ≡ puts s (n ∷ [])

  row_bears : (ws : List ℕ) (r : Row) (s : List Row) → Carries ws (r ∷ s) → 0 < r.tonnes → AllByRecursion (λ n. is_live (at t n) ≡ true) r.chain → AllByRecursion (Bears ws r.tonnes) r.chain
  row_bears ws r s carries some live =
      all_both (λ n. is_live (at t n) ≡ true) (λ n. holds (n ∷ []) r.chain ≡ true) (Bears ws r.tonnes)
      (λ n live-n held.
      let own = cond-true (holds (n ∷ []) r.chain) r.tonnes 0 held in
      (within_from_some ws n (omega (arith, carries n live-n, own)), omega (arith, carries n live-n, own)))
      r.chain live (all_held r.chain)

  weigh-crossing : (side : Side) (a : ℕ) (ws : List ℕ) (s : List Row) → AllByRecursion (λ r. Full t r.chain) s → AllByRecursion (λ r. 0 < r.tonnes) s → Carries ws s → weigh (touches side a) t ws ≡ crossing side t s a
  weigh-crossing side a ws [] full some carries =
      ⊎_elim
      (λ more. let r = weigh_some (touches side a) t ws more in absurd (omega (arith, r.2, carries r.0 (touches_live side a (at t r.0) r.1))))
      (λ none. omega arith)
      (cases_lt 0 (weigh (touches side a) t ws))
  weigh-crossing side a ws (r ∷ s) full some carries =
      let d = r.chain in
      let run = chain_runs t d full.0.chain in
      let bears = row_bears ws r s carries some.0 (runs_live t (start t d) d run) in
      let this = off-crossing side a ws r.tonnes (start t d) d run bears in
      let rest = weigh-crossing side a (off ws r.tonnes d) s full.1 some.1 (λ n live. omega (arith, off_at ws r.tonnes d bears n, carries n live)) in
      omega (arith, this, rest)

  module _ (s : List Row) (split : Split t s) where
    pub total-crossing : (side : Side) (a : ℕ) → side_total side t a ≡ crossing side t s a
    total-crossing side a =
        sym (weigh-amounts (touches side a) t)
        ∙ weigh-crossing side a (amounts t) s split.full split.some (λ n live. get_or-amounts t n ∙ sym (split.sums n live))

    crossing_same : (a : ℕ) → Enters t a → Leaves t a → crossing Out t s a ≡ crossing In t s a
    crossing_same a entered left =
        total_same (λ r. Full t r.chain) _ _ (λ r full. ap (λ v. cond v r.tonnes 0) (full_crosses t a r.chain full entered left)) s split.full

pub balanced_from_split : (t : Tally) → WellFormed t → (s : List Row) → Split t s → Balanced t
balanced_from_split t well s split a entered left =
    total-crossing t well.1 s split In a ∙ (sym (crossing_same t well.1 s split a entered left) ∙ sym (total-crossing t well.1 s split Out a))
