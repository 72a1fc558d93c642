-- How the rows of a split pass the account that a line of a chain leaves: with the lines before it, by that line, or by others. Assumes nothing.
--   other      whether a chain leaves that account by another line
--   strays     whether it does so without the lines before
--   straying   the tonnes of the rows that do
use Rattle.std.proofs.Common.{◌≡◌, ℕ, ◌+◌, Bool, true, false, cond, not, ◌&&◌, eqb, List, [], ◌∷◌, ◌++◌, sym, refl, ap, ◌∙◌, subst, ⊎_elim, arith}
use Rattle.std.proofs.lemmas.List.{append_assoc, append-nil}
use Rattle.std.proofs.lemmas.Bool.{and_parts, and_from, and_left, and_right, eqb-false, ne_eqb, not-true, not_from_false, not_from_true, both_ways, cases_Bool, cond-true, cond-false}
use Rattle.std.specs.List.{AllByRecursion}
use Rattle.book.specs.Tally.{Tally, at, WellFormed}
use Rattle.book.specs.Totals.{total, any, leaves, amount_of, in_total}
use Rattle.book.specs.declared.table.Side.TheVariants.{Out}
use Rattle.flow.specs.Chains.{from_of, runs, start, run_to, finish, Chain, Full}
use Rattle.flow.specs.Splits.{Row, Split, holds, puts}
use Rattle.flow.proofs.ChainFacts.{leaves_by, leaves_some, leaves_once, runs_step, runs_parts, run_to-append, chain_runs, line_meets, line_live, line-leaves, line_entered}
use Rattle.flow.proofs.Infix.{holds-append, holds_parts, holds_front, holds_back, any_held, any_found, once_same}
use Rattle.flow.proofs.SplitTotals.{balanced_from_split, total-crossing}
use Rattle.flow.proofs.Sums.{false_unless}

abbrev pub other : Tally → ℕ → List ℕ → Bool
other t p d = any (λ n. leaves (from_of (at t p)) (at t n) && not (eqb n p)) d

abbrev pub strays : Tally → List ℕ → ℕ → List ℕ → Bool
strays t front p d = not (holds front d) && other t p d

abbrev pub straying : Tally → List Row → List ℕ → ℕ → ℕ
straying t s front p = total (λ r. cond (strays t front p r.chain) r.tonnes 0) s

pub other_passes : (t : Tally) (p : ℕ) (d : List ℕ) → other t p d ≡ true → (n : ℕ) × (leaves (from_of (at t p)) (at t n) ≡ true) × (n ≡ p → ⊥) × (holds (n ∷ []) d ≡ true)
other_passes t p d h =
    let found = any_found (λ n. leaves (from_of (at t p)) (at t n) && not (eqb n p)) d h in
    let n = found.0 in
    let parts = and_parts (leaves (from_of (at t p)) (at t n)) (not (eqb n p)) found.1 in
    (n, parts.0, eqb-false n p (not-true (eqb n p) parts.1), found.2)

other_from : (t : Tally) (p n : ℕ) (d : List ℕ) → leaves (from_of (at t p)) (at t n) ≡ true → (n ≡ p → ⊥) → holds (n ∷ []) d ≡ true → other t p d ≡ true
other_from t p n d out differ has =
    any_held (λ m. leaves (from_of (at t p)) (at t m) && not (eqb m p)) n d
    (and_from (leaves (from_of (at t p)) (at t n)) (not (eqb n p)) out (not_from_false (eqb n p) (ne_eqb n p differ)))
    has

module _ (t : Tally) (well : WellFormed t) (first : ℕ) (inner : List ℕ) (p : ℕ) (rest : List ℕ) (chain : Chain t (first ∷ (inner ++ p ∷ rest))) where
  abbrev front : List ℕ
  front = first ∷ inner

  abbrev between : ℕ
  between = from_of (at t p)

  out : leaves between (at t p) ≡ true
  out = line-leaves t first inner p rest chain

  -- a full chain with the lines before goes on with one that leaves the account
  goes_on : (d : List ℕ) → Full t d → holds front d ≡ true → (n : ℕ) × (leaves between (at t n) ≡ true) × (holds (front ++ n ∷ []) d ≡ true)
  goes_on d full has = let q = holds_parts front d has in next q.0 q.1 q.2
    where
      next : (w z : List ℕ) → d ≡ w ++ (front ++ z) → (n : ℕ) × (leaves between (at t n) ≡ true) × (holds (front ++ n ∷ []) d ≡ true)
      next w [] is =
          let ends : finish t d ≡ between = ap (run_to t (start t d)) is ∙ (run_to-append t (start t d) w (front ++ []) ∙ (ap (run_to t (run_to t (start t d) w)) (append-nil front) ∙ line_meets t first inner p rest chain)) in
          absurd (both_ways (any (leaves (finish t d)) t) full.ending.unleft (subst (λ a. any (leaves a) t ≡ true) (sym ends) (leaves_some t between p out)))
      next w (n ∷ z) is =
          let run : runs t (start t d) (w ++ (front ++ n ∷ z)) ≡ true = subst (λ l. runs t (start t d) l ≡ true) is (chain_runs t d full.chain) in
          let on : runs t (run_to t (run_to t (start t d) w) front) (n ∷ z) ≡ true = (runs_parts t (run_to t (start t d) w) front (n ∷ z) (runs_parts t (start t d) w (front ++ n ∷ z) run).1).1 in
          let here : runs t between (n ∷ z) ≡ true = subst (λ a. runs t a (n ∷ z) ≡ true) (line_meets t first inner p rest chain) on in (
            n,
            (runs_step t between n z here).0,
            subst (λ l. holds (front ++ n ∷ []) l ≡ true) (sym (is ∙ ap (λ l. w ++ l) (sym (append_assoc front (n ∷ []) z)))) (holds-append w (front ++ n ∷ []) z),
          )

  -- how a full chain passes the account
  row_adds : (d : List ℕ) (k : ℕ) → Full t d → cond (holds front d) k 0 + cond (strays t front p d) k 0 + cond (holds (p ∷ []) d) k 0 ≡ cond (holds (front ++ p ∷ []) d) k 0 + cond (any (leaves_by t between) d) k 0
  row_adds d k full = ⊎_elim whole (λ broken. ⊎_elim (turns_off broken) (apart broken) (cases_Bool (holds front d))) (cases_Bool (holds (front ++ p ∷ []) d))
    where
      Adds : Type 0
      Adds = cond (holds front d) k 0 + cond (strays t front p d) k 0 + cond (holds (p ∷ []) d) k 0 ≡ cond (holds (front ++ p ∷ []) d) k 0 + cond (any (leaves_by t between) d) k 0

      single : (n : ℕ) → leaves between (at t n) ≡ true → holds (n ∷ []) d ≡ true → holds (p ∷ []) d ≡ true → n ≡ p
      single n out-n has-n has_p = once_same (leaves_by t between) n p out-n out d (leaves_once t well.1 (start t d) between d (chain_runs t d full.chain)) has-n has_p

      passing : (n : ℕ) → leaves between (at t n) ≡ true → holds (n ∷ []) d ≡ true → any (leaves_by t between) d ≡ true
      passing n out-n has = any_held (leaves_by t between) n d out-n has

      full_tonnes : (b : Bool) → b ≡ true → cond b k 0 ≡ k
      full_tonnes b h = cond-true b k 0 h

      no_tonnes : (b : Bool) → b ≡ false → cond b k 0 ≡ 0
      no_tonnes b h = cond-false b k 0 h

      kept : holds front d ≡ true → strays t front p d ≡ false
      kept has = and_left (not (holds front d)) (other t p d) (not_from_true (holds front d) has)

      whole : holds (front ++ p ∷ []) d ≡ true → Adds
      whole has =
          let before = holds_front front (p ∷ []) d has in
          let taken = holds_back front (p ∷ []) d has in
          omega (
            arith,
            full_tonnes (holds (front ++ p ∷ []) d) has,
            full_tonnes (holds front d) before,
            no_tonnes (strays t front p d) (kept before),
            full_tonnes (holds (p ∷ []) d) taken,
            full_tonnes (any (leaves_by t between) d) (passing p out taken),
          )

      turns_off : holds (front ++ p ∷ []) d ≡ false → holds front d ≡ true → Adds
      turns_off broken has =
          let on = goes_on d full has in
          let taken = holds_back front (on.0 ∷ []) d on.2 in
          let differ : on.0 ≡ p → ⊥ = λ same. both_ways (holds (front ++ p ∷ []) d) broken (subst (λ n. holds (front ++ n ∷ []) d ≡ true) same on.2) in
          omega (
            arith,
            no_tonnes (holds (front ++ p ∷ []) d) broken,
            full_tonnes (holds front d) has,
            no_tonnes (strays t front p d) (kept has),
            no_tonnes (holds (p ∷ []) d) (false_unless (holds (p ∷ []) d) (λ has_p. differ (single on.0 on.1 taken has_p))),
            full_tonnes (any (leaves_by t between) d) (passing on.0 on.1 taken),
          )

      stray_unless : (other t p d ≡ true → ⊥) → strays t front p d ≡ false
      stray_unless never = and_right (not (holds front d)) (other t p d) (false_unless (other t p d) never)

      taken_apart : holds (front ++ p ∷ []) d ≡ false → holds front d ≡ false → holds (p ∷ []) d ≡ true → Adds
      taken_apart broken gone has =
          omega (
            arith,
            no_tonnes (holds (front ++ p ∷ []) d) broken,
            no_tonnes (holds front d) gone,
            no_tonnes (strays t front p d) (stray_unless (λ is. let q = other_passes t p d is in q.2 (single q.0 q.1 q.3 has))),
            full_tonnes (holds (p ∷ []) d) has,
            full_tonnes (any (leaves_by t between) d) (passing p out has),
          )

      -- a chain without the lines before and without the line passes by another line, or not at all
      same_passing : holds front d ≡ false → holds (p ∷ []) d ≡ false → cond (strays t front p d) k 0 ≡ cond (any (leaves_by t between) d) k 0
      same_passing gone never =
          ⊎_elim
          (λ some.
          let found = any_found (leaves_by t between) d some in
          let differ : found.0 ≡ p → ⊥ = λ same. both_ways (holds (p ∷ []) d) never (subst (λ n. holds (n ∷ []) d ≡ true) same found.2) in
          let stray = and_from (not (holds front d)) (other t p d) (not_from_false (holds front d) gone) (other_from t p found.0 d found.1 differ found.2) in
          full_tonnes (strays t front p d) stray ∙ sym (full_tonnes (any (leaves_by t between) d) some))
          (λ none.
          let tame = stray_unless (λ is. let q = other_passes t p d is in both_ways (any (leaves_by t between) d) none (passing q.0 q.1 q.3)) in
          no_tonnes (strays t front p d) tame ∙ sym (no_tonnes (any (leaves_by t between) d) none))
          (cases_Bool (any (leaves_by t between) d))

      apart : holds (front ++ p ∷ []) d ≡ false → holds front d ≡ false → Adds
      apart broken gone =
          ⊎_elim
          (taken_apart broken gone)
          (λ never. omega (arith, no_tonnes (holds (front ++ p ∷ []) d) broken, no_tonnes (holds front d) gone, no_tonnes (holds (p ∷ []) d) never, same_passing gone never))
          (cases_Bool (holds (p ∷ []) d))

  rows_add : (s : List Row) → AllByRecursion (λ r. Full t r.chain) s → puts s front + straying t s front p + puts s (p ∷ []) ≡ puts s (front ++ p ∷ []) + total (λ r. cond (any (leaves_by t between) r.chain) r.tonnes 0) s
  rows_add [] full = refl
  rows_add (r ∷ s) full = omega (arith, row_adds r.chain r.tonnes full.0, rows_add s full.1)

  -- so what is put on the lines before and what strays, with the line's amount, make up what is put on them with the line and the account's in-total
  pub split_adds : (s : List Row) → Split t s → puts s front + straying t s front p + amount_of (at t p) ≡ puts s (front ++ p ∷ []) + in_total t between
  split_adds s split =
      omega (
        arith,
        rows_add s split.full,
        total-crossing t well.1 s split Out between,
        split.sums p (line_live t first inner p rest chain),
        balanced_from_split t well s split between (line_entered t first inner p rest chain) (leaves_some t between p out),
      )
