-- The tonnes left on each line: sums of them over the lines of a tally, the least along lines, and what is left after a row. Assumes nothing.
--   weigh        the tonnes on those lines that pass a test
--   open_count   on how many lines there are tonnes
--   Bears        a number of the list with so many tonnes or more
use Rattle.std.proofs.Common.{◌≡◌, ℕ, zero, suc, ◌+◌, ◌-◌, ◌<◌, ◌≤◌, min, Bool, true, false, cond, ◌||◌, eqb, ◌⊎◌, List, [], ◌∷◌, ◌++◌, map, length, get_or, set, replicate, count_by, refl, ap, ◌∙◌, inl, inr, ⊎_elim, arith}
use Rattle.std.specs.List.{AllByRecursion}
use Rattle.std.proofs.lemmas.List.{length-set, get_or-set_same, get_or-set_other}
use Rattle.std.proofs.ByRecursion.{All-weaker}
use Rattle.std.proofs.lemmas.List.Sums.{sum_by-cons}
use Rattle.std.proofs.lemmas.Bool.{cases_Bool, cases_eq, cases_lt, cond-true, cond-false, both_ways, or_left, eq-eqb, ne_eqb}
use Rattle.book.specs.Limits.{most_lines}
use Rattle.book.specs.Tally.{Tally, at, is_live}
use Rattle.book.specs.Totals.{total, any, amount_of}
use Rattle.book.specs.declared.entries.Line.{Line}
use Rattle.book.specs.declared.entries.Line.TheVariants.{Live, Struck}
use Rattle.flow.specs.Dividing.{amounts, off, least_left}
use Rattle.flow.specs.Splits.{holds}
use Rattle.flow.proofs.Infix.{Apart, holds-start, holds_more, holds_one_step}
use Rattle.flow.proofs.Sums.{Once, all_both}

abbrev pub weigh : (Line → Bool) → Tally → List ℕ → ℕ
weigh p [] ws = 0
weigh p (l ∷ t) [] = 0
weigh p (l ∷ t) (w ∷ ws) = cond (p l) w 0 + weigh p t ws

pub weigh-at : (p : Line → Bool) (t : Tally) (ws : List ℕ) (n : ℕ) → p Struck ≡ false → p (at t n) ≡ true → get_or ws n 0 ≤ weigh p t ws
weigh-at p [] ws n none here = absurd (both_ways (p Struck) none here)
weigh-at p (l ∷ t) [] n none here = omega arith
weigh-at p (l ∷ t) (w ∷ ws) zero none here = omega (arith, cond-true (p l) w 0 here)
weigh-at p (l ∷ t) (w ∷ ws) (suc n) none here = omega (arith, weigh-at p t ws n none here)

pub weigh_some : (p : Line → Bool) (t : Tally) (ws : List ℕ) → 0 < weigh p t ws → (n : ℕ) × (p (at t n) ≡ true) × (0 < get_or ws n 0)
weigh_some p [] ws some = absurd (omega arith)
weigh_some p (l ∷ t) [] some = absurd (omega arith)
weigh_some p (l ∷ t) (w ∷ ws) some =
    ⊎_elim
    (λ later. let r = weigh_some p t ws later in (suc r.0, r.1, r.2))
    (λ none. ⊎_elim
    (λ passes. (0, passes, omega (arith, cond-true (p l) w 0 passes)))
    (λ fails. absurd (omega (arith, cond-false (p l) w 0 fails)))
    (cases_Bool (p l)))
    (cases_lt 0 (weigh p t ws))

pub weigh-set : (p : Line → Bool) (t : Tally) (ws : List ℕ) (n v : ℕ) → p Struck ≡ false → n < length ws → weigh p t (set ws n v) + cond (p (at t n)) (get_or ws n 0) 0 ≡ weigh p t ws + cond (p (at t n)) v 0
weigh-set p [] ws n v none within = omega (arith, cond-false (p Struck) (get_or ws n 0) 0 none, cond-false (p Struck) v 0 none)
weigh-set p (l ∷ t) [] n v none within = omega arith
weigh-set p (l ∷ t) (w ∷ ws) zero v none within = omega arith
weigh-set p (l ∷ t) (w ∷ ws) (suc n) v none within = omega (arith, weigh-set p t ws n v none (omega arith))

-- with the amounts as the tonnes on each line
weigh-map : (p : Line → Bool) (t : Tally) (ws : List ℕ) → weigh p t (map amount_of t ++ ws) ≡ total (λ l. cond (p l) (amount_of l) 0) t
weigh-map p [] ws = refl
weigh-map p (l ∷ t) ws = ap (λ s. cond (p l) (amount_of l) 0 + s) (weigh-map p t ws)

pub weigh-amounts : (p : Line → Bool) (t : Tally) → weigh p t (amounts t) ≡ total (λ l. cond (p l) (amount_of l) 0) t
weigh-amounts p t = weigh-map p t (replicate (most_lines - length t) 0)

pub get_or_zeros : (m n : ℕ) → get_or (replicate m 0) n 0 ≡ zero
get_or_zeros zero n = refl
get_or_zeros (suc m) zero = refl
get_or_zeros (suc m) (suc n) = get_or_zeros m n

get_or_map_amounts : (t : Tally) (m n : ℕ) → get_or (map amount_of t ++ replicate m 0) n 0 ≡ amount_of (at t n)
get_or_map_amounts [] m n = get_or_zeros m n
get_or_map_amounts (l ∷ t) m zero = refl
get_or_map_amounts (l ∷ t) m (suc n) = get_or_map_amounts t m n

pub get_or-amounts : (t : Tally) (n : ℕ) → get_or (amounts t) n 0 ≡ amount_of (at t n)
get_or-amounts t n = get_or_map_amounts t (most_lines - length t) n

-- nothing is left anywhere, or there is a number with tonnes
pub nothing_or_some : (ws : List ℕ) → ((n : ℕ) → get_or ws n 0 ≡ 0) ⊎ ((n : ℕ) × (0 < get_or ws n 0))
nothing_or_some [] = inl (λ n. refl)
nothing_or_some (w ∷ ws) =
    ⊎_elim
    (λ some. inr (0, some))
    (λ none. ⊎_elim
    (λ nothing. inl (elim [ zero ↦ omega arith | suc n ↦ nothing n ]))
    (λ some. inr (suc some.0, some.1))
    (nothing_or_some ws))
    (cases_lt 0 w)

pub within_from_some : (ws : List ℕ) (n : ℕ) → 0 < get_or ws n 0 → n < length ws
within_from_some [] n some = absurd (omega arith)
within_from_some (w ∷ ws) zero some = omega arith
within_from_some (w ∷ ws) (suc n) some = omega (arith, within_from_some ws n some)

abbrev pub open_count : List ℕ → ℕ
open_count ws = total (λ w. min 1 w) ws

pub open_count_le : (xs ys : List ℕ) → length xs ≡ length ys → ((n : ℕ) → get_or xs n 0 ≤ get_or ys n 0) → open_count xs ≤ open_count ys
open_count_le [] ys same below = omega arith
open_count_le (x ∷ xs) [] same below = absurd (omega arith)
open_count_le (x ∷ xs) (y ∷ ys) same below = omega (arith, below 0, open_count_le xs ys (omega arith) (λ n. below (suc n)))

pub open_count_lt : (xs ys : List ℕ) → length xs ≡ length ys → ((n : ℕ) → get_or xs n 0 ≤ get_or ys n 0) → (n : ℕ) → get_or xs n 0 ≡ 0 → 0 < get_or ys n 0 → open_count xs < open_count ys
open_count_lt [] [] same below n none some = absurd (omega arith)
open_count_lt [] (y ∷ ys) same below n none some = absurd (omega arith)
open_count_lt (x ∷ xs) [] same below n none some = absurd (omega arith)
open_count_lt (x ∷ xs) (y ∷ ys) same below zero none some = omega (arith, open_count_le xs ys (omega arith) (λ n. below (suc n)))
open_count_lt (x ∷ xs) (y ∷ ys) same below (suc n) none some = omega (arith, below 0, open_count_lt xs ys (omega arith) (λ n. below (suc n)) n none some)

open_count_zeros : (m : ℕ) → open_count (replicate m 0) ≡ zero
open_count_zeros zero = refl
open_count_zeros (suc m) = omega (arith, open_count_zeros m)

some_if_live : (l : Line) → min 1 (amount_of l) ≤ cond (is_live l) 1 0
some_if_live (Live from to amount) = omega arith
some_if_live Struck = omega arith

open_count_map_amounts : (t : Tally) (m : ℕ) → open_count (map amount_of t ++ replicate m 0) ≤ count_by is_live t
open_count_map_amounts [] m = omega (arith, open_count_zeros m)
open_count_map_amounts (l ∷ t) m = omega (arith, some_if_live l, open_count_map_amounts t m, sum_by-cons (λ x. cond (is_live x) 1 0) l t)

pub open_count-amounts : (t : Tally) → open_count (amounts t) ≤ count_by is_live t
open_count-amounts t = open_count_map_amounts t (most_lines - length t)

-- the least tonnes along lines
pub least_le : (ws : List ℕ) (c : List ℕ) → AllByRecursion (λ n. least_left ws c ≤ get_or ws n 0) c
least_le ws [] = tt
least_le ws (n ∷ []) = (omega arith, tt)
least_le ws (n ∷ m ∷ ns) = (
  omega arith,
  All-weaker (λ j. least_left ws (m ∷ ns) ≤ get_or ws j 0) (λ j. least_left ws (n ∷ m ∷ ns) ≤ get_or ws j 0) (λ j h. omega arith) (m ∷ ns) (least_le ws (m ∷ ns)),
)

pub least_some : (ws : List ℕ) (n : ℕ) (ns : List ℕ) → AllByRecursion (λ m. 0 < get_or ws m 0) (n ∷ ns) → 0 < least_left ws (n ∷ ns)
least_some ws n [] some = some.0
least_some ws n (m ∷ ns) some = omega (arith, some.0, least_some ws m ns some.1)

pub least_reached : (ws : List ℕ) (n : ℕ) (ns : List ℕ) → (m : ℕ) × (holds (m ∷ []) (n ∷ ns) ≡ true) × (get_or ws m 0 ≡ least_left ws (n ∷ ns))
least_reached ws n [] = (n, holds-start (n ∷ []) [], refl)
least_reached ws n (m ∷ ns) =
    let r = least_reached ws m ns in
    ⊎_elim
    (λ first. (n, holds-start (n ∷ []) (m ∷ ns), omega arith))
    (λ later. (r.0, holds_more n (r.0 ∷ []) (m ∷ ns) r.1, omega (arith, r.2)))
    (cases_lt (get_or ws n 0) (least_left ws (m ∷ ns)))

-- taking tonnes off lines
abbrev pub Bears : List ℕ → ℕ → ℕ → Type 0
Bears ws k n = (n < length ws) × (k ≤ get_or ws n 0)

pub bears_from : (ws : List ℕ) (k : ℕ) (c : List ℕ) → AllByRecursion (λ n. 0 < get_or ws n 0) c → AllByRecursion (λ n. k ≤ get_or ws n 0) c → AllByRecursion (Bears ws k) c
bears_from ws k c some most = all_both (λ n. 0 < get_or ws n 0) (λ n. k ≤ get_or ws n 0) (Bears ws k) (λ n here bears. (within_from_some ws n here, bears)) c some most

module _ (ws : List ℕ) (k : ℕ) where
  pub length-off : (c : List ℕ) → length (off ws k c) ≡ length ws
  length-off [] = refl
  length-off (n ∷ ns) = length-set (off ws k ns) n (get_or ws n 0 - k) ∙ length-off ns

  pub off_at : (c : List ℕ) → AllByRecursion (Bears ws k) c → (n : ℕ) → get_or (off ws k c) n 0 + cond (holds (n ∷ []) c) k 0 ≡ get_or ws n 0
  off_at [] bears n = omega arith
  off_at (m ∷ ms) bears n =
      let held : (v : Bool) → eqb n m ≡ v → cond (holds (n ∷ []) (m ∷ ms)) k 0 ≡ cond (v || holds (n ∷ []) ms) k 0 = λ v is. ap (λ u. cond u k 0) (holds_one_step n m ms ∙ ap (λ u. u || holds (n ∷ []) ms) is) in
      ⊎_elim
      (λ same.
      let now : get_or (off ws k (m ∷ ms)) m 0 ≡ get_or ws m 0 - k = get_or-set_same (off ws k ms) m (get_or ws m 0 - k) 0 (omega (arith, length-off ms, bears.0.0)) in
      omega (arith, ap (λ j. get_or (off ws k (m ∷ ms)) j 0) same, now, bears.0.1, ap (λ j. get_or ws j 0) same, held true (eq-eqb n m same)))
      (λ other. omega (arith, get_or-set_other (off ws k ms) m n (get_or ws m 0 - k) 0 other, off_at ms bears.1 n, held false (ne_eqb n m other)))
      (cases_eq n m)

  -- off the lines of a tally, at most one of which passes a test
  pub weigh-off : (p : Line → Bool) (t : Tally) → p Struck ≡ false → (c : List ℕ) → AllByRecursion (Bears ws k) c → Apart c → Once (λ n. p (at t n)) c → weigh p t (off ws k c) + cond (any (λ n. p (at t n)) c) k 0 ≡ weigh p t ws
  weigh-off p t none [] bears apart once = omega arith
  weigh-off p t none (n ∷ ns) bears apart once =
      let changed = weigh-set p t (off ws k ns) n (get_or ws n 0 - k) none (omega (arith, length-off ns, bears.0.0)) in
      let before = off_at ns bears.1 n in
      let apart-n = cond-false (holds (n ∷ []) ns) k 0 apart.0 in
      let rest = weigh-off p t none ns bears.1 apart.1 once.1 in
      ⊎_elim
      (λ passes. omega (arith, changed, before, apart-n, rest, bears.0.1, cond-true (p (at t n) || any (λ m. p (at t m)) ns) k 0 (or_left (p (at t n)) (any (λ m. p (at t m)) ns) passes), cond-false (any (λ m. p (at t m)) ns) k 0 (once.0 passes), cond-true (p (at t n)) (get_or ws n 0 - k) 0 passes, cond-true (p (at t n)) (get_or (off ws k ns) n 0) 0 passes))
      (λ fails. omega (arith, changed, rest, ap (λ v. cond (v || any (λ m. p (at t m)) ns) k 0) fails, cond-false (p (at t n)) (get_or ws n 0 - k) 0 fails, cond-false (p (at t n)) (get_or (off ws k ns) n 0) 0 fails))
      (cases_Bool (p (at t n)))
