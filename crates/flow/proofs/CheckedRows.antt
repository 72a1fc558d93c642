-- A test of dividings that computes, and what it shows. Assumes nothing.
--   is_walk, is_row, divides   the tests for a walk, for the next row and for all rows
use Rattle.std.proofs.Common.{◌≡◌, ℕ, zero, suc, ◌<◌, Bool, true, false, not, ◌&&◌, eqb, List, [], ◌∷◌, ◌++◌, length, get_or, Decides, refl}
use Rattle.std.proofs.lemmas.Bool.{and_parts, not-true, both_ways, eqb-true}
use Rattle.std.proofs.lemmas.Bool.Decides.{Decides-and, Decides-not, Decides-like}
use Rattle.book.specs.Tally.{Tally, at}
use Rattle.book.specs.Totals.{any, leaves}
use Rattle.flow.specs.Chains.{start, to_of, Origin}
use Rattle.flow.specs.Dividing.{Walk, least_left, IsRow, off, Divides}
use Rattle.flow.specs.Rules.{Choice, is_open, Open}
use Rattle.flow.specs.Splits.{Row}
use Rattle.flow.proofs.ChainFacts.{is_origin, decides_origin, leaves_within}
use Rattle.flow.proofs.CheckedSplits.{every}
use Rattle.flow.proofs.RuleLaws.{open_leaves}
use Rattle.flow.proofs.Sums.{every_below, decides_every_below}

abbrev pub is_walk : Choice → Tally → List ℕ → ℕ → List ℕ → List ℕ → Bool
is_walk choice t left a walked [] = not (any (leaves a) t)
is_walk choice t left a walked (n ∷ ns) =
    eqb n (choice t left a walked) && (is_open t left a n && is_walk choice t left (to_of (at t n)) (walked ++ n ∷ []) ns)

abbrev is_none_open : Tally → List ℕ → ℕ → Bool
is_none_open t left a = every_below (λ n. not (is_open t left a n)) (length t)

-- no origin below an account has an open line
abbrev pub none_lower : Tally → List ℕ → ℕ → Bool
none_lower t left a = every_below (λ b. not (is_origin t b && not (is_none_open t left b))) a

abbrev starts_open : Tally → List ℕ → ℕ → List ℕ → Bool
starts_open t left a [] = false
starts_open t left a (n ∷ ns) = is_open t left a n

abbrev pub is_row : Choice → Tally → List ℕ → Row → Bool
is_row choice t left row =
    is_origin t (start t row.chain)
    && (starts_open t left (start t row.chain) row.chain
    && (none_lower t left (start t row.chain)
    && (is_walk choice t left (start t row.chain) [] row.chain && eqb row.tonnes (least_left left row.chain))))

abbrev pub divides : Choice → Tally → List ℕ → List Row → Bool
divides choice t left [] = every (λ w. eqb w 0) left
divides choice t left (row ∷ rows) = is_row choice t left row && divides choice t (off left row.tonnes row.chain) rows

nothing_left : (left : List ℕ) → every (λ w. eqb w 0) left ≡ true → (n : ℕ) → get_or left n 0 ≡ zero
nothing_left [] h n = refl
nothing_left (w ∷ left) h zero = eqb-true w 0 (and_parts (eqb w 0) (every (λ v. eqb v 0) left) h).0
nothing_left (w ∷ left) h (suc n) = nothing_left left (and_parts (eqb w 0) (every (λ v. eqb v 0) left) h).1 n

module _ (choice : Choice) (t : Tally) (left : List ℕ) where
  walk_checked : (a : ℕ) (walked c : List ℕ) → is_walk choice t left a walked c ≡ true → Walk choice t left a walked c
  walk_checked a walked [] h = not-true (any (leaves a) t) h
  walk_checked a walked (n ∷ ns) h =
      let named = and_parts (eqb n (choice t left a walked)) _ h in
      let rest = and_parts (is_open t left a n) _ named.1 in
      (eqb-true n (choice t left a walked) named.0, rest.0, walk_checked (to_of (at t n)) (walked ++ n ∷ []) ns rest.1)

  none_open : (a : ℕ) → Decides (is_none_open t left a) ((n : ℕ) → Open t left a n → ⊥)
  none_open a =
      Decides-like (is_none_open t left a)
      (λ below n opened. below n (leaves_within t a n (open_leaves t left a n opened)) opened)
      (λ none n h opened. none n opened)
      (decides_every_below (λ n. not (is_open t left a n)) (λ n. Open t left a n → ⊥) (λ n. Decides-not (is_open t left a n) ((λ y. y), (λ y. y))) (length t))

  none_lower_lem : (a : ℕ) → none_lower t left a ≡ true → (b n : ℕ) → b < a → Origin t b → Open t left b n → ⊥
  none_lower_lem a h b n low origin opened =
      (decides_every_below (λ k. not (is_origin t k && not (is_none_open t left k))) (λ k. Origin t k × (((m : ℕ) → Open t left k m → ⊥) → ⊥) → ⊥)
      (λ k. Decides-not (is_origin t k && not (is_none_open t left k)) (Decides-and (is_origin t k) (not (is_none_open t left k)) (decides_origin t k) (Decides-not (is_none_open t left k) (none_open k))))
      a).0 h b low (origin, λ none. none n opened)

  starts_open_lem : (a : ℕ) (c : List ℕ) → starts_open t left a c ≡ true → (n : ℕ) × Open t left a n
  starts_open_lem a [] h = absurd (both_ways false refl h)
  starts_open_lem a (n ∷ ns) h = (n, h)

  row_checked : (row : Row) → is_row choice t left row ≡ true → IsRow choice t left row
  row_checked row h =
      let a : ℕ = start t row.chain in
      let first = and_parts (is_origin t a) _ h in
      let second = and_parts (starts_open t left a row.chain) _ first.1 in
      let third = and_parts (none_lower t left a) _ second.1 in
      let fourth = and_parts (is_walk choice t left a [] row.chain) _ third.1 in
      record {
        account = a;
        origin = (decides_origin t a).0 first.0;
        some_open = starts_open_lem a row.chain second.0;
        lowest = none_lower_lem a third.0;
        walk = walk_checked a [] row.chain fourth.0;
        least = eqb-true row.tonnes (least_left left row.chain) fourth.1;
      }

pub divides-checked : (choice : Choice) (t : Tally) (left : List ℕ) (rows : List Row) → divides choice t left rows ≡ true → Divides choice t left rows
divides-checked choice t left [] h = nothing_left left h
divides-checked choice t left (row ∷ rows) h =
    let both = and_parts (is_row choice t left row) _ h in
    (row_checked choice t left row both.0, divides-checked choice t (off left row.tonnes row.chain) rows both.1)
