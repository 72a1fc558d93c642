-- A test of splits that computes, and what it shows. Assumes nothing.
--   every               each element of a list passes a test
--   is_full, is_split   the tests for a full chain and for a split
use Rattle.std.proofs.Common.{◌≡◌, ℕ, ◌<◌, Bool, true, not, ◌&&◌, ◌||◌, eqb, ltb, List, [], ◌∷◌, length, ⊎_elim}
use Rattle.std.proofs.lemmas.Bool.{and_parts, or_cases, not-true, both_ways, ltb-true, eqb-true}
use Rattle.std.specs.List.{AllByRecursion}
use Rattle.book.specs.Tally.{Tally, at, is_live}
use Rattle.book.specs.Totals.{any, enters, leaves, amount_of}
use Rattle.flow.specs.Chains.{is_chain, start, finish, Full}
use Rattle.flow.specs.Splits.{Row, Split, puts}
use Rattle.flow.proofs.ChainFacts.{is_origin, decides_origin, live_within}
use Rattle.flow.proofs.Sums.{every_below, decides_every_below}

abbrev pub every : {X : Type 0} → (X → Bool) → List X → Bool
every p [] = true
every p (x ∷ xs) = p x && every p xs

pub every_all : {X : Type 0} (p : X → Bool) (P : X → Type 0) → ((x : X) → p x ≡ true → P x) → (xs : List X) → every p xs ≡ true → AllByRecursion P xs
every_all p P shows [] h = tt
every_all p P shows (x ∷ xs) h = let b = and_parts (p x) (every p xs) h in (shows x b.0, every_all p P shows xs b.1)

abbrev pub is_full : Tally → List ℕ → Bool
is_full t c =
    is_chain t c
    && (is_origin t (start t c)
    && (any (enters (finish t c)) t && not (any (leaves (finish t c)) t)))

abbrev pub is_split : Tally → List Row → Bool
is_split t s =
    every (λ r. is_full t r.chain) s
    && (every (λ r. ltb 0 r.tonnes) s
    && every_below (λ n. not (is_live (at t n)) || eqb (puts s (n ∷ [])) (amount_of (at t n))) (length t))

full_checked : (t : Tally) (c : List ℕ) → is_full t c ≡ true → Full t c
full_checked t c h =
    let all = and_parts (is_chain t c) _ h in
    let ends = and_parts (is_origin t (start t c)) _ all.1 in
    let last = and_parts (any (enters (finish t c)) t) _ ends.1 in
    record {
      chain = all.0;
      origin = (decides_origin t (start t c)).0 ends.0;
      ending = record { entered = last.0; unleft = not-true (any (leaves (finish t c)) t) last.1 };
    }

pub split_checked : (t : Tally) (s : List Row) → is_split t s ≡ true → Split t s
split_checked t s h =
    let both = and_parts (every (λ r. is_full t r.chain) s) _ h in
    let rest = and_parts (every (λ r. ltb 0 r.tonnes) s) _ both.1 in
    let sums : ℕ → Bool = λ k. not (is_live (at t k)) || eqb (puts s (k ∷ [])) (amount_of (at t k)) in
    record {
      full = every_all (λ r. is_full t r.chain) (λ r. Full t r.chain) (λ r y. full_checked t r.chain y) s both.0;
      some = every_all (λ r. ltb 0 r.tonnes) (λ r. 0 < r.tonnes) (λ r y. ltb-true 0 r.tonnes y) s rest.0;
      sums = λ n live.
          ⊎_elim
          (λ struck. absurd (both_ways (is_live (at t n)) (not-true (is_live (at t n)) struck) live))
          (λ same. eqb-true (puts s (n ∷ [])) (amount_of (at t n)) same)
          (or_cases (not (is_live (at t n))) (eqb (puts s (n ∷ [])) (amount_of (at t n))) ((decides_every_below sums (λ k. sums k ≡ true) (λ k. ((λ y. y), (λ y. y))) (length t)).0 rest.1 n (live_within t n live)));
    }
