-- What `find_map` and `any` answer over a range, said of the numbers in it, and what `find_map` may be asked over the numbers down to 0. Assumes nothing.
--   Hit, Miss   what a closure's answer says of the number that it was handed
use Rattle.std.proofs.Common.{◌≡◌, ℕ, ◌+◌, ◌-◌, ◌<◌, ◌≤◌, Bool, true, false, Some, None, Option, IfSome, IsSomeAnd, MatchOption, option_map, List, [], ◌∷◌, sym, ap, ◌∙◌, subst, arith}
use Rattle.std.proofs.iter.Yields.{nat_range_steps}
use Rattle.std.proofs.iter.runs.Sources.{range_runs, nat_range_inclusive_steps_back, inclusive_listed_back}
use Rattle.std.specs.Bool.{MatchBool}
use Rattle.std.specs.Fn.{Called}
use Rattle.std.specs.Iterator.{Yields, CallableAtEachTurn}
use Rattle.std.specs.Iterator.Adapters.{rev_steps, RevKeepsRuns}
use Rattle.std.specs.Iterator.Runs.{Run, SomeRun, AllItemsGive, AnyItemGives, IsFirstToGive, CallKeepsClosure}
use Rattle.std.specs.List.{FoldsTo}
use Rattle.std.specs.Range.{range_inclusive_len}
use Rattle.std.specs.declared.iter.Rev.{Rev}
use Rattle.std.specs.declared.ops.Range.{Range}
use Rattle.std.specs.declared.ops.RangeInclusive.{RangeInclusive}
use denote.Param.Members.{Mut}

-- what holds of the item at a place holds of the number that it is
of_item : (P : ℕ → Type 0) (o : Option ℕ) (n : ℕ) → option_map (λ y. y) o ≡ Some n → IfSome o P → P n
of_item P None n is h = absurd (cc)
of_item P (Some x) n is h = let same : x ≡ n = cc in subst P same h

some_item : (P : ℕ → Type 0) (o : Option ℕ) → IsSomeAnd o P → IfSome o P
some_item P None h = absurd h
some_item P (Some x) h = h

-- the numbers at the places of a run
module _ {S F R : Type 0} {steps : S → Option ℕ → S → Type 0} (p : Run steps) (number : ℕ → ℕ) (reads : (k : ℕ) → k < p.len → option_map (λ y. y) (p.at k) ≡ Some (number k)) (g : Mut F (ℕ × Unit {0}) R) (f : F) (keeps : CallKeepsClosure g f) where
  pub all_give : (r : R) → AllItemsGive p g f r → (k : ℕ) → k < p.len → Called g f (number k, tt) r f
  all_give r all k inside = of_item (λ n. Called g f (n, tt) r f) (p.at k) (number k) (reads k inside) (all keeps k)

  pub some_gives : (r : R) → AnyItemGives p g f r → (k : ℕ) × (k < p.len) × Called g f (number k, tt) r f
  some_gives r any =
      let found = any keeps in
      (found.0, found.1, of_item (λ n. Called g f (n, tt) r f) (p.at found.0) (number found.0) (reads found.0 found.1) (some_item (λ n. Called g f (n, tt) r f) (p.at found.0) found.2))

  pub first_gives : (hit miss : R) (i : ℕ) → i < p.len → IsFirstToGive p g f hit miss i → Called g f (number i, tt) hit f × ((k : ℕ) → k < i → Called g f (number k, tt) miss f)
  first_gives hit miss i inside first = (
    of_item (λ n. Called g f (n, tt) hit f) (p.at i) (number i) (reads i inside) (some_item (λ n. Called g f (n, tt) hit f) (p.at i) (first keeps).0),
    λ k below. of_item (λ n. Called g f (n, tt) miss f) (p.at k) (number k) (reads k (omega arith)) (some_item (λ n. Called g f (n, tt) miss f) (p.at k) ((first keeps).1 k below)),
  )

module _ {F : Type 0} (s : Range ℕ) where
  module _ {B : Type 0} (g : Mut F (ℕ × Unit {0}) (Option B)) (f : F) (Hit : ℕ → B → Type 0) (Miss : ℕ → Type 0) where
    pub found_in_range : CallKeepsClosure g f → ((x : ℕ) (b : B) → Called g f (x, tt) (Some b) f → Hit x b) → ((x : ℕ) → Called g f (x, tt) None f → Miss x) → (r : Option B) → SomeRun nat_range_steps s (λ p. MatchOption r ((p.whole ≡ true) × AllItemsGive p g f None) (λ y. (i : ℕ) × (i < p.len) × (p.len ≡ i + 1) × IsFirstToGive p g f (Some y) None i)) → MatchOption r ((k : ℕ) → s.start ≤ k → k < s.end → Miss k) (λ b. (i : ℕ) × (s.start ≤ i) × (i < s.end) × Hit i b × ((k : ℕ) → s.start ≤ k → k < i → Miss k))
    found_in_range keeps hit miss None (p, from, (whole, all)) = λ k low high.
        let r = range_runs p p.seen in
        let start = ap (λ (z : Range ℕ). z.start) from in
        let end = ap (λ (z : Range ℕ). z.end) from in
        let place : p.from.start + (k - s.start) ≡ k = omega arith in
        subst Miss place (miss _ (all_give p (λ n. p.from.start + n) r.3 g f keeps None all (k - s.start) (omega (arith, r.1 whole))))
    found_in_range keeps hit miss (Some b) (p, from, (i, inside, last, first)) =
        let r = range_runs p p.seen in
        let start = ap (λ (z : Range ℕ). z.start) from in
        let end = ap (λ (z : Range ℕ). z.end) from in
        let found = first_gives p (λ n. p.from.start + n) r.3 g f keeps (Some b) None i inside first in (
          p.from.start + i,
          omega arith,
          omega (arith, r.0),
          hit _ b found.0,
          λ k low below. let place : p.from.start + (k - s.start) ≡ k = omega arith in subst Miss place (miss _ (found.1 (k - s.start) (omega arith))),
        )

  module _ (g : Mut F (ℕ × Unit {0}) Bool) (f : F) (Hit Miss : ℕ → Type 0) where
    pub any_in_range : CallKeepsClosure g f → ((x : ℕ) → Called g f (x, tt) true f → Hit x) → ((x : ℕ) → Called g f (x, tt) false f → Miss x) → (r : Bool) → SomeRun nat_range_steps s (λ p. MatchBool r (AnyItemGives p g f true) ((p.whole ≡ true) × AllItemsGive p g f false)) → MatchBool r ((k : ℕ) × Hit k) ((k : ℕ) → s.start ≤ k → k < s.end → Miss k)
    any_in_range keeps hit miss true (p, from, any) =
        let found = some_gives p (λ n. p.from.start + n) (range_runs p p.seen).3 g f keeps true any in
        (p.from.start + found.0, hit _ found.2)
    any_in_range keeps hit miss false (p, from, (whole, all)) = λ k low high.
        let r = range_runs p p.seen in
        let start = ap (λ (z : Range ℕ). z.start) from in
        let end = ap (λ (z : Range ℕ). z.end) from in
        let place : p.from.start + (k - s.start) ≡ k = omega arith in
        subst Miss place (miss _ (all_give p (λ n. p.from.start + n) r.3 g f keeps false all (k - s.start) (omega (arith, r.1 whole))))

-- how many numbers are still to come, down to 0
abbrev pub left : RangeInclusive ℕ → ℕ
left s = range_inclusive_len (λ x y. y - x) s.start s.end s.exhausted

pub highest_left : (start end : ℕ) (exhausted : Bool) (n : ℕ) → start ≡ 0 → range_inclusive_len (λ x y. y - x) start end exhausted ≡ n + 1 → end ≡ n
highest_left start end true n zero is = absurd (omega (arith, is))
highest_left start end false n zero is = omega (arith, is)

-- P holds of each number that comes, where a call that answered None hands it on to the number below
module _ {F B : Type 0} (g : Mut F (ℕ × Unit {0}) (Option B)) (f : F) (P : ℕ → Type 0) (on : (n : ℕ) (q : F) → P n → Called g f (n, tt) None q → (q ≡ f) × ((k : ℕ) → n ≡ k + 1 → P k)) where
  turned : (xs : List ℕ) (s t : Rev (RangeInclusive ℕ)) (q : F) → s.iter.start ≡ 0 → ((k : ℕ) → left s.iter ≡ k + 1 → P k) → Yields (rev_steps nat_range_inclusive_steps_back) s xs t → FoldsTo (λ p x h. Called g p (x, tt) None h) f xs q → (q ≡ f) × (t.iter.start ≡ 0) × ((k : ℕ) → left t.iter ≡ k + 1 → P k)
  turned [] s t q zero ready same calls = (
    sym calls,
    ap (λ (z : Rev (RangeInclusive ℕ)). z.iter.start) (sym same) ∙ zero,
    λ k is. ready k (ap (λ (z : Rev (RangeInclusive ℕ)). left z.iter) same ∙ is),
  )
  turned (x ∷ xs) s t q zero ready (j, step, yields) (p, call, calls) =
      let high : s.iter.end ≡ left j.iter = highest_left s.iter.start s.iter.end s.iter.exhausted (left j.iter) zero (sym step.1.1) in
      let next = on x p (ready x (omega (arith, step.1.0, step.1.1))) call in
      turned xs j t q (step.0 ∙ zero) (λ k is. next.1 k (omega (arith, step.1.0))) yields (subst (λ z. FoldsTo (λ a y h. Called g a (y, tt) None h) z xs q) next.0 calls)

  pub callable_down : (Q : F → ℕ → Type 0) (s : Rev (RangeInclusive ℕ)) → s.iter.start ≡ 0 → ((k : ℕ) → left s.iter ≡ k + 1 → P k) → ((n : ℕ) → P n → Q f n) → CallableAtEachTurn (rev_steps nat_range_inclusive_steps_back) (λ p x h. Called g p (x, tt) None h) Q s f
  callable_down Q s zero ready may = record {
    at = λ xs t q x u yields calls step.
        let h = turned xs s t q zero ready yields calls in
        let high : t.iter.end ≡ left u.iter = highest_left t.iter.start t.iter.end t.iter.exhausted (left u.iter) h.1 (sym step.1.1) in
        subst (λ z. Q z x) (sym h.0) (may x (h.2 x (omega (arith, step.1.0, step.1.1))));
  }

-- the numbers down to 0: the first answer, or None at each and so at 0
module _ {F B : Type 0} (g : Mut F (ℕ × Unit {0}) (Option B)) (f : F) (Hit : B → Type 0) (Miss : ℕ → Type 0) (s : RangeInclusive ℕ) (down : Rev (RangeInclusive ℕ)) (same : RevKeepsRuns nat_range_inclusive_steps_back s down) where
  pub found_down : CallKeepsClosure g f → ((x : ℕ) (b : B) → Called g f (x, tt) (Some b) f → Hit b) → ((x : ℕ) → Called g f (x, tt) None f → Miss x) → s.start ≡ 0 → s.exhausted ≡ false → (r : Option B) → SomeRun (rev_steps nat_range_inclusive_steps_back) down (λ p. MatchOption r ((p.whole ≡ true) × AllItemsGive p g f None) (λ y. (i : ℕ) × (i < p.len) × (p.len ≡ i + 1) × IsFirstToGive p g f (Some y) None i)) → MatchOption r (Miss 0) Hit
  found_down keeps hit miss zero fresh None (p, from, (whole, all)) =
      let source = same p p.seen from in
      let q = source.0 in
      let listed = inclusive_listed_back q q.seen in
      let start = ap (λ (z : RangeInclusive ℕ). z.start) source.1 in
      let counts = listed.4 (ap (λ (z : RangeInclusive ℕ). z.exhausted) source.1 ∙ fresh) in
      let long = counts.0.1 (source.2.1 ∙ whole) in
      let place : listed.1 - 1 - (listed.1 - 1) ≡ 0 = omega arith in
      subst Miss place
      (miss _ (all_give p (λ k. listed.1 - 1 - k) (λ k inside. ap (option_map (λ y. y)) (sym (source.2.0.2 k)) ∙ counts.0.3 k (omega (arith, source.2.0.0))) g f keeps None all (listed.1 - 1) (omega (arith, source.2.0.0, listed.2, listed.3))))
  found_down keeps hit miss zero fresh (Some b) (p, from, (i, inside, last, first)) =
      let source = same p p.seen from in
      let q = source.0 in
      let listed = inclusive_listed_back q q.seen in
      let counts = listed.4 (ap (λ (z : RangeInclusive ℕ). z.exhausted) source.1 ∙ fresh) in
      hit _ b (first_gives p (λ k. listed.1 - 1 - k) (λ k below. ap (option_map (λ y. y)) (sym (source.2.0.2 k)) ∙ counts.0.3 k (omega (arith, source.2.0.0))) g f keeps (Some b) None i inside first).0
