-- Sums over lists, and tests that some element, at most one, or every number below another passes. Assumes nothing.
--   Once          at most one element of a list passes a test
--   every_below   every number below one passes a test
use Rattle.std.proofs.Common.{◌≡◌, ℕ, zero, suc, ◌+◌, ◌<◌, ◌≤◌, Bool, true, false, ◌&&◌, ◌⊎◌, List, [], ◌∷◌, length, get_or, set, Decides, sym, refl, subst, inl, inr, ⊎_elim, arith}
use Rattle.std.proofs.lemmas.Bool.{cases_Bool, cases_eq, or_from, or_left, or_right, both_ways}
use Rattle.std.proofs.lemmas.Bool.Decides.{Decides-below_and}
use Rattle.std.specs.List.{AllByRecursion}
use Rattle.book.specs.Totals.{total, any}

-- sums by elements that agree, that are at most the others, or that are nothing
pub total_same : {X : Type 0} (P : X → Type 0) (f g : X → ℕ) → ((x : X) → P x → f x ≡ g x) → (xs : List X) → AllByRecursion P xs → total f xs ≡ total g xs
total_same P f g same [] all = refl
total_same P f g same (x ∷ xs) all = omega (arith, same x all.0, total_same P f g same xs all.1)

pub total_le : {X : Type 0} (f g : X → ℕ) → ((x : X) → f x ≤ g x) → (xs : List X) → total f xs ≤ total g xs
total_le f g least [] = omega arith
total_le f g least (x ∷ xs) = omega (arith, least x, total_le f g least xs)

pub total_none : {X : Type 0} (P : X → Type 0) (f : X → ℕ) → ((x : X) → P x → f x ≡ 0) → (xs : List X) → AllByRecursion P xs → total f xs ≡ 0
total_none P f none [] all = refl
total_none P f none (x ∷ xs) all = omega (arith, none x all.0, total_none P f none xs all.1)

-- one element replaced
pub total-set : {X : Type 0} (f : X → ℕ) (xs : List X) (i : ℕ) (y d : X) → i < length xs → total f (set xs i y) + f (get_or xs i d) ≡ total f xs + f y
total-set f [] i y d h = absurd (omega arith)
total-set f (x ∷ xs) zero y d h = omega arith
total-set f (x ∷ xs) (suc i) y d h = omega (arith, total-set f xs i y d (omega arith))

pub all_both : {X : Type 0} (P Q R : X → Type 0) → ((x : X) → P x → Q x → R x) → (xs : List X) → AllByRecursion P xs → AllByRecursion Q xs → AllByRecursion R xs
all_both P Q R joins [] ps qs = tt
all_both P Q R joins (x ∷ xs) ps qs = (joins x ps.0 qs.0, all_both P Q R joins xs ps.1 qs.1)

pub false_unless : (b : Bool) → (b ≡ true → ⊥) → b ≡ false
false_unless true never = absurd (never refl)
false_unless false never = refl

-- whether some element passes
pub any_at : {X : Type 0} (p : X → Bool) (xs : List X) (i : ℕ) (d : X) → p d ≡ false → p (get_or xs i d) ≡ true → any p xs ≡ true
any_at p [] i d none passes = absurd (both_ways (p d) none passes)
any_at p (x ∷ xs) zero d none passes = or_left (p x) (any p xs) passes
any_at p (x ∷ xs) (suc i) d none passes = or_right (p x) (any p xs) (any_at p xs i d none passes)

pub any_none : {X : Type 0} (P : X → Type 0) (p : X → Bool) → ((x : X) → P x → p x ≡ false) → (xs : List X) → AllByRecursion P xs → any p xs ≡ false
any_none P p none [] all = refl
any_none P p none (x ∷ xs) all = or_from (p x) (any p xs) (none x all.0) (any_none P p none xs all.1)

abbrev pub Once : {X : Type 0} → (X → Bool) → List X → Type 0
Once p [] = Unit {0}
Once p (x ∷ xs) = (p x ≡ true → any p xs ≡ false) × Once p xs

abbrev pub every_below : (ℕ → Bool) → ℕ → Bool
every_below p zero = true
every_below p (suc n) = p n && every_below p n

pub decides_every_below : (p : ℕ → Bool) (P : ℕ → Type 0) → ((n : ℕ) → Decides (p n) (P n)) → (n : ℕ) → Decides (every_below p n) ((k : ℕ) → k < n → P k)
decides_every_below p P each n = Decides-below_and p P (every_below p) each refl (λ _. refl) n

-- the lowest number that passes a test, below a number that does
pub first_such : (p : ℕ → Bool) (n : ℕ) → ((b : ℕ) → b < n → p b ≡ false) ⊎ ((m : ℕ) × (p m ≡ true) × ((b : ℕ) → b < m → p b ≡ false))
first_such p zero = inl (λ b h. absurd (omega arith))
first_such p (suc n) =
    ⊎_elim
    (λ none. ⊎_elim
    (λ here. inr (n, here, none))
    (λ gone. inl (λ b h. ⊎_elim (λ same. subst (λ j. p j ≡ false) (sym same) gone) (λ other. none b (omega arith)) (cases_eq b n)))
    (cases_Bool (p n)))
    (λ found. inr found)
    (first_such p n)

pub lowest_such : (p : ℕ → Bool) (n : ℕ) → p n ≡ true → (m : ℕ) × (p m ≡ true) × ((b : ℕ) → b < m → p b ≡ false)
lowest_such p n passes = ⊎_elim (λ none. absurd (both_ways (p n) (none n (omega arith)) passes)) (λ found. found) (first_such p (suc n))
