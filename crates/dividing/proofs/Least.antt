-- The least of what a function gives over a range of numbers, as `filter_map` and `min` find it. Assumes nothing.
--   LeastOf   the least number that it gives
use Rattle.std.proofs.Common.{◌≡◌, ℕ, zero, suc, ◌+◌, ◌<◌, ◌≤◌, min, ◌⊎◌, List, Some, None, Option, MatchOption, sym, refl, ap, ◌∙◌, inl, inr, ⊎_elim, arith}
use Rattle.std.proofs.lemmas.Bool.{cases_eq, cases_lt}
use Rattle.std.specs.List.{cons_option, filter_map, fold, range_with_len, reduce}

module _ (h : ℕ → Option ℕ) where
  pub record LeastOf (i n m : ℕ) : Type 0 where
    pub found : (k : ℕ) × (i ≤ k) × (k < i + n) × (h k ≡ Some m)
    pub bound : (k v : ℕ) → i ≤ k → k < i + n → h k ≡ Some v → m ≤ v

  abbrev pub NoneOf : ℕ → ℕ → Type 0
  NoneOf i n = (k : ℕ) → i ≤ k → k < i + n → h k ≡ None

  -- the same, from a number that it gave before
  record LeastFrom (i n a m : ℕ) : Type 0 where
    pub within : m ≤ a
    pub found : (m ≡ a) ⊎ ((k : ℕ) × (i ≤ k) × (k < i + n) × (h k ≡ Some m))
    pub bound : (k v : ℕ) → i ≤ k → k < i + n → h k ≡ Some v → m ≤ v

  abbrev given : ℕ → ℕ → List ℕ
  given i n = filter_map h (range_with_len i n)

  module _ (i n : ℕ) where
    -- what it gives at the first number bounds what it gives at others
    first_bound : (o : Option ℕ) (m : ℕ) → h i ≡ o → MatchOption o (Unit {0}) (λ w. m ≤ w) → ((k v : ℕ) → i + 1 ≤ k → k < i + 1 + n → h k ≡ Some v → m ≤ v) → (k v : ℕ) → i ≤ k → k < i + suc n → h k ≡ Some v → m ≤ v
    first_bound None m is below rest k v ge lt gave =
        ⊎_elim (λ same. let none = sym gave ∙ (ap h same ∙ is) in absurd cc) (λ other. rest k v (omega arith) (omega arith) gave) (cases_eq k i)
    first_bound (Some w) m is below rest k v ge lt gave =
        ⊎_elim (λ same. let one = sym gave ∙ (ap h same ∙ is) in let eq : v ≡ w = cc in omega arith) (λ other. rest k v (omega arith) (omega arith) gave) (cases_eq k i)

    fold_step : (a : ℕ) (o : Option ℕ) → h i ≡ o → ((b : ℕ) → LeastFrom (i + 1) n b (fold min b (given (i + 1) n))) → LeastFrom i (suc n) a (fold min a (cons_option o (given (i + 1) n)))
    fold_step a None is rest = record {
      within = (rest a).within;
      found = ⊎_elim (λ same. inl same) (λ f. inr (f.0, omega (arith, f.1), omega (arith, f.2), f.3)) (rest a).found;
      bound = first_bound None _ is tt (rest a).bound;
    }
    fold_step a (Some w) is rest =
        let r = rest (min a w) in
        record {
          within = omega (arith, r.within);
          found =
              ⊎_elim
              (λ same. ⊎_elim (λ lower. inl (omega (arith, same))) (λ upper. let m : fold min (min a w) (given (i + 1) n) ≡ w = omega (arith, same) in inr (i, omega arith, omega arith, is ∙ ap Some (sym m))) (cases_lt a w))
              (λ f. inr (f.0, omega (arith, f.1), omega (arith, f.2), f.3))
              r.found;
          bound = first_bound (Some w) _ is (omega (arith, r.within)) r.bound;
        }

  fold_least : (n i a : ℕ) → LeastFrom i n a (fold min a (given i n))
  fold_least zero i a = record { within = omega arith; found = inl refl; bound = λ k v ge lt. absurd (omega arith) }
  fold_least (suc n) i a = fold_step i n a (h i) refl (λ b. fold_least n (i + 1) b)

  later : (i n : ℕ) (r : Option ℕ) → h i ≡ None → MatchOption r (NoneOf (i + 1) n) (LeastOf (i + 1) n) → MatchOption r (NoneOf i (suc n)) (LeastOf i (suc n))
  later i n None is none =
      λ k ge lt. ⊎_elim (λ same. ap h same ∙ is) (λ other. none k (omega arith) (omega arith)) (cases_eq k i)
  later i n (Some m) is least = record {
    found = (least.found.0, omega (arith, least.found.1), omega (arith, least.found.2), least.found.3);
    bound = first_bound i n None m is tt least.bound;
  }

  reduce_step : (i n : ℕ) (o : Option ℕ) → h i ≡ o → MatchOption (reduce min (given (i + 1) n)) (NoneOf (i + 1) n) (LeastOf (i + 1) n) → MatchOption (reduce min (cons_option o (given (i + 1) n))) (NoneOf i (suc n)) (LeastOf i (suc n))
  reduce_step i n None is rest = later i n (reduce min (given (i + 1) n)) is rest
  reduce_step i n (Some w) is rest =
      let r = fold_least n (i + 1) w in
      record {
        found = ⊎_elim (λ same. (i, omega arith, omega arith, is ∙ ap Some (sym same))) (λ f. (f.0, omega (arith, f.1), omega (arith, f.2), f.3)) r.found;
        bound = first_bound i n (Some w) _ is r.within r.bound;
      }

  pub reduce_least : (n i : ℕ) → MatchOption (reduce min (given i n)) (NoneOf i n) (LeastOf i n)
  reduce_least zero i = λ k ge lt. absurd (omega arith)
  reduce_least (suc n) i = reduce_step i n (h i) refl (reduce_least n (i + 1))
