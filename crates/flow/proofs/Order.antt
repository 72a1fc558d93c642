-- The order on lists of line numbers: a test for it, and that it is strict and total. Assumes nothing.
use Rattle.std.proofs.Common.{◌≡◌, ℕ, Bool, true, false, ◌&&◌, ◌||◌, eqb, ltb, ◌⊎◌, List, [], ◌∷◌, sym, refl, ap, ◌∙◌, subst, inl, inr, ⊎_elim, arith}
use Rattle.std.proofs.lemmas.Bool.{and_from, and_parts, both_ways, cases_order, eq-eqb, eqb-true, lt-ltb, ltb-true, or_cases, or_left, or_right}
use Rattle.flow.specs.Listing.{Before}

abbrev pub is_before : List ℕ → List ℕ → Bool
is_before [] [] = false
is_before [] (n ∷ d) = true
is_before (m ∷ c) [] = false
is_before (m ∷ c) (n ∷ d) = ltb m n || (eqb m n && is_before c d)

pub before_true : (c d : List ℕ) → is_before c d ≡ true → Before c d
before_true [] [] h = absurd (both_ways false refl h)
before_true [] (n ∷ d) h = tt
before_true (m ∷ c) [] h = absurd (both_ways false refl h)
before_true (m ∷ c) (n ∷ d) h =
    ⊎_elim
    (λ less. inl (ltb-true m n less))
    (λ same. let p = and_parts (eqb m n) (is_before c d) same in inr (eqb-true m n p.0, before_true c d p.1))
    (or_cases (ltb m n) (eqb m n && is_before c d) h)

pub true_before : (c d : List ℕ) → Before c d → is_before c d ≡ true
true_before [] [] h = absurd h
true_before [] (n ∷ d) h = refl
true_before (m ∷ c) [] h = absurd h
true_before (m ∷ c) (n ∷ d) (inl less) = or_left (ltb m n) _ (lt-ltb m n less)
true_before (m ∷ c) (n ∷ d) (inr (same, h)) = or_right (ltb m n) _ (and_from (eqb m n) (is_before c d) (eq-eqb m n same) (true_before c d h))

pub before_irreflexive : (c : List ℕ) → Before c c → ⊥
before_irreflexive [] h = h
before_irreflexive (m ∷ c) (inl less) = omega arith
before_irreflexive (m ∷ c) (inr (same, h)) = before_irreflexive c h

pub before_transitive : (c d e : List ℕ) → Before c d → Before d e → Before c e
before_transitive [] [] e h k = absurd h
before_transitive [] (n ∷ d) [] h k = absurd k
before_transitive [] (n ∷ d) (o ∷ e) h k = tt
before_transitive (m ∷ c) [] e h k = absurd h
before_transitive (m ∷ c) (n ∷ d) [] h k = absurd k
before_transitive (m ∷ c) (n ∷ d) (o ∷ e) (inl h) (inl k) = inl (omega arith)
before_transitive (m ∷ c) (n ∷ d) (o ∷ e) (inl h) (inr (p, k)) = inl (omega arith)
before_transitive (m ∷ c) (n ∷ d) (o ∷ e) (inr (p, h)) (inl k) = inl (omega arith)
before_transitive (m ∷ c) (n ∷ d) (o ∷ e) (inr (p, h)) (inr (q, k)) = inr (p ∙ q, before_transitive c d e h k)

pub before_asymmetric : (c d : List ℕ) → Before c d → Before d c → ⊥
before_asymmetric c d h k = before_irreflexive c (before_transitive c d c h k)

pub before_not_same : (c d : List ℕ) → Before c d → c ≡ d → ⊥
before_not_same c d h same = before_irreflexive d (subst (λ z. Before z d) same h)

pub compare_before : (c d : List ℕ) → Before c d ⊎ ((c ≡ d) ⊎ Before d c)
compare_before [] [] = inr (inl refl)
compare_before [] (n ∷ d) = inl tt
compare_before (m ∷ c) [] = inr (inr tt)
compare_before (m ∷ c) (n ∷ d) =
    elim (cases_order m n) [
      | inl same ↦
          elim (compare_before c d) [
            | inl h ↦ inl (inr (same, h))
            | inr (inl e) ↦ inr (inl (ap (λ z. z ∷ c) same ∙ ap (λ z. n ∷ z) e))
            | inr (inr h) ↦ inr (inr (inr (sym same, h)))
          ]
      | inr (inl less) ↦ inl (inl less)
      | inr (inr more) ↦ inr (inr (inl more))
    ]
