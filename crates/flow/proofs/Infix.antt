-- Lists that begin with another, end with it, or contain it unbroken. Assumes nothing.
--   Apart   no number stands twice in a list
use Rattle.std.proofs.Common.{◌≡◌, ℕ, ◌-◌, ◌<◌, ◌≤◌, Bool, true, false, ◌&&◌, ◌||◌, eqb, ◌⊎◌, List, [], ◌∷◌, ◌++◌, length, take, drop, sym, refl, ap, ◌∙◌, subst, inl, inr, ⊎_elim, arith}
use Rattle.std.proofs.ByRecursion.{All-weaker}
use Rattle.std.proofs.lemmas.List.Prefix.{end_rest}
use Rattle.std.proofs.lemmas.List.{append_assoc, append-nil, length-append, take-append-drop}
use Rattle.std.proofs.lemmas.Bool.{or_cases, or_left, or_right, and_parts, and_from, both_ways, eqb-true, eq-eqb}
use Rattle.std.specs.List.{AllByRecursion}
use Rattle.book.specs.Totals.{any}
use Rattle.flow.specs.Rules.{same_list, ends_with}
use Rattle.flow.specs.Splits.{begins, holds}
use Rattle.flow.proofs.Sums.{Once}

-- a list that begins with another, and one that contains another, by its parts
pub begins-append : (c y : List ℕ) → begins c (c ++ y) ≡ true
begins-append [] y = refl
begins-append (n ∷ c) y = and_from (eqb n n) (begins c (c ++ y)) (eq-eqb n n refl) (begins-append c y)

begins_parts : (c d : List ℕ) → begins c d ≡ true → (y : List ℕ) × (d ≡ c ++ y)
begins_parts [] d h = (d, refl)
begins_parts (m ∷ c) [] h = absurd (both_ways false refl h)
begins_parts (m ∷ c) (n ∷ d) h =
    let both = and_parts (eqb m n) (begins c d) h in
    let rest = begins_parts c d both.1 in
    let same = eqb-true m n both.0 in
    let tail = rest.1 in
    (rest.0, cc)

pub holds-begins : (c d : List ℕ) → begins c d ≡ true → holds c d ≡ true
holds-begins c [] h = h
holds-begins c (n ∷ d) h = or_left (begins c (n ∷ d)) (holds c d) h

pub holds_more : (n : ℕ) (c d : List ℕ) → holds c d ≡ true → holds c (n ∷ d) ≡ true
holds_more n c d h = or_right (begins c (n ∷ d)) (holds c d) h

pub holds-append : (x c y : List ℕ) → holds c (x ++ (c ++ y)) ≡ true
holds-append [] c y = holds-begins c (c ++ y) (begins-append c y)
holds-append (n ∷ x) c y = holds_more n c (x ++ (c ++ y)) (holds-append x c y)

pub holds-start : (c e : List ℕ) → holds c (c ++ e) ≡ true
holds-start c e = holds-append [] c e

pub holds-end : (c e : List ℕ) → holds e (c ++ e) ≡ true
holds-end c e = subst (λ l. holds e (c ++ l) ≡ true) (append-nil e) (holds-append c e [])

pub holds_parts : (c d : List ℕ) → holds c d ≡ true → (x : List ℕ) × (y : List ℕ) × (d ≡ x ++ (c ++ y))
holds_parts c [] h = let r = begins_parts c [] h in ([], r.0, r.1)
holds_parts c (n ∷ d) h =
    ⊎_elim
    (λ first. let r = begins_parts c (n ∷ d) first in ([], r.0, r.1))
    (λ later. let r = holds_parts c d later in (n ∷ r.0, r.1, ap (λ l. n ∷ l) r.2))
    (or_cases (begins c (n ∷ d)) (holds c d) h)

-- a part of a part is a part
pub holds_trans : (c d e : List ℕ) → holds c d ≡ true → holds d e ≡ true → holds c e ≡ true
holds_trans c d e h k =
    let p = holds_parts c d h in
    let q = holds_parts d e k in
    let x = p.0 in
    let y = p.1 in
    let u = q.0 in
    let v = q.1 in
    let is : e ≡ (u ++ x) ++ (c ++ (y ++ v)) = q.2 ∙ (ap (λ l. u ++ (l ++ v)) p.2 ∙ simp append_assoc) in
    subst (λ l. holds c l ≡ true) (sym is) (holds-append (u ++ x) c (y ++ v))

pub holds_front : (c e d : List ℕ) → holds (c ++ e) d ≡ true → holds c d ≡ true
holds_front c e d h = holds_trans c (c ++ e) d (holds-start c e) h

pub holds_back : (c e d : List ℕ) → holds (c ++ e) d ≡ true → holds e d ≡ true
holds_back c e d h = holds_trans e (c ++ e) d (holds-end c e) h

pub holds-length : (c d : List ℕ) → holds c d ≡ true → length c ≤ length d
holds-length c d h =
    let p = holds_parts c d h in
    omega (arith, ap length p.2, length-append p.0 (c ++ p.1), length-append c p.1)

-- a part that does not begin the list has a number before it there
pub part_grows_left : (c d : List ℕ) → holds c d ≡ true → (begins c d ≡ true) ⊎ ((m : ℕ) × (holds (m ∷ c) d ≡ true))
part_grows_left c [] h = inl h
part_grows_left c (n ∷ d) h =
    elim (or_cases (begins c (n ∷ d)) (holds c d) h) [
      | inl here ↦ inl here
      | inr later ↦
          elim (part_grows_left c d later) [
            | inl next ↦ inr (n, or_left (begins (n ∷ c) (n ∷ d)) (holds (n ∷ c) d) (and_from (eqb n n) (begins c d) (eq-eqb n n refl) next))
            | inr (m, more) ↦ inr (m, holds_more n (m ∷ c) d more)
          ]
    ]

-- a beginning that is not the whole list has a number after it there
pub front_grows_right : (c d : List ℕ) → begins c d ≡ true → length c < length d → (m : ℕ) × (begins (c ++ m ∷ []) d ≡ true)
front_grows_right [] [] h longer = absurd (omega arith)
front_grows_right [] (n ∷ d) h longer = (n, and_from (eqb n n) true (eq-eqb n n refl) refl)
front_grows_right (k ∷ c) [] h longer = absurd (omega arith)
front_grows_right (k ∷ c) (n ∷ d) h longer =
    let p = and_parts (eqb k n) (begins c d) h in
    let g = front_grows_right c d p.1 (omega arith) in
    (g.0, and_from (eqb k n) (begins (c ++ g.0 ∷ []) d) p.0 g.1)

-- one number in a list
pub holds_one_step : (n k : ℕ) (d : List ℕ) → holds (n ∷ []) (k ∷ d) ≡ (eqb n k || holds (n ∷ []) d)
holds_one_step n k d = elim (eqb n k) as (λ v. ((v && true) || holds (n ∷ []) d) ≡ (v || holds (n ∷ []) d)) [ true ↦ refl | false ↦ refl ]

holds_one_cases : (n k : ℕ) (d : List ℕ) → holds (n ∷ []) (k ∷ d) ≡ true → (n ≡ k) ⊎ (holds (n ∷ []) d ≡ true)
holds_one_cases n k d h = ⊎_elim (λ here. inl (eqb-true n k here)) (λ later. inr later) (or_cases (eqb n k) (holds (n ∷ []) d) (sym (holds_one_step n k d) ∙ h))

pub all_held : (d : List ℕ) → AllByRecursion (λ n. holds (n ∷ []) d ≡ true) d
all_held [] = tt
all_held (k ∷ d) =
    (holds-start (k ∷ []) d, All-weaker (λ n. holds (n ∷ []) d ≡ true) (λ n. holds (n ∷ []) (k ∷ d) ≡ true) (λ n h. holds_more k (n ∷ []) d h) d (all_held d))

abbrev pub Apart : List ℕ → Type 0
Apart [] = Unit {0}
Apart (n ∷ ns) = (holds (n ∷ []) ns ≡ false) × Apart ns

-- some number of a list passes a test exactly when the list contains one that does
pub any_held : (p : ℕ → Bool) (n : ℕ) (d : List ℕ) → p n ≡ true → holds (n ∷ []) d ≡ true → any p d ≡ true
any_held p n [] passes h = absurd (both_ways false refl h)
any_held p n (k ∷ d) passes h =
    ⊎_elim
    (λ same. or_left (p k) (any p d) (subst (λ m. p m ≡ true) same passes))
    (λ later. or_right (p k) (any p d) (any_held p n d passes later))
    (holds_one_cases n k d h)

pub any_found : (p : ℕ → Bool) (d : List ℕ) → any p d ≡ true → (n : ℕ) × (p n ≡ true) × (holds (n ∷ []) d ≡ true)
any_found p [] h = absurd (both_ways false refl h)
any_found p (n ∷ d) h =
    ⊎_elim
    (λ here. (n, here, holds-start (n ∷ []) d))
    (λ later. let q = any_found p d later in (q.0, q.1, holds_more n (q.0 ∷ []) d q.2))
    (or_cases (p n) (any p d) h)

-- two numbers of a list that pass a test which at most one passes are the same
pub once_same : (p : ℕ → Bool) (m n : ℕ) → p m ≡ true → p n ≡ true → (d : List ℕ) → Once p d → holds (m ∷ []) d ≡ true → holds (n ∷ []) d ≡ true → m ≡ n
once_same p m n passes-m passes-n [] once has-m has-n = absurd (both_ways false refl has-m)
once_same p m n passes-m passes-n (k ∷ d) once has-m has-n =
    elim (holds_one_cases m k d has-m) [
      | inl same-m ↦
          elim (holds_one_cases n k d has-n) [
            | inl same-n ↦ same-m ∙ sym same-n
            | inr later-n ↦ absurd (both_ways (any p d) (once.0 (subst (λ j. p j ≡ true) same-m passes-m)) (any_held p n d passes-n later-n))
          ]
      | inr later-m ↦
          elim (holds_one_cases n k d has-n) [
            | inl same-n ↦ absurd (both_ways (any p d) (once.0 (subst (λ j. p j ≡ true) same-n passes-n)) (any_held p m d passes-m later-m))
            | inr later-n ↦ once_same p m n passes-m passes-n d once.1 later-m later-n
          ]
    ]

-- a list that ends with another, by its parts
pub same_list_is : (c d : List ℕ) → same_list c d ≡ true → c ≡ d
same_list_is [] [] h = refl
same_list_is [] (n ∷ d) h = absurd (both_ways false refl h)
same_list_is (m ∷ c) [] h = absurd (both_ways false refl h)
same_list_is (m ∷ c) (n ∷ d) h =
    let p = and_parts (eqb m n) (same_list c d) h in
    ap (λ k. k ∷ c) (eqb-true m n p.0) ∙ ap (λ l. n ∷ l) (same_list_is c d p.1)

same_list_self : (c : List ℕ) → same_list c c ≡ true
same_list_self [] = refl
same_list_self (m ∷ c) = and_from (eqb m m) (same_list c c) (eq-eqb m m refl) (same_list_self c)

pub ends_with-end : (w c : List ℕ) → ends_with (w ++ c) c ≡ true
ends_with-end w c = subst (λ l. same_list c l ≡ true) (sym (end_rest (w ++ c) c w refl)) (same_list_self c)

pub ends_with_parts : (w c : List ℕ) → ends_with w c ≡ true → (v : List ℕ) × (w ≡ v ++ c)
ends_with_parts w c h =
    let n = length w - length c in (
      take n w,
      sym (take-append-drop n w) ∙ ap (λ l. take n w ++ l) (sym (same_list_is c (drop n w) h)),
    )
