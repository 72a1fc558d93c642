-- All lists of at most so many numbers below a bound, in order: every chain is one of them. Assumes nothing.
use Rattle.std.proofs.Common.{◌≡◌, ℕ, zero, suc, ◌<◌, ◌≤◌, Bool, true, ◌⊎◌, List, [], ◌∷◌, ◌++◌, map, length, get_or, filter, sym, refl, ap, ◌∙◌, subst, inl, inr, ⊎_elim, arith}
use Rattle.std.proofs.ByRecursion.{All-append, All-from_get_or, All-map, All-weaker, all_kept_by, has_append_left, has_append_right, has_get_or}
use Rattle.std.proofs.lemmas.List.{length-map, get_or-map}
use Rattle.std.proofs.lemmas.Bool.{cases_eq, cond_both, cond-true}
use Rattle.std.specs.List.{ContainsAt, AllByRecursion}
use Rattle.flow.specs.Listing.{Before, Ascends}

-- what a list has
pub has_cases : {X : Type 0} (y : X) (xs : List X) (x : X) → ContainsAt (y ∷ xs) x → (y ≡ x) ⊎ ContainsAt xs x
has_cases y xs x (zero, within, is) = inl (is y)
has_cases y xs x (suc k, within, is) = inr (k, omega arith, is)

pub has_none : {X : Type 0} (x : X) → ContainsAt [] x → ⊥
has_none x (k, within, is) = omega arith

has_map : {X Y : Type 0} (f : X → Y) (xs : List X) (x : X) → ContainsAt xs x → ContainsAt (map f xs) (f x)
has_map f xs x (k, within, is) = (k, omega (arith, length-map xs f), λ d. get_or-map f xs k x d within ∙ ap f (is x))

pub has_kept : {X : Type 0} (p : X → Bool) (xs : List X) (x : X) → ContainsAt xs x → p x ≡ true → ContainsAt (filter p xs) x
has_kept p [] x h passes = absurd (has_none x h)
has_kept p (y ∷ xs) x h passes =
    ⊎_elim
    (λ same. subst (λ zs. ContainsAt zs x) (sym (cond-true (p y) (y ∷ filter p xs) (filter p xs) (ap p same ∙ passes))) (subst (λ z. ContainsAt (y ∷ filter p xs) z) same (has_get_or (y ∷ filter p xs) 0 y (omega arith))))
    (λ later. let rest = has_kept p xs x later passes in cond_both (p y) (y ∷ filter p xs) (filter p xs) (λ zs. ContainsAt zs x) (λ _. has_append_right (y ∷ []) (filter p xs) x rest) (λ _. rest))
    (has_cases y xs x h)

-- each stands before all that follow
abbrev pub Sorted : List (List ℕ) → Type 0
Sorted [] = Unit {0}
Sorted (c ∷ cs) = AllByRecursion (Before c) cs × Sorted cs

pub sorted_ascends : (given : List ℕ) (cs : List (List ℕ)) → AllByRecursion (Before given) cs → Sorted cs → Ascends given cs
sorted_ascends given [] after sorted = tt
sorted_ascends given (c ∷ cs) after sorted = (after.0, sorted_ascends c cs sorted.0 sorted.1)

sorted_append : (cs ds : List (List ℕ)) → Sorted cs → Sorted ds → AllByRecursion (λ c. AllByRecursion (Before c) ds) cs → Sorted (cs ++ ds)
sorted_append [] ds sorted sorted' before = sorted'
sorted_append (c ∷ cs) ds sorted sorted' before =
    (All-append (Before c) cs ds sorted.0 before.0, sorted_append cs ds sorted.1 sorted' before.1)

pub sorted_kept : (p : List ℕ → Bool) (cs : List (List ℕ)) → Sorted cs → Sorted (filter p cs)
sorted_kept p [] sorted = tt
sorted_kept p (c ∷ cs) sorted =
    let rest = sorted_kept p cs sorted.1 in
    cond_both (p c) (c ∷ filter p cs) (filter p cs) Sorted (λ _. (all_kept_by p (Before c) cs sorted.0, rest)) (λ _. rest)

-- lists put behind one number, and behind each number below another
behind : ℕ → List (List ℕ) → List (List ℕ)
behind n ds = map (λ d. n ∷ d) ds

sorted_behind : (n : ℕ) (ds : List (List ℕ)) → Sorted ds → Sorted (behind n ds)
unfolding behind
sorted_behind n [] sorted = tt
sorted_behind n (d ∷ ds) sorted = (
  All-map (Before (n ∷ d)) (λ e. n ∷ e) ds (All-weaker (Before d) (λ e. Before (n ∷ d) (n ∷ e)) (λ e h. inr (refl, h)) ds sorted.0),
  sorted_behind n ds sorted.1,
)

headed : ℕ → List (List ℕ) → List (List ℕ)
headed zero ds = []
headed (suc n) ds = headed n ds ++ behind n ds

-- a list whose first number is below n stands before every list that starts with n
abbrev StartsBelow : ℕ → List ℕ → Type 0
StartsBelow n [] = ⊥
StartsBelow n (m ∷ c) = m < n

starts_before : (n : ℕ) (c d : List ℕ) → StartsBelow n c → Before c (n ∷ d)
starts_before n [] d h = absurd h
starts_before n (m ∷ c) d h = inl h

starts_weaker : (n : ℕ) (c : List ℕ) → StartsBelow n c → StartsBelow (suc n) c
starts_weaker n [] h = h
starts_weaker n (m ∷ c) h = omega arith

starts_after_none : (n : ℕ) (c : List ℕ) → StartsBelow n c → Before [] c
starts_after_none n [] h = h
starts_after_none n (m ∷ c) h = tt

starts_headed : (n : ℕ) (ds : List (List ℕ)) → AllByRecursion (StartsBelow n) (headed n ds)
unfolding headed behind
starts_headed zero ds = tt
starts_headed (suc n) ds =
    All-append (StartsBelow (suc n)) (headed n ds) (behind n ds)
    (All-weaker (StartsBelow n) (StartsBelow (suc n)) (starts_weaker n) (headed n ds) (starts_headed n ds))
    (All-map (StartsBelow (suc n)) (λ d. n ∷ d) ds (All-from_get_or (λ d. n < suc n) ds [] (λ _ _. omega arith)))

starts_before_all : (n : ℕ) (ds : List (List ℕ)) (c : List ℕ) → StartsBelow n c → AllByRecursion (Before c) (behind n ds)
unfolding behind
starts_before_all n ds c starts =
    All-map (Before c) (λ d. n ∷ d) ds (All-from_get_or (λ d. Before c (n ∷ d)) ds [] (λ i _. starts_before n c (get_or ds i []) starts))

sorted_headed : (n : ℕ) (ds : List (List ℕ)) → Sorted ds → Sorted (headed n ds)
unfolding headed
sorted_headed zero ds sorted = tt
sorted_headed (suc n) ds sorted =
    sorted_append (headed n ds) (behind n ds) (sorted_headed n ds sorted) (sorted_behind n ds sorted)
    (All-weaker (StartsBelow n) (λ c. AllByRecursion (Before c) (behind n ds)) (starts_before_all n ds) (headed n ds) (starts_headed n ds))

has_headed : (n m : ℕ) (ds : List (List ℕ)) (d : List ℕ) → m < n → ContainsAt ds d → ContainsAt (headed n ds) (m ∷ d)
unfolding headed behind
has_headed zero m ds d below h = absurd (omega arith)
has_headed (suc n) m ds d below h =
    ⊎_elim
    (λ same. has_append_right (headed n ds) (behind n ds) (m ∷ d) (subst (λ k. ContainsAt (behind n ds) (k ∷ d)) (sym same) (has_map (λ e. n ∷ e) ds d h)))
    (λ other. has_append_left (headed n ds) (behind n ds) (m ∷ d) (has_headed n m ds d (omega arith) h))
    (cases_eq m n)

-- all lists of at most so many numbers, each below n
pub lists : ℕ → ℕ → List (List ℕ)
lists zero n = [] ∷ []
lists (suc most) n = [] ∷ headed n (lists most n)

pub sorted_lists : (most n : ℕ) → Sorted (lists most n)
unfolding lists
sorted_lists zero n = (tt, tt)
sorted_lists (suc most) n = (
  All-weaker (StartsBelow n) (Before []) (starts_after_none n) (headed n (lists most n)) (starts_headed n (lists most n)),
  sorted_headed n (lists most n) (sorted_lists most n),
)

pub has_lists : (most n : ℕ) (c : List ℕ) → length c ≤ most → AllByRecursion (λ m. m < n) c → ContainsAt (lists most n) c
unfolding lists
has_lists zero n [] short within = has_get_or ([] ∷ []) 0 [] (omega arith)
has_lists zero n (m ∷ c) short within = absurd (omega arith)
has_lists (suc most) n [] short within = has_get_or ([] ∷ headed n (lists most n)) 0 [] (omega arith)
has_lists (suc most) n (m ∷ c) short within =
    has_append_right ([] ∷ []) (headed n (lists most n)) (m ∷ c) (has_headed n m (lists most n) c within.0 (has_lists most n c (omega arith) within.1))
