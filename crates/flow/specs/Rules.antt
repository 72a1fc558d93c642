-- Dividing rules: what a rule is told and names, its law, and the rules lowest, widest and avoiding. Assumes nothing.
--   Choice     a rule's meaning: the tally, the tonnes left on each line, an account and the lines walked so far, to a line
--   Open       a live line leaving the account that has tonnes left
--   Law        whenever some line is open at the account, the line named is such a line
--   lowest     rule 0: the lowest open line; 0 where none is open
--   widest     rule 1: the open line with most tonnes left, the lowest among equals; 0 where none is open
--   avoiding   the rule that keeps tonnes off a chain while it can
use Rattle.std.specs.Prelude.{◌≡◌, ℕ, ◌-◌, Bool, true, false, cond, not, ◌&&◌, List, [], ◌∷◌, ◌++◌, length, drop, ◌==◌, nat_lt, slice_index}
use Rattle.book.specs.Search.{lowest_of, some_of}
use Rattle.book.specs.Limits.{most_lines}
use Rattle.book.specs.Tally.{Tally, at, WellFormed}
use Rattle.book.specs.Totals.{leaves}
use Rattle.flow.specs.Chains.{from_of, is_chain}

abbrev pub Choice : Type 0
Choice = Tally → List ℕ → ℕ → List ℕ → ℕ

abbrev pub is_open : Tally → List ℕ → ℕ → ℕ → Bool
is_open t left a n = leaves a (at t n) && nat_lt 0 (slice_index left n)

abbrev pub Open : Tally → List ℕ → ℕ → ℕ → Type 0
Open t left a n = is_open t left a n ≡ true

abbrev pub Law : Choice → Type 0
Law choice =
    (t : Tally) (left : List ℕ) (a : ℕ) (walked : List ℕ)
    → WellFormed t
    → length left ≡ most_lines
    → (n : ℕ)
    → Open t left a n
    → Open t left a (choice t left a walked)

abbrev pub lowest : Choice
lowest t left a walked = lowest_of (is_open t left a) 0 0 (length t)

-- whether an open line has more tonnes left than the line n
abbrev pub is_exceeded : Tally → List ℕ → ℕ → ℕ → Bool
is_exceeded t left a n = some_of (λ m. is_open t left a m && nat_lt (slice_index left n) (slice_index left m)) 0 (length t)

abbrev pub widest : Choice
widest t left a walked = lowest_of (λ n. is_open t left a n && not (is_exceeded t left a n)) 0 0 (length t)

abbrev pub same_list : List ℕ → List ℕ → Bool
same_list [] [] = true
same_list [] (n ∷ d) = false
same_list (m ∷ c) [] = false
same_list (m ∷ c) (n ∷ d) = m == n && same_list c d

-- whether the walk ends with the lines given
abbrev pub ends_with : List ℕ → List ℕ → Bool
ends_with walked c = same_list c (drop (length walked - length c) walked)

-- at the account that the line n of the chain leaves: after all lines of the chain before it the lowest other open line,
-- or n if there is none; after any other walk n itself if it has tonnes left
abbrev pub turn : List ℕ → ℕ → Choice
turn front n t left a walked =
    cond
    (ends_with walked front)
    (lowest_of (λ m. is_open t left a m && not (m == n)) n 0 (length t))
    (cond (nat_lt 0 (slice_index left n)) n (lowest t left a walked))

-- the chain by its lines before and from a place on
abbrev pub avoiding_from : List ℕ → List ℕ → Choice
avoiding_from front [] t left a walked = lowest t left a walked
avoiding_from front (n ∷ ns) t left a walked =
    cond (from_of (at t n) == a) (turn front n t left a walked) (avoiding_from (front ++ n ∷ []) ns t left a walked)

abbrev pub avoiding : List ℕ → Choice
avoiding [] t left a walked = lowest t left a walked
avoiding (n ∷ ns) t left a walked =
    cond (is_chain t (n ∷ ns)) (avoiding_from (n ∷ []) ns t left a walked) (lowest t left a walked)
