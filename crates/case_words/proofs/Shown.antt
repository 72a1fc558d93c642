-- Texts that are written one part after the other.
use Rattle.std.proofs.Common.{◌≡◌, ℕ, zero, suc, ◌+◌, ◌*◌, ◌<◌, ◌≤◌, min, List, [], ◌∷◌, ◌++◌, length, get_or, take, drop, codes, decimal, refl, sym, ap, ◌∙◌, arith, append-nil, length-drop}
use Rattle.std.proofs.lemmas.Bool.{cond_below, cond_above}
use Rattle.std.proofs.lemmas.List.{drop_more, drop-drop, flat_map_more, map-id}
use Rattle.std.proofs.lemmas.List.FromFn.{map-range_with_len_more}
use Rattle.std.specs.List.{range_with_len}
use Rattle.std.specs.Prelude.{flat_map, slice_index}
use Rattle.case_words.specs.Shown.{numbers_text, total_text, accounts_text, row_at, row_text, first_rows_text}

-- what comes off the front of a list, and what it leaves
front_is : (n : ℕ) (front rest : List ℕ) → length front ≡ min n (length (front ++ rest)) → (take n (front ++ rest) ≡ front) × (drop n (front ++ rest) ≡ rest)
front_is zero [] rest h = (refl, refl)
front_is zero (x ∷ front) rest h = absurd (omega arith)
front_is (suc n) [] [] h = (refl, refl)
front_is (suc n) [] (x ∷ rest) h = absurd (omega arith)
front_is (suc n) (x ∷ front) rest h = let (taken, left) = front_is n front rest (omega arith) in (ap (λ xs. x ∷ xs) taken, left)

-- a chunk of so many entries, and what stands behind it
pub chunk_is : (size k : ℕ) (entries : List ℕ) (stride : ℕ) (left chunk behind : List ℕ) → stride ≡ size → left ≡ drop (size * k) entries → left ≡ chunk ++ behind → length chunk ≡ min stride (length left) → 0 < length left
    → (chunk ≡ take size (drop (size * k) entries)) × (behind ≡ drop (size * (k + 1)) entries) × (size * k < length entries)
chunk_is size k entries stride left chunk behind same from parts long some =
    let front = front_is size chunk behind (rw (same, parts) at long) in
    let split = sym from ∙ parts in
    let next : size * k + size ≡ size * (k + 1) = omega arith in
    (sym front.0 ∙ ap (take size) (sym split), sym front.1 ∙ ap (drop size) (sym split) ∙ drop-drop size (size * k) entries ∙ ap (λ n. drop n entries) next, omega (arith, length-drop (size * k) entries, ap length from))

-- the number at a place, and what stands behind it
pub next_is : (k : ℕ) (numbers : List ℕ) (x : ℕ) (rest : List ℕ) → drop k numbers ≡ x ∷ rest → (get_or numbers k 0 ≡ x) × (drop (k + 1) numbers ≡ rest) × (k < length numbers)
next_is k numbers x rest h =
    let within : k < length numbers = omega (arith, ap length h, length-drop k numbers) in
    let here = drop_more numbers k 0 within in
    (cc, cc, within)

-- one text more
texts_more : (text : ℕ → List ℕ) (n : ℕ) → flat_map text (range_with_len 0 n) ++ text n ≡ flat_map text (range_with_len 0 (n + 1))
texts_more text n =
    let more : range_with_len 0 (n + 1) ≡ range_with_len 0 n ++ n ∷ [] = simp map-id at (map-range_with_len_more (λ i. i) 0 n n (omega arith)) in
    flat_map_more text [] (range_with_len 0 n) n ∙ ap (flat_map text) (sym more)

-- one account more, where its total is above 0, and where it is 0
pub accounts_more : (totals : List ℕ) (n : ℕ) → 0 < slice_index totals n → accounts_text totals n ++ (decimal n ++ (codes ":" ++ (decimal (slice_index totals n) ++ codes " "))) ≡ accounts_text totals (n + 1)
accounts_more totals n some =
    ap (λ shown. accounts_text totals n ++ shown) (cond_below 0 (slice_index totals n) (decimal n ++ (codes ":" ++ (decimal (slice_index totals n) ++ codes " "))) [] some)
    ∙ texts_more (λ account. total_text account (slice_index totals account)) n

pub accounts_same : (totals : List ℕ) (n : ℕ) → slice_index totals n ≤ 0 → accounts_text totals n ≡ accounts_text totals (n + 1)
accounts_same totals n none =
    sym (append-nil (accounts_text totals n))
    ∙ ap (λ shown. accounts_text totals n ++ shown) (cond_above 0 (slice_index totals n) (decimal n ++ (codes ":" ++ (decimal (slice_index totals n) ++ codes " "))) [] [] none refl)
    ∙ texts_more (λ account. total_text account (slice_index totals account)) n

-- one row more
pub rows_more : (rows tonnes : List ℕ) (k : ℕ) (chunk lines : List ℕ) (entry : ℕ) → chunk ≡ row_at rows k → slice_index tonnes k ≡ entry → lines ≡ take (slice_index chunk 0) (drop 1 chunk)
    → first_rows_text rows tonnes k ++ (codes "; " ++ (decimal entry ++ (codes " on" ++ numbers_text lines))) ≡ first_rows_text rows tonnes (k + 1)
rows_more rows tonnes k chunk lines entry row is counted =
    let all = counted ∙ ap (λ entries. take (slice_index entries 0) (drop 1 entries)) row in
    ap (λ shown. first_rows_text rows tonnes k ++ shown) (λ i. codes "; " ++ (decimal (sym is i) ++ (codes " on" ++ numbers_text (all i))))
    ∙ texts_more (λ i. row_text (row_at rows i) (slice_index tonnes i)) k
