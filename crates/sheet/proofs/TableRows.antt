-- The rows of a split as they stand in the table. Assumes nothing.
use Rattle.std.proofs.Common.{◌≡◌, ℕ, zero, suc, ◌+◌, ◌*◌, ◌<◌, ◌≤◌, List, [], ◌∷◌, ◌++◌, length, get_or, take, drop, sym, refl, ap, ◌∙◌, arith}
use Rattle.std.proofs.ByRecursion.{All-get_or}
use Rattle.std.proofs.lemmas.List.{append_assoc, take-append-le, drop-append-le, length-take-le, length-drop, get_or_append_left, get_or-append_right, get_or-take, get_or-drop, same_lists}
use Rattle.std.specs.List.{AllByRecursion}
use Rattle.book.specs.Overlay.{laid, over}
use Rattle.dividing.specs.Tables.{row_stride, written}
use Rattle.flow.specs.Chains.{longest_chain}
use Rattle.flow.specs.Splits.{Row}
use Rattle.sheet.specs.Rows.{row_in}
use Rattle.sheet.specs.Statements.{row_of}
use Rattle.sheet.proofs.Laid.{length-laid}

module _ (t : List ℕ) (p : ℕ) (x : List ℕ) (fits : p + length x ≤ length t) where
  laid_before : (j d : ℕ) → j < p → get_or (laid t p x) j d ≡ get_or t j d
  laid_before j d h =
      let n = length-take-le p t (omega arith) in
      get_or_append_left (take p t) (x ++ drop (p + length x) t) d j (omega arith) ∙ get_or-take p t j d h

  laid_in : (j d : ℕ) → j < length x → get_or (laid t p x) (p + j) d ≡ get_or x j d
  laid_in j d h =
      let n = length-take-le p t (omega arith) in
      get_or-append_right (take p t) (x ++ drop (p + length x) t) p (p + j) d n (omega arith)
      ∙ (ap (λ k. get_or (x ++ drop (p + length x) t) k d) (omega arith) ∙ get_or_append_left x (drop (p + length x) t) d j h)

-- no row is longer than its part of the table
abbrev Short : List Row → Type 0
Short rows = AllByRecursion (λ r. length r.chain ≤ longest_chain) rows

written_long : (t : List ℕ) (k : ℕ) (rows : List Row) → Short rows → row_stride * (k + length rows) ≤ length t → length (written t k rows) ≡ length t
written_long t k [] short fits = refl
written_long t k (r ∷ rows) (one, short) fits =
    let n = length-laid t (row_stride * k) (length r.chain ∷ r.chain) (omega arith) in
    written_long (laid t (row_stride * k) (length r.chain ∷ r.chain)) (k + 1) rows short (omega (arith, n)) ∙ n

-- what is written into the first part of a table is written into the table
laid_on : (t z : List ℕ) (p : ℕ) (x : List ℕ) → p + length x ≤ length t → laid (t ++ z) p x ≡ laid t p x ++ z
laid_on t z p x fits =
    ap (λ y. y ++ (x ++ drop (p + length x) (t ++ z))) (take-append-le p t z (omega arith))
    ∙ (ap (λ y. take p t ++ (x ++ y)) (drop-append-le (p + length x) t z fits)
    ∙ (ap (λ y. take p t ++ y) (sym (append_assoc x (drop (p + length x) t) z))
    ∙ sym (append_assoc (take p t) (x ++ drop (p + length x) t) z)))

pub written_on : (t z : List ℕ) (k : ℕ) (rows : List Row) → Short rows → row_stride * (k + length rows) ≤ length t → written (t ++ z) k rows ≡ written t k rows ++ z
written_on t z k [] short fits = refl
written_on t z k (r ∷ rows) (one, short) fits =
    let x : List ℕ = length r.chain ∷ r.chain in
    let n = length-laid t (row_stride * k) x (omega arith) in
    ap (λ y. written y (k + 1) rows) (laid_on t z (row_stride * k) x (omega arith))
    ∙ written_on (laid t (row_stride * k) x) z (k + 1) rows short (omega (arith, n))

pub over_on : (t z x : List ℕ) → length x ≤ length t → over (t ++ z) x ≡ over t x ++ z
over_on t z x fits = ap (λ y. x ++ y) (drop-append-le (length x) t z fits) ∙ sym (append_assoc x (drop (length x) t) z)

written_before : (t : List ℕ) (k : ℕ) (rows : List Row) → Short rows → row_stride * (k + length rows) ≤ length t → (j d : ℕ) → j < row_stride * k → get_or (written t k rows) j d ≡ get_or t j d
written_before t k [] short fits j d h = refl
written_before t k (r ∷ rows) (one, short) fits j d h =
    let x : List ℕ = length r.chain ∷ r.chain in
    let n = length-laid t (row_stride * k) x (omega arith) in
    written_before (laid t (row_stride * k) x) (k + 1) rows short (omega (arith, n)) j d (omega arith) ∙ laid_before t (row_stride * k) x (omega arith) j d h

written_at : (t : List ℕ) (k : ℕ) (rows : List Row) → Short rows → row_stride * (k + length rows) ≤ length t → (i j d : ℕ) → i < length rows → j < length (row_of rows i).chain + 1 → get_or (written t k rows) (row_stride * (k + i) + j) d ≡ get_or (length (row_of rows i).chain ∷ (row_of rows i).chain) j d
written_at t k [] short fits i j d h g = absurd (omega arith)
written_at t k (r ∷ rows) (one, short) fits zero j d h g =
    let x : List ℕ = length r.chain ∷ r.chain in
    let n = length-laid t (row_stride * k) x (omega arith) in
    ap (λ m. get_or (written (laid t (row_stride * k) x) (k + 1) rows) m d) (omega arith)
    ∙ (written_before (laid t (row_stride * k) x) (k + 1) rows short (omega (arith, n)) (row_stride * k + j) d (omega arith) ∙ laid_in t (row_stride * k) x (omega arith) j d (omega arith))
written_at t k (r ∷ rows) (one, short) fits (suc i) j d h g =
    let x : List ℕ = length r.chain ∷ r.chain in
    let n = length-laid t (row_stride * k) x (omega arith) in
    ap (λ m. get_or (written (laid t (row_stride * k) x) (k + 1) rows) m d) (omega arith)
    ∙ written_at (laid t (row_stride * k) x) (k + 1) rows short (omega (arith, n)) i j d (omega arith) g

module _ (t : List ℕ) (rows : List Row) (short : Short rows) (fits : row_stride * length rows ≤ length t) (i : ℕ) (within : i < length rows) where
  at_row : (j d : ℕ) → j < length (row_of rows i).chain + 1 → get_or (written t 0 rows) (row_stride * i + j) d ≡ get_or (length (row_of rows i).chain ∷ (row_of rows i).chain) j d
  at_row j d h = ap (λ m. get_or (written t 0 rows) m d) (omega arith) ∙ written_at t 0 rows short (omega arith) i j d within h

  pub row_length : get_or (written t 0 rows) (row_stride * i) 0 ≡ length (row_of rows i).chain
  row_length = ap (λ m. get_or (written t 0 rows) m 0) (omega arith) ∙ at_row 0 0 (omega arith)

  pub row_short : length (row_of rows i).chain ≤ longest_chain
  row_short = All-get_or (λ r. length r.chain ≤ longest_chain) rows i (record { chain = []; tonnes = 0 }) within short

  pub row_lines : row_in (written t 0 rows) i ≡ (row_of rows i).chain
  row_lines =
      let table : List ℕ = written t 0 rows in
      let rest : List ℕ = drop (row_stride * i + 1) table in
      let long = written_long t 0 rows short (omega arith) in
      let enough : length (row_of rows i).chain ≤ length rest = omega (arith, long, row_short, length-drop (row_stride * i + 1) table) in
      ap (λ n. take n rest) row_length
      ∙ same_lists (take (length (row_of rows i).chain) rest) (row_of rows i).chain (length-take-le (length (row_of rows i).chain) rest enough)
      (λ j d h.
      let within' : j < length (row_of rows i).chain = omega (arith, length-take-le (length (row_of rows i).chain) rest enough) in
      get_or-take (length (row_of rows i).chain) rest j d within'
      ∙ (get_or-drop (row_stride * i + 1) table j d ∙ (ap (λ m. get_or table m d) (omega arith) ∙ at_row (suc j) d (omega arith))))
