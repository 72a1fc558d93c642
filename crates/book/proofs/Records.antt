-- Lemmas on the records in a book's table and the lines that they stand for. Assumes nothing.
use Rattle.std.proofs.Common.{◌≡◌, ℕ, zero, suc, ◌<◌, ◌≤◌, true, false, cond, List, [], ◌∷◌, map, length, get_or, take, set, min, refl, ap, ◌∙◌, arith}
use Rattle.std.proofs.lemmas.List.{length-map, length-take, length-take-le, get_or-map, get_or-take, map-set}
use Rattle.book.specs.Records.{line_of, blank, revalued}
use Rattle.book.specs.Tally.{at, with_amount}
use Rattle.book.specs.declared.entries.Line.TheVariants.{Live, Struck}
use Rattle.book.specs.declared.table.Record.{Record}

take_set_in : {X : Type 0} (xs : List X) (n i : ℕ) (y : X) → take n (set xs i y) ≡ set (take n xs) i y
take_set_in [] zero i y = refl
take_set_in [] (suc n) i y = refl
take_set_in (x ∷ xs) zero zero y = refl
take_set_in (x ∷ xs) zero (suc i) y = refl
take_set_in (x ∷ xs) (suc n) zero y = refl
take_set_in (x ∷ xs) (suc n) (suc i) y = ap (λ l. x ∷ l) (take_set_in xs n i y)

pub length-taken : (n : ℕ) (rs : List Record) → length (map line_of (take n rs)) ≡ min n (length rs)
length-taken n rs = length-map (take n rs) line_of ∙ length-take n rs

pub length-lines : (n : ℕ) (rs : List Record) → n ≤ length rs → length (map line_of (take n rs)) ≡ n
length-lines n rs h = length-map (take n rs) line_of ∙ length-take-le n rs h

pub lines-set : (rs : List Record) (n i : ℕ) (r : Record) → i < n → map line_of (take n (set rs i r)) ≡ set (map line_of (take n rs)) i (line_of r)
lines-set rs n i r h = ap (map line_of) (take_set_in rs n i r) ∙ map-set line_of (take n rs) i r

pub at-lines : (rs : List Record) (n i : ℕ) → i < n → i < length rs → at (map line_of (take n rs)) i ≡ line_of (get_or rs i blank)
at-lines rs n i h held =
    get_or-map line_of (take n rs) i blank Struck (omega (arith, length-take n rs)) ∙ ap line_of (get_or-take n rs i blank h)

-- an amended and a struck record stand for the amended and the struck line
pub line_of-revalued : (a : ℕ) (r : Record) → line_of (revalued a r) ≡ with_amount a (line_of r)
line_of-revalued a r = elim r.live as (λ v. cond v (Live r.from r.to a) Struck ≡ with_amount a (cond v (Live r.from r.to r.amount) Struck)) [ true ↦ refl | false ↦ refl ]
