-- The excess of a chain by its last line. Assumes nothing.
use Rattle.std.proofs.Common.{◌≡◌, ℕ, ◌+◌, ◌<◌, List, [], ◌∷◌, ◌++◌, length, get_or, take, ℤ, pos, sym, refl, ap, ◌∙◌, arith}
use Rattle.std.proofs.lemmas.List.{take_more, take_all, length-take}
use Rattle.book.specs.Tally.{Tally, at}
use Rattle.book.specs.Totals.{amount_of}
use Rattle.flow.specs.Excess.{excess, excess_on, joined}

excess_on_last : (t : Tally) (e : ℤ) (c : List ℕ) (n : ℕ) → excess_on t e (c ++ n ∷ []) ≡ joined t (excess_on t e c) n
excess_on_last t e [] n = refl
excess_on_last t e (m ∷ c) n = excess_on_last t (joined t e m) c n

pub excess_last : (t : Tally) (c : List ℕ) (n : ℕ) → 0 < length c → excess t (c ++ n ∷ []) ≡ joined t (excess t c) n
excess_last t [] n some = absurd (omega arith)
excess_last t (m ∷ c) n some = excess_on_last t (pos (amount_of (at t m))) c n

-- a chain of two or more lines, by its front and its last line
pub excess_front : (t : Tally) (c : List ℕ) (k : ℕ) → 0 < k → length c ≡ k + 1 → excess t c ≡ joined t (excess t (take k c)) (get_or c k 0)
excess_front t c k some long =
    let whole : c ≡ take k c ++ get_or c k 0 ∷ [] = sym (take_all (k + 1) c (omega arith)) ∙ take_more c k 0 (omega arith) in
    ap (excess t) whole ∙ excess_last t (take k c) (get_or c k 0) (simp length-take (omega arith))
