-- Bytes put on a page one after the other. Assumes nothing.
use Rattle.std.proofs.Common.{◌≡◌, ℕ, ◌+◌, ◌≤◌, List, ◌++◌, length, take, drop, sym, ap, ◌∙◌, arith}
use Rattle.std.proofs.lemmas.List.{append_assoc, length-append, length-take-le, length-drop, take_at, drop_at, drop-drop}
use Rattle.book.specs.Overlay.{laid, over}
use Rattle.sheet.specs.Page.{Put}

pub length-laid : (page : List ℕ) (at : ℕ) (a : List ℕ) → at + length a ≤ length page → length (laid page at a) ≡ length page
length-laid page at a fits =
    length-append (take at page) (a ++ drop (at + length a) page)
    ∙ omega (arith, length-take-le at page (omega arith), length-append a (drop (at + length a) page), length-drop (at + length a) page)

module _ (page : List ℕ) (at : ℕ) (a b : List ℕ) (fits : at + length a ≤ length page) where
  abbrev front : List ℕ
  front = take at page ++ a

  regrouped : laid page at a ≡ front ++ drop (at + length a) page
  regrouped = sym (append_assoc (take at page) a (drop (at + length a) page))

  front_long : length front ≡ at + length a
  front_long = length-append (take at page) a ∙ ap (λ n. n + length a) (length-take-le at page (omega arith))

  pub laid-laid : laid (laid page at a) (at + length a) b ≡ laid page at (a ++ b)
  laid-laid =
      ap (λ p. laid p (at + length a) b) regrouped
      ∙ (ap (λ z. z ++ (b ++ drop (at + length a + length b) (front ++ drop (at + length a) page))) (take_at front (drop (at + length a) page) (at + length a) front_long)
      ∙ (ap (λ z. front ++ (b ++ z)) dropped ∙ (append_assoc (take at page) a (b ++ drop (at + length (a ++ b)) page) ∙ ap (λ z. take at page ++ z) (sym (append_assoc a b (drop (at + length (a ++ b)) page))))))
    where
      dropped : drop (at + length a + length b) (front ++ drop (at + length a) page) ≡ drop (at + length (a ++ b)) page
      dropped =
          sym (drop-drop (length b) (at + length a) (front ++ drop (at + length a) page))
          ∙ (ap (drop (length b)) (drop_at front (drop (at + length a) page) (at + length a) front_long)
          ∙ (drop-drop (length b) (at + length a) page ∙ ap (λ n. drop n page) (omega (arith, length-append a b))))

-- what is put right behind what was put
pub put_then : {page a b p q : List ℕ} {at r s : ℕ} → Put page at a p r → Put p r b q s → Put page at (a ++ b) q s
put_then {page} {a} {b} {p} {q} {at} {r} {s} one two = record {
  page = two.page ∙ (ap (λ z. laid z r b) one.page ∙ (ap (λ k. laid (laid page at a) k b) one.place ∙ laid-laid page at a b one.within));
  place = omega (arith, one.place, two.place, length-append a b);
  within = omega (arith, one.place, two.within, ap length one.page ∙ length-laid page at a one.within, length-append a b);
}

pub over_from_put : (page bs p : List ℕ) (r : ℕ) → Put page 0 bs p r → (p ≡ over page bs) × (r ≡ length bs)
over_from_put page bs p r put = (put.page ∙ ap (λ n. bs ++ drop n page) (omega arith), omega (arith, put.place))
