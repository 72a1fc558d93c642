-- A walk under a rule, line by line. Assumes nothing.
--   Walking   the walk so far: it goes on to a whole walk wherever the rest of it does
use Rattle.std.proofs.Common.{◌≡◌, ℕ, ◌<◌, ◌≤◌, min, false, ◌⊎◌, List, [], ◌∷◌, ◌++◌, length, get_or, sym, refl, ap, ◌∙◌, subst, inr, ⊎_elim, arith}
use Rattle.std.proofs.lemmas.List.{append_assoc, append-nil, length_push}
use Rattle.std.proofs.lemmas.Bool.{both_ways}
use Rattle.book.proofs.Balance.{touched}
use Rattle.book.specs.Limits.{accounts}
use Rattle.book.specs.Tally.{Tally, WellFormed}
use Rattle.book.specs.Totals.{any, leaves, Leaves, out_total}
use Rattle.book.specs.declared.table.Side.TheVariants.{Out}
use Rattle.dividing.specs.Rows.{Followed, Walked}
use Rattle.dividing.specs.Sources.{LowestSource}
use Rattle.flow.proofs.Sums.{false_unless}
use Rattle.flow.proofs.Walks.{Fair, open_on}
use Rattle.flow.specs.Dividing.{Walk, least_left}
use Rattle.flow.specs.Rules.{Choice, Open}

least_left_push : (left : List ℕ) (w : List ℕ) (n : ℕ) → 0 < length w → least_left left (w ++ n ∷ []) ≡ min (least_left left w) (get_or left n 0)
least_left_push left [] n some = absurd (omega arith)
least_left_push left (m ∷ []) n some = refl
least_left_push left (m ∷ k ∷ w) n some = omega (arith, least_left_push left (k ∷ w) n (omega arith))

abbrev greatest : ℕ
greatest = 4_294_967_295

pub record Walking (choice : Choice) (t : Tally) (left : List ℕ) (start account : ℕ) (lines : List ℕ) (least : ℕ) : Type 0 where
  pub goes : (rest : List ℕ) → Walk choice t left account lines rest → Walk choice t left start [] (lines ++ rest)
  pub opened : Leaves t account → (n : ℕ) × Open t left account n
  pub placed : account < accounts
  pub risen : length lines ≤ account
  pub least_so : ((lines ≡ []) × (least ≡ greatest)) ⊎ ((0 < length lines) × (least ≡ least_left left lines))

module _ (choice : Choice) (t : Tally) (left : List ℕ) (start : ℕ) (well : WellFormed t) (fair : Fair t left) (source : LowestSource t left start) where
  module _ (account least : ℕ) (lines : List ℕ) (so : Walking choice t left start account lines least) where
    least_more : (line tonnes : ℕ) → tonnes ≤ greatest → tonnes ≡ get_or left line 0 → min least tonnes ≡ least_left left (lines ++ line ∷ [])
    least_more line tonnes small is =
        ⊎_elim
        (λ none. omega (arith, none.1, is, ap (λ l. least_left left (l ++ line ∷ [])) none.0))
        (λ some. omega (arith, some.1, is, least_left_push left lines line some.0))
        so.least_so

    walking_next : (walked : List ℕ) (line to tonnes : ℕ) → walked ≡ lines → tonnes ≤ greatest → Followed choice t left account walked line to tonnes → Walking choice t left start to (lines ++ line ∷ []) (min least tonnes)
    walking_next walked line to tonnes told small f =
        let grown = length_push lines line in
        let named : line ≡ choice t left account lines = f.named ∙ ap (choice t left account) told in
        record {
          goes = λ rest walk.
              subst (Walk choice t left start []) (sym (append_assoc lines (line ∷ []) rest)) (so.goes (line ∷ rest) (named, f.is_open, subst (λ a. Walk choice t left a (lines ++ line ∷ []) rest) f.entered walk));
          opened = λ on.
              let r = open_on t left well fair account line f.is_open (subst (Leaves t) f.entered on) in
              (r.0, subst (λ a. Open t left a r.0) (sym f.entered) r.1);
          placed = f.placed;
          risen = omega (arith, grown, so.risen, f.rising);
          least_so = inr (omega (arith, grown), least_more line tonnes small f.tonnes_left);
        }

    pub walking_more : (walked grown : List ℕ) (line to tonnes lesser : ℕ) → walked ≡ lines → tonnes ≤ greatest → Followed choice t left account walked line to tonnes → grown ≡ lines ++ line ∷ [] → lesser ≡ min least tonnes → Walking choice t left start to grown lesser
    walking_more walked all line to tonnes lesser told small f more less =
        subst (λ l. Walking choice t left start to l lesser) (sym more) (subst (Walking choice t left start to (lines ++ line ∷ [])) (sym less) (walking_next walked line to tonnes told small f))

    pub walking_all : out_total t account ≡ 0 → Walked choice t left start lines least
    walking_all none =
        let unleft : any (leaves account) t ≡ false = false_unless (any (leaves account) t) (λ on. omega (arith, (touched Out account t well.1 on).0)) in
        let walk = subst (Walk choice t left start []) (append-nil lines) (so.goes [] unleft) in
        record {
          walk = walk;
          short = omega (arith, so.risen, so.placed);
          least_left_is = ⊎_elim (λ empty. absurd (both_ways (any (leaves start) t) (subst (Walk choice t left start []) empty.0 walk) source.origin.left)) (λ some. some.1) so.least_so;
        }
