-- The lowest origin that has an open line, over all lines. Assumes nothing.
--   source_at   the account that a line leaves, where the line has tonnes left and no line enters the account
use Rattle.std.proofs.Common.{◌≡◌, ℕ, suc, ◌<◌, Bool, true, false, cond, not, ◌&&◌, ltb, min, List, Some, None, Option, MatchOption, length, get_or, sym, ap, ◌∙◌, subst, ⊎_elim, arith}
use Rattle.std.proofs.lemmas.Bool.{and_from, and_parts, both_ways, cases_Bool, cases_lt, cond-true, cond-false, lt-ltb, ltb-true, not-true, not_from_false}
use Rattle.std.specs.List.{filter_map, range_with_len, reduce}
use Rattle.book.proofs.Balance.{touched, touching}
use Rattle.book.specs.Tally.{Tally, at, is_live, WellFormed}
use Rattle.book.specs.Totals.{any, enters, in_total}
use Rattle.book.specs.declared.table.Side.TheVariants.{In}
use Rattle.dividing.proofs.Least.{NoneOf, LeastOf, reduce_least}
use Rattle.dividing.specs.Sources.{NextSource, SourceOf}
use Rattle.flow.proofs.ChainFacts.{leaves_from, leaves_own, leaves_some, leaves_within}
use Rattle.flow.proofs.RuleLaws.{open_from, open_leaves, open_some}
use Rattle.flow.proofs.Sums.{false_unless}
use Rattle.flow.proofs.Walks.{Fair, open_origin}
use Rattle.flow.specs.Chains.{from_of}

module _ (t : Tally) (left : List ℕ) where
  pub source_entered : (n from : ℕ) → from ≡ from_of (at t n) → 0 < in_total t from → SourceOf t left n None
  source_entered n from is some b origin opened =
      let same : from ≡ b = is ∙ leaves_from b (at t n) (open_leaves t left b n opened) in
      both_ways (any (enters b) t) origin.unentered (touching In b t (subst (λ a. 0 < in_total t a) same some))

  module _ (well : WellFormed t) (fair : Fair t left) where
    some_live : (n : ℕ) → 0 < get_or left n 0 → is_live (at t n) ≡ true
    some_live n some = ⊎_elim (λ live. live) (λ struck. absurd (omega (arith, fair.spent n struck))) (cases_Bool (is_live (at t n)))

    origin_open : (n : ℕ) → 0 < get_or left n 0 → any (enters (from_of (at t n))) t ≡ false → SourceOf t left n (Some (from_of (at t n)))
    origin_open n some unentered =
        let from = from_of (at t n) in
        let out = leaves_own (at t n) (some_live n some) in
        (record { left = leaves_some t from n out; unentered = unentered }, open_from t left from n out some)

    pub source_found : (n from : ℕ) → from ≡ from_of (at t n) → in_total t from ≡ 0 → 0 < get_or left n 0 → SourceOf t left n (Some from)
    source_found n from is none some =
        let unentered = false_unless (any (enters from) t) (λ entered. omega (arith, (touched In from t well.1 entered).0)) in
        subst (λ a. SourceOf t left n (Some a)) (sym is) (origin_open n some (subst (λ a. any (enters a) t ≡ false) is unentered))

    abbrev begins : ℕ → Bool
    begins n = ltb 0 (get_or left n 0) && not (any (enters (from_of (at t n))) t)

    abbrev pub source_at : ℕ → Option ℕ
    source_at n = cond (begins n) (Some (from_of (at t n))) None

    pub source_is : (n : ℕ) (r : Option ℕ) → SourceOf t left n r → r ≡ source_at n
    source_is n None none =
        sym (cond-false (begins n) _ _ (false_unless (begins n) (λ yes.
        let both = and_parts (ltb 0 (get_or left n 0)) (not (any (enters (from_of (at t n))) t)) yes in
        let source = origin_open n (ltb-true 0 (get_or left n 0) both.0) (not-true (any (enters (from_of (at t n))) t) both.1) in
        none (from_of (at t n)) source.0 source.1)))
    source_is n (Some a) (origin, opened) =
        let same : from_of (at t n) ≡ a = leaves_from a (at t n) (open_leaves t left a n opened) in
        let unentered : any (enters (from_of (at t n))) t ≡ false = ap (λ b. any (enters b) t) same ∙ origin.unentered in
        let yes = and_from (ltb 0 (get_or left n 0)) (not (any (enters (from_of (at t n))) t)) (lt-ltb 0 (get_or left n 0) (open_some t left a n opened)) (not_from_false (any (enters (from_of (at t n))) t) unentered) in
        sym (cond-true (begins n) _ _ yes ∙ ap Some same)

    source_from : (n a : ℕ) → source_at n ≡ Some a → SourceOf t left n (Some a)
    source_from n a gave =
        ⊎_elim
        (λ yes.
        let both = and_parts (ltb 0 (get_or left n 0)) (not (any (enters (from_of (at t n))) t)) yes in
        let one = cond-true (begins n) (Some (from_of (at t n))) None yes in
        let same : from_of (at t n) ≡ a = cc in
        subst (λ b. SourceOf t left n (Some b)) same (origin_open n (ltb-true 0 (get_or left n 0) both.0) (not-true (any (enters (from_of (at t n))) t) both.1)))
        (λ no. let none = cond-false (begins n) (Some (from_of (at t n))) None no in absurd cc)
        (cases_Bool (begins n))

    -- over all lines
    all_sources : (r : Option ℕ) → MatchOption r (NoneOf source_at 0 (length t)) (LeastOf source_at 0 (length t)) → NextSource t left r
    all_sources None none =
        λ n.
        ⊎_elim
        (λ some.
        let from = open_origin t left well fair (suc (from_of (at t n))) n (omega arith) (some_live n some) some in
        let m = from.1 in
        let gave = none m (omega arith) (omega (arith, leaves_within t from.0 m (open_leaves t left from.0 m from.3))) in
        let one = source_is m (Some from.0) (from.2, from.3) in
        absurd cc)
        (λ nothing. omega arith)
        (cases_lt 0 (get_or left n 0))
    all_sources (Some a) least =
        let f = least.found in
        let source = source_from f.0 a f.3 in
        record {
          origin = source.0;
          some_open = (f.0, source.1);
          lowest = λ b n lt origin opened.
              omega (arith, least.bound n b (omega arith) (omega (arith, leaves_within t b n (open_leaves t left b n opened))) (sym (source_is n (Some b) (origin, opened))));
        }

    pub next_is : (n : ℕ) (r : Option ℕ) → n ≡ length t → r ≡ reduce min (filter_map source_at (range_with_len 0 n)) → NextSource t left r
    next_is n r long is =
        subst (NextSource t left) (sym (is ∙ ap (λ k. reduce min (filter_map source_at (range_with_len 0 k))) long)) (all_sources _ (reduce_least source_at (length t) 0))
