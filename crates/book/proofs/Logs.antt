-- The steps of a run of the calls of a log. Assumes nothing.
use Rattle.std.proofs.Common.{◌≡◌, ℕ, ◌+◌, ◌<◌, ◌≤◌, List, [], ◌∷◌, ◌++◌, map, length, get_or, take, drop, set, Some, Option, sym, refl, ap, ◌∙◌, subst}
use Rattle.std.proofs.lemmas.List.{at_drop_more, at_drop_all, append_assoc, append-nil, get_or-map, length-map, map_push, map-set, set-get_or, take_all, take_more_set}
use Rattle.book.specs.Outcome.{Outcome}
use Rattle.book.specs.Logs.{calls_of, outcome_of, reported, Entered}
use Rattle.book.specs.Tally.{Tally, tally, outcomes, outcome, after}
use Rattle.book.specs.declared.entries.Call.{Call}
use Rattle.book.specs.declared.run.Entry.{Entry}

-- what the log will have of the calls from a tally on
abbrev ahead : Tally → List Call → List (Option Outcome)
ahead t calls = map Some (outcomes t calls)

-- after the first i calls the tally is t, and the log stands as it does
pub record Half (calls : List Call) (i : ℕ) (t : Tally) (log : List Entry) : Type 0 where
  pub calls_so : calls_of log ≡ calls
  pub outcomes_so : reported (take i log) ++ ahead t (drop i calls) ≡ ahead [] calls
  pub tally_so : tally t (drop i calls) ≡ tally [] calls

pub half_none : (log : List Entry) (t : Tally) → t ≡ [] → Half (calls_of log) 0 t log
half_none log t e = record {
  calls_so = refl;
  outcomes_so = ap (λ u. ahead u (calls_of log)) e;
  tally_so = ap (λ u. tally u (calls_of log)) e;
}

-- one call more
pub half_more : (calls : List Call) (i : ℕ) (t u : Tally) (log : List Entry) (d made : Entry) → i < length log → Half calls i t log → Entered t (get_or log i d) made → u ≡ after t (get_or log i d).call → Half calls (i + 1) u (set log i made)
half_more calls i t u log d made within half entered after-so =
    let asked = get_or log i d in
    let kept : get_or (calls_of log) i made.call ≡ made.call = get_or-map (λ e. e.call) log i d made.call within ∙ sym entered.call_kept in
    let here : get_or calls i asked.call ≡ asked.call = ap (λ cs. get_or cs i asked.call) (sym half.calls_so) ∙ get_or-map (λ e. e.call) log i d asked.call within in
    let inside : i < length calls = subst (λ cs. i < length cs) half.calls_so (subst (λ n. i < n) (sym (length-map log (λ e. e.call))) within) in
    let rest = drop (i + 1) calls in
    let so_far = reported (take i log) in
    record {
      calls_so = map-set (λ e. e.call) log i made ∙ (ap (set (calls_of log) i) (sym kept) ∙ (set-get_or (calls_of log) i made.call ∙ half.calls_so));
      outcomes_so =
          ap (λ l. reported l ++ ahead u rest) (take_more_set log i made within)
          ∙ (ap (λ l. l ++ ahead u rest) (map_push (λ e. outcome_of e.answer) (take i log) made)
          ∙ (append_assoc so_far (outcome_of made.answer ∷ []) (ahead u rest)
          ∙ (ap (λ o. so_far ++ o ∷ ahead u rest) entered.answer_told
          ∙ (ap (λ v. so_far ++ Some (outcome t asked.call) ∷ ahead v rest) after-so
          ∙ (ap (λ c. so_far ++ Some (outcome t c) ∷ ahead (after t c) rest) (sym here)
          ∙ (ap (λ l. so_far ++ l) (sym (at_drop_more (ahead t) calls i asked.call inside)) ∙ half.outcomes_so))))));
      tally_so =
          ap (λ v. tally v rest) after-so
          ∙ (ap (λ c. tally (after t c) rest) (sym here) ∙ (sym (at_drop_more (tally t) calls i asked.call inside) ∙ half.tally_so));
    }

pub half_all : (calls : List Call) (i : ℕ) (t : Tally) (log : List Entry) → length log ≤ i → Half calls i t log → (reported log ≡ ahead [] calls) × (t ≡ tally [] calls)
half_all calls i t log past half =
    let over : length calls ≤ i = subst (λ cs. length cs ≤ i) half.calls_so (subst (λ n. n ≤ i) (sym (length-map log (λ x. x.call))) past) in (
      sym (append-nil (reported log))
          ∙ (ap (λ l. reported l ++ []) (sym (take_all i log past))
          ∙ (ap (λ l. reported (take i log) ++ l) (sym (at_drop_all (ahead t) calls i over)) ∙ half.outcomes_so)),
      sym (at_drop_all (tally t) calls i over) ∙ half.tally_so,
    )
