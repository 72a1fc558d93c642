-- A sheet has one statement. Assumes nothing.
use Rattle.std.proofs.Common.{◌≡◌, ℕ, List, [], ◌∷◌, codes, sym, refl, ap, ◌∙◌, subst, inl, inr, arith}
use Rattle.std.proofs.lemmas.Bool.{both_ways}
use Rattle.book.specs.Outcome.{Outcome, answers, refuses, stopped}
use Rattle.book.specs.Totals.{balance_stops}
use Rattle.flow.proofs.Divided.{divides_alone}
use Rattle.flow.proofs.Listed.{first_after_same}
use Rattle.flow.specs.Dividing.{amounts}
use Rattle.flow.specs.Excess.{figure}
use Rattle.flow.specs.Splits.{Row}
use Rattle.sheet.specs.Commands.{Meaning, post, amend, strike, clear, note, list, divide}
use Rattle.sheet.specs.Reading.{Reading, end, read, refused, reading}
use Rattle.sheet.specs.Statements.{State, text_line, chain_text, rule_of, lists, list_stopped, Lists, Rowed, Divides, Obeyed, Answered, Prints, Over, Rest}

-- two lines and two states are the same
pub record Same (l m : List ℕ) (b c : State) : Type 0 where
  pub lines_same : l ≡ m
  pub states_same : b ≡ c

both : (l m k : List ℕ) (b c d : State) → (l ≡ k) → (m ≡ k) → (b ≡ d) → (c ≡ d) → Same l m b c
both l m k b c d p q r s = record { lines_same = p ∙ sym q; states_same = r ∙ sym s }

module _ (a : State) (l m : List ℕ) (b c : State) (q : ℕ) where
  lists_same : (w : ℕ) (o : Outcome) → Lists a l b q w o → Lists a m c q w o → Same l m b c
  lists_same w (refuses layer n vs) (p, r) (p', r') = both l m _ b c _ p p' r r'
  lists_same w (answers vs) (inl (d, first, text, state)) (inl (e, first', text', state')) =
      let same : e ≡ d = first_after_same a.tally w a.last d e first first' in
      both l m _ b c _ text (text' ∙ ap (λ z. text_line (chain_text (codes "certain ") (figure a.tally z) z)) same) state (state' ∙ ap (lists a) same)
  lists_same w (answers vs) (inl (d, first, text, state)) (inr (none, rest)) = absurd (none d first.greatest first.after)
  lists_same w (answers vs) (inr (none, rest)) (inl (d, first, text, state)) = absurd (none d first.greatest first.after)
  lists_same w (answers vs) (inr (none, (p, r))) (inr (none', (p', r'))) = both l m _ b c _ p p' r r'

  rowed_same : (rows : List Row) → Rowed a l b q rows → Rowed a m c q rows → Same l m b c
  rowed_same rows (inl (h, p, r)) (inl (h', p', r')) = both l m _ b c _ p p' r r'
  rowed_same rows (inl (h, p, r)) (inr (h', rest)) = absurd (omega arith)
  rowed_same rows (inr (h, rest)) (inl (h', p, r)) = absurd (omega arith)
  rowed_same rows (inr (h, (p, r))) (inr (h', (p', r'))) = both l m _ b c _ p p' r r'

  divides_same : (rule : ℕ) (o : Outcome) → Divides a l b q rule o → Divides a m c q rule o → Same l m b c
  divides_same rule (refuses layer n vs) (p, r) (p', r') = both l m _ b c _ p p' r r'
  divides_same rule (answers vs) (rows, dividing, rowed) (others, dividing', rowed') =
      let same : others ≡ rows = divides_alone (rule_of rule) a.tally (amounts a.tally) rows others dividing dividing' in
      rowed_same rows rowed (subst (Rowed a m c q) same rowed')

  obeyed_same : (k : Meaning) → Obeyed a l b q k → Obeyed a m c q k → Same l m b c
  obeyed_same (post from to amount) (p, r) (p', r') = both l m _ b c _ p p' r r'
  obeyed_same (amend line amount) (p, r) (p', r') = both l m _ b c _ p p' r r'
  obeyed_same (strike line) (p, r) (p', r') = both l m _ b c _ p p' r r'
  obeyed_same clear (p, r) (p', r') = both l m _ b c _ p p' r r'
  obeyed_same (note text) (p, r) (p', r') = both l m _ b c _ p p' r r'
  obeyed_same (list floor) one two = lists_same floor (list_stopped a.tally floor (answers [])) one two
  obeyed_same (divide rule) one two = divides_same rule (stopped (balance_stops a.tally) (answers [])) one two

answered_same : (a : State) (l m : List ℕ) (b c : State) (r : Reading) → Answered a l b r → Answered a m c r → Same l m b c
answered_same a l m b c end one two = absurd one
answered_same a l m b c (read k q) one two = obeyed_same a l m b c q k one two
answered_same a l m b c (refused n vs) (p, r) (p', r') = both l m _ b c _ p p' r r'

over_prints_not : (a b : State) (l : List ℕ) → Over a → Prints a l b → ⊥
over_prints_not a b l (inl over) prints = both_ways a.ended prints.running over
over_prints_not a b l (inr over) prints = subst (Answered a l b) over prints.answered

pub rest_same : (a : State) (ls ks : List (List ℕ)) → Rest a ls → Rest a ks → ls ≡ ks
rest_same a [] [] one two = refl
rest_same a [] (k ∷ ks) over (c, prints, rest) = absurd (over_prints_not a c k over prints)
rest_same a (l ∷ ls) [] (b, prints, rest) over = absurd (over_prints_not a b l over prints)
rest_same a (l ∷ ls) (k ∷ ks) (b, prints, rest) (c, prints', rest') =
    let same = answered_same a l k b c (reading a.sheet_bytes a.place) prints.answered prints'.answered in
    ap (λ z. z ∷ ls) same.lines_same ∙ ap (λ zs. k ∷ zs) (rest_same b ls ks rest (subst (λ z. Rest z ks) (sym same.states_same) rest'))
