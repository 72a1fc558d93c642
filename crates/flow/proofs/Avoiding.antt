-- The split that the avoiding rule makes puts exactly the certain figure on its chain. Assumes nothing.
use Rattle.std.proofs.Common.{◌≡◌, ℕ, ◌+◌, ◌<◌, ◌≤◌, Bool, true, false, cond, not, ◌&&◌, eqb, ltb, ◌⊎◌, List, [], ◌∷◌, ◌++◌, length, get_or, ℤ, pos, negsuc, ◌+ℤ◌, ◌-ℤ◌, ◌≤ℤ◌, sym, refl, ap, ◌∙◌, subst, inl, inr, ⊎_elim, arith}
use Rattle.std.proofs.lemmas.List.{append_assoc, append-nil}
use Rattle.std.proofs.lemmas.Int.{ints}
use Rattle.std.proofs.lemmas.Bool.{and_parts, and_right, and_cases, eqb-true, eqb-false, eq-eqb, ne_eqb, ltb-false, not-true, both_ways, cases_Bool, cond-true, cond-false}
use Rattle.std.specs.List.{AllByRecursion}
use Rattle.book.specs.Tally.{Tally, at, Sound, WellFormed}
use Rattle.book.specs.Totals.{any, leaves, amount_of, in_total, Balanced}
use Rattle.flow.specs.Chains.{from_of, to_of, runs, is_chain, run_to, Chain}
use Rattle.flow.specs.Dividing.{amounts, Walk, IsRow, off, Divides, Dividing}
use Rattle.flow.specs.Excess.{figure, joined, positive}
use Rattle.flow.specs.Promises.{AvoidingReachesFigure}
use Rattle.book.specs.Search.{lowest_of}
use Rattle.flow.specs.Rules.{Choice, is_open, lowest, turn, ends_with, avoiding_from, avoiding}
use Rattle.flow.specs.Splits.{Row, Split, holds, puts}
use Rattle.flow.proofs.ChainFacts.{leaves_from, leaves_within, leaves_some, line_live, line-leaves, line_entered, rises, run_length, runs_step, runs_parts, chain_step}
use Rattle.flow.proofs.Divided.{row_open, row_off, dividing_split}
use Rattle.flow.proofs.ExcessForms.{out_beside}
use Rattle.flow.proofs.Infix.{holds-append, holds_parts, holds_back, any_held, ends_with-end, ends_with_parts}
use Rattle.flow.proofs.RowsAtLine.{other, strays, straying, other_passes, split_adds}
use Rattle.flow.proofs.RuleLaws.{lowest_of_finds, law_avoiding}
use Rattle.flow.proofs.SplitExcess.{excess_along}
use Rattle.flow.proofs.Sums.{any_none, false_unless, total_none}
use Rattle.flow.proofs.Walks.{walk_at}

-- no row to come takes a line with nothing left
none_taken : (choice : Choice) (t : Tally) (test : ℕ → Bool) (left : List ℕ) (rows : List Row) → ((n : ℕ) → test n ≡ true → get_or left n 0 ≡ 0) → Divides choice t left rows → AllByRecursion (λ r. any test r.chain ≡ false) rows
none_taken choice t test left [] nothing divides = tt
none_taken choice t test left (r ∷ rows) nothing divides = (
  any_none (λ n. 0 < get_or left n 0) test (λ n some. false_unless (test n) (λ is. omega (arith, nothing n is))) r.chain (row_open choice t left r divides.0),
  none_taken choice t test (off left r.tonnes r.chain) rows (λ n is. omega (arith, nothing n is, row_off choice t left r divides.0 n)) divides.1,
)

module _ (t : Tally) (sound : AllByRecursion Sound t) (first : ℕ) (inner : List ℕ) (p : ℕ) (rest : List ℕ) (chain : Chain t (first ∷ (inner ++ p ∷ rest))) where
  abbrev front : List ℕ
  front = first ∷ inner

  abbrev rule : Choice
  rule = avoiding (first ∷ (inner ++ p ∷ rest))

  abbrev between : ℕ
  between = from_of (at t p)

  avoiding_from-at : (left walked pre ns : List ℕ) (b : ℕ) → runs t b (ns ++ p ∷ rest) ≡ true → avoiding_from pre (ns ++ p ∷ rest) t left between walked ≡ turn (pre ++ ns) p t left between walked
  avoiding_from-at left walked pre [] b run =
      cond-true (eqb between between) (turn pre p t left between walked) (avoiding_from (pre ++ p ∷ []) rest t left between walked) (eq-eqb between between refl)
      ∙ ap (λ l. turn l p t left between walked) (sym (append-nil pre))
  avoiding_from-at left walked pre (m ∷ ns) b run =
      let q = runs_step t b m (ns ++ p ∷ rest) run in
      let on = runs_parts t (to_of (at t m)) ns (p ∷ rest) q.1 in
      let meets = leaves_from (run_to t (to_of (at t m)) ns) (at t p) (runs_step t (run_to t (to_of (at t m)) ns) p rest on.1).0 in
      let below : from_of (at t m) < between = omega (arith, leaves_from b (at t m) q.0, rises t sound b m q.0, run_length t sound (to_of (at t m)) ns on.0, meets) in
      cond-false (eqb (from_of (at t m)) between) (turn pre m t left between walked) (avoiding_from (pre ++ m ∷ []) (ns ++ p ∷ rest) t left between walked) (ne_eqb (from_of (at t m)) between (omega arith))
      ∙ (avoiding_from-at left walked (pre ++ m ∷ []) ns (to_of (at t m)) q.1 ∙ ap (λ l. turn l p t left between walked) (append_assoc pre (m ∷ []) ns))

  -- the turn that the rule takes at the account
  rule_at : (left walked : List ℕ) → rule t left between walked ≡ turn front p t left between walked
  rule_at left walked =
      cond-true (is_chain t (first ∷ (inner ++ p ∷ rest))) (avoiding_from (first ∷ []) (inner ++ p ∷ rest) t left between walked) (lowest t left between walked) chain
      ∙ avoiding_from-at left walked (first ∷ []) inner (to_of (at t first)) (chain_step t first (inner ++ p ∷ rest) chain).1

  -- a row that goes on with the line shows that nothing is left on the others out of the account
  others_spent : (left : List ℕ) (r : Row) → IsRow rule t left r → holds (front ++ p ∷ []) r.chain ≡ true → (n : ℕ) → (leaves between (at t n) && not (eqb n p)) ≡ true → get_or left n 0 ≡ 0
  others_spent left r is has n aside =
      let q = holds_parts (front ++ p ∷ []) r.chain has in
      let parts : r.chain ≡ (q.0 ++ front) ++ p ∷ q.1 = q.2 ∙ (ap (λ l. q.0 ++ l) (append_assoc front (p ∷ []) q.1) ∙ sym (append_assoc q.0 front (p ∷ q.1))) in
      let named = (walk_at rule t left is.account [] (q.0 ++ front) p q.1 (subst (Walk rule t left is.account []) parts is.walk)).0 in
      let lone : p ≡ lowest_of beside p 0 (length t) = named ∙ (rule_at left (q.0 ++ front) ∙ cond-true (ends_with (q.0 ++ front) front) (lowest_of beside p 0 (length t)) (cond (ltb 0 (get_or left p 0)) p (lowest t left between (q.0 ++ front))) (ends_with-end q.0 front)) in
      ⊎_elim
      (λ found. absurd (passed_by (subst (λ k. beside k ≡ true) (sym lone) found)))
      (λ nothing. spent (nothing.1 n (omega arith) (omega (arith, leaves_within t between n out))))
      (lowest_of_finds beside p 0 (length t))
    where
      beside : ℕ → Bool
      beside k = is_open t left between k && not (eqb k p)

      out : leaves between (at t n) ≡ true
      out = (and_parts (leaves between (at t n)) (not (eqb n p)) aside).0

      passed_by : beside p ≡ true → ⊥
      passed_by h = eqb-false p p (not-true (eqb p p) (and_parts (is_open t left between p) (not (eqb p p)) h).1) refl

      spent : beside n ≡ false → get_or left n 0 ≡ 0
      spent shut =
          ⊎_elim
          (λ closed. ⊎_elim (λ in'. absurd (both_ways (leaves between (at t n)) in' out)) (λ none. let le = ltb-false 0 (get_or left n 0) none in omega arith) (and_cases (leaves between (at t n)) (ltb 0 (get_or left n 0)) closed))
          (λ same. absurd (both_ways (not (eqb n p)) same (and_parts (leaves between (at t n)) (not (eqb n p)) aside).1))
          (and_cases (is_open t left between n) (not (eqb n p)) shut)

  -- a row that strays shows that nothing is left on the line
  line_spent : (left : List ℕ) (r : Row) → IsRow rule t left r → strays t front p r.chain ≡ true → get_or left p 0 ≡ 0
  line_spent left r is stray =
      let s = and_parts (not (holds front r.chain)) (other t p r.chain) stray in
      let o = other_passes t p r.chain s.1 in
      let q = holds_parts (o.0 ∷ []) r.chain o.3 in
      let named = (walk_at rule t left is.account [] q.0 o.0 q.1 (subst (Walk rule t left is.account []) q.2 is.walk)).0 in
      let here : o.0 ≡ turn front p t left between q.0 = named ∙ (ap (λ a. rule t left a q.0) (leaves_from between (at t o.0) o.1) ∙ rule_at left q.0) in
      let apart = false_unless (ends_with q.0 front) (λ ends. both_ways (holds front r.chain) (not-true (holds front r.chain) s.0) (ends_held q.0 (o.0 ∷ q.1) r.chain q.2 ends)) in
      let chosen : o.0 ≡ cond (ltb 0 (get_or left p 0)) p (lowest t left between q.0) = here ∙ cond-false (ends_with q.0 front) (lowest_of (λ k. is_open t left between k && not (eqb k p)) p 0 (length t)) (cond (ltb 0 (get_or left p 0)) p (lowest t left between q.0)) apart in
      ⊎_elim
      (λ some. absurd (o.2 (chosen ∙ cond-true (ltb 0 (get_or left p 0)) p (lowest t left between q.0) some)))
      (λ none. let le = ltb-false 0 (get_or left p 0) none in omega arith)
      (cases_Bool (ltb 0 (get_or left p 0)))
    where
      ends_held : (w z d : List ℕ) → d ≡ w ++ z → ends_with w front ≡ true → holds front d ≡ true
      ends_held w z d is ends =
          let e = ends_with_parts w front ends in
          subst (λ l. holds front l ≡ true) (sym (is ∙ (ap (λ l. l ++ z) e.1 ∙ append_assoc e.0 front z))) (holds-append e.0 front z)

  none_strays : (rows : List Row) → AllByRecursion (λ r. other t p r.chain ≡ false) rows → straying t rows front p ≡ 0
  none_strays rows none =
      total_none (λ r. other t p r.chain ≡ false) (λ r. cond (strays t front p r.chain) r.tonnes 0)
      (λ r gone. cond-false (strays t front p r.chain) r.tonnes 0 (and_right (not (holds front r.chain)) (other t p r.chain) gone))
      rows none

  none_goes_on : (rows : List Row) → AllByRecursion (λ r. any (λ n. eqb n p) r.chain ≡ false) rows → puts rows (front ++ p ∷ []) ≡ 0
  none_goes_on rows none =
      total_none (λ r. any (λ n. eqb n p) r.chain ≡ false) (λ r. cond (holds (front ++ p ∷ []) r.chain) r.tonnes 0)
      (λ r gone. cond-false (holds (front ++ p ∷ []) r.chain) r.tonnes 0 (unheld r.chain gone))
      rows none
    where
      unheld : (d : List ℕ) → any (λ n. eqb n p) d ≡ false → holds (front ++ p ∷ []) d ≡ false
      unheld d gone = false_unless (holds (front ++ p ∷ []) d) (λ has. both_ways (any (λ n. eqb n p) d) gone (any_held (λ n. eqb n p) p d (eq-eqb p p refl) (holds_back front (p ∷ []) d has)))

  -- of the rows to come, none goes on with the line after the lines before it, or none strays
  never_both : (left : List ℕ) (rows : List Row) → Divides rule t left rows → (puts rows (front ++ p ∷ []) ≡ 0) ⊎ (straying t rows front p ≡ 0)
  never_both left [] divides = inl refl
  never_both left (r ∷ rows) divides =
      ⊎_elim
      (λ on. inr (none_strays (r ∷ rows) (none_taken rule t (λ n. leaves between (at t n) && not (eqb n p)) left (r ∷ rows) (others_spent left r divides.0 on) divides)))
      (λ broken. ⊎_elim
      (λ stray. inl (none_goes_on (r ∷ rows) (none_taken rule t (λ n. eqb n p) left (r ∷ rows) (λ n same. ap (λ k. get_or left k 0) (eqb-true n p same) ∙ line_spent left r divides.0 stray) divides)))
      (λ tame. ⊎_elim
      (λ none. inl (omega (arith, none, cond-false (holds (front ++ p ∷ []) r.chain) r.tonnes 0 broken)))
      (λ none. inr (omega (arith, none, cond-false (strays t front p r.chain) r.tonnes 0 tame)))
      (never_both (off left r.tonnes r.chain) rows divides.1))
      (cases_Bool (strays t front p r.chain)))
      (cases_Bool (holds (front ++ p ∷ []) r.chain))

pub positive_under : (z : ℤ) (n : ℕ) → z ≤ℤ pos n → positive z ≤ n
positive_under (pos m) n under = omega (arith, ints)
positive_under (negsuc m) n under = omega arith

-- from what is put on the lines before a line to what is put on them with it
figure_step : (e : ℤ) (before on astray amount entering : ℕ) → before ≡ positive e → before + astray + amount ≡ on + entering → (on ≡ 0) ⊎ (astray ≡ 0) → amount ≤ entering → on ≡ positive ((e +ℤ pos amount) -ℤ pos entering)
figure_step (pos k) before on astray amount entering is adds (inl none) within =
    omega (arith, positive_under ((pos k +ℤ pos amount) -ℤ pos entering) 0 (omega (arith, ints)))
figure_step (pos k) before on astray amount entering is adds (inr none) within =
    sym (ap positive (exact ((pos k +ℤ pos amount) -ℤ pos entering) refl))
  where
    exact : (z : ℤ) → z ≡ (pos k +ℤ pos amount) -ℤ pos entering → z ≡ pos on
    exact z e = omega (arith, ints)
figure_step (negsuc k) before on astray amount entering is adds none within =
    let low : ((negsuc k +ℤ pos amount) -ℤ pos entering) ≤ℤ pos 0 = omega (arith, ints) in
    ⊎_elim
    (λ no_rows. omega (arith, positive_under ((negsuc k +ℤ pos amount) -ℤ pos entering) 0 low))
    (λ no_stray. omega (arith, positive_under ((negsuc k +ℤ pos amount) -ℤ pos entering) 0 low))
    none

module _ (c : List ℕ) (t : Tally) (rows : List Row) (well : WellFormed t) (balanced : Balanced t) (chain : Chain t c) (dividing : Dividing (avoiding c) t rows) where
  split : Split t rows
  split = dividing_split (avoiding c) t rows well dividing

  line_more : (first : ℕ) (inner : List ℕ) (p : ℕ) (rest : List ℕ) (e : ℤ) → c ≡ first ∷ (inner ++ p ∷ rest) → puts rows (first ∷ inner) ≡ positive e → puts rows (first ∷ (inner ++ p ∷ [])) ≡ positive (joined t e p)
  line_more first inner p rest e is before =
      let on : Chain t (first ∷ (inner ++ p ∷ rest)) = subst (Chain t) is chain in
      let level = balanced (from_of (at t p)) (line_entered t first inner p rest on) (leaves_some t (from_of (at t p)) p (line-leaves t first inner p rest on)) in
      figure_step e (puts rows (first ∷ inner)) (puts rows (first ∷ (inner ++ p ∷ []))) (straying t rows (first ∷ inner) p) (amount_of (at t p)) (in_total t (from_of (at t p)))
      before
      (split_adds t well first inner p rest on rows split)
      (never_both t well.1 first inner p rest on (amounts t) rows (subst (λ x. Dividing (avoiding x) t rows) is dividing))
      (omega (arith, level, out_beside t p (line_live t first inner p rest on)))

  puts-figure : puts rows c ≡ figure t c
  puts-figure = excess_along t (λ e d. puts rows d ≡ positive e) c chain split.sums line_more

pub avoiding_reaches_figure : AvoidingReachesFigure
avoiding_reaches_figure c = (law_avoiding c, puts-figure c)
