-- A certain chain grows by the lines that `grown` accepts, and by no other. Assumes nothing.
use Rattle.std.proofs.Common.{◌≡◌, ℕ, ◌+◌, ◌-◌, ◌*◌, ◌<◌, ◌≤◌, Bool, true, false, cond, eqb, ltb, leb, List, [], ◌∷◌, ◌++◌, length, get_or, take, ℤ, pos, ◌+ℤ◌, ◌≤ℤ◌, Some, None, Option, sym, refl, ap, ◌∙◌, subst, arith}
use Rattle.std.proofs.lemmas.List.{get_or_past, take_more}
use Rattle.std.proofs.lemmas.Int.{ints}
use Rattle.std.proofs.lemmas.Bool.{and_from, and_left, and_parts, and_right, both_ways, cond-false, eq-eqb, eqb-true, le-leb, leb-false, leb-true, lt-leb, lt-ltb, ltb-true}
use Rattle.book.specs.Limits.{greatest_amount}
use Rattle.book.specs.Tally.{Tally, at, is_live, Sound, WellFormed}
use Rattle.book.specs.Totals.{amount_of, in_total, leaves, Balanced}
use Rattle.book.specs.declared.entries.Line.{Line}
use Rattle.book.specs.declared.entries.Line.TheVariants.{Live, Struck}
use Rattle.chains.proofs.Excess.{excess_last}
use Rattle.chains.proofs.Lines.{sound_parts}
use Rattle.flow.proofs.Certainty.{certain_iff_excess}
use Rattle.flow.proofs.ChainFacts.{chain_from, chain_part, chain_short, chain_step, entered_within, leaves_from, leaves_live, leaves_own, run_length, run_within, runs_from, runs_parts, runs_step, sound_at}
use Rattle.flow.proofs.Infix.{holds-start}
use Rattle.flow.proofs.Parts.{part_certain}
use Rattle.flow.specs.Chains.{Chain, finish, from_of, longest_chain, runs, run_to, to_of}
use Rattle.flow.specs.Excess.{excess, excess_on, joined}
use Rattle.listing.specs.Growth.{accepts, CertainChain, Comes, Front, grown, held, reach, Reached}
use Rattle.listing.specs.declared.reach.Reach.{Reach}

-- lines
pub live_from_amount : (l : Line) → 0 < amount_of l → is_live l ≡ true
live_from_amount (Live from to amount) h = refl
live_from_amount Struck h = absurd (omega arith)

pub amount_from_live : (l : Line) → Sound l → is_live l ≡ true → 0 < amount_of l
amount_from_live (Live from to amount) sound h = sound.2
amount_from_live Struck sound h = absurd (both_ways false refl h)

runs_join : (t : Tally) (a : ℕ) (x y : List ℕ) → runs t a x ≡ true → runs t (run_to t a x) y ≡ true → runs t a (x ++ y) ≡ true
runs_join t a [] y h k = k
runs_join t a (n ∷ x) y h k = let p = runs_step t a n x h in runs_from t a n (x ++ y) p.0 (runs_join t (to_of (at t n)) x y p.1 k)

some_cond : {X : Type 0} (b : Bool) (x y : X) → Some y ≡ cond b (Some x) None → (b ≡ true) × (y ≡ x)
some_cond true x y is = (refl, cc)
some_cond false x y is = let z : ◌≡◌ {A = ℕ} 0 1 = cc in absurd (omega arith)

none_cond : {X : Type 0} (b : Bool) (x : X) → None ≡ cond b (Some x) None → b ≡ false
none_cond true x is = let z : ◌≡◌ {A = ℕ} 0 1 = cc in absurd (omega arith)
none_cond false x is = refl

-- no line past the end of the tally
pub grown_past : (t : Tally) (w : ℕ) (before : Option Reach) (n : ℕ) → 0 < w → length t ≤ n → grown t w before n ≡ None
grown_past t w None n some past =
    let none : amount_of (at t n) ≡ 0 = ap amount_of (get_or_past t n Struck past) in
    cond-false _ _ _ (lt-leb w (amount_of (at t n)) (omega arith))
grown_past t w (Some r) n some past =
    let none : ltb 0 (amount_of (at t n)) ≡ false = ap (λ l. ltb 0 (amount_of l)) (get_or_past t n Struck past) in
    cond-false _ _ _ (and_right _ _ (and_left _ _ none))

-- in a well-formed tally linked lines are few enough for a chain, and the excess is within limits
module _ (t : Tally) (well : WellFormed t) where
  pub linked-chain : (n : ℕ) (ns : List ℕ) → is_live (at t n) ≡ true → runs t (to_of (at t n)) ns ≡ true → Chain t (n ∷ ns)
  linked-chain n ns live run =
      let whole = runs_from t (from_of (at t n)) n ns (leaves_own (at t n) live) run in
      chain_from t (n ∷ ns)
      (omega (arith, run_length t well.1 (from_of (at t n)) (n ∷ ns) whole, run_within t well.1 (to_of (at t n)) ns (entered_within t well.1 n)))
      (and_from (is_live (at t n)) (runs t (to_of (at t n)) ns) live run)

  excess_on_high : (e : ℤ) (c : List ℕ) → excess_on t e c ≤ℤ (e +ℤ pos (greatest_amount * length c))
  excess_on_high e [] = omega (arith, ints)
  excess_on_high e (n ∷ c) =
      let rest = excess_on_high (joined t e n) c in
      let small = (sound_parts (at t n) (sound_at t well.1 n)).1 in
      omega (arith, ints)

  excess_high : (c : List ℕ) → excess t c ≤ℤ pos (greatest_amount * length c)
  excess_high [] = omega (arith, ints)
  excess_high (n ∷ c) =
      let rest = excess_on_high (pos (amount_of (at t n))) c in
      let small = (sound_parts (at t n) (sound_at t well.1 n)).1 in
      omega (arith, ints)

  pub reached_small : (w : ℕ) (c : List ℕ) (r : Option Reach) → Reached t w c r → held r ≤ longest_chain * greatest_amount
  reached_small w c None reached = omega arith
  reached_small w c (Some r) reached =
      let high = excess_high c in
      let short = chain_short t c reached.certain.0 in
      omega (arith, ints, reached.tonnes)

  -- a chain and one line more
  chain_grows : (m : ℕ) (c : List ℕ) (n : ℕ) → Chain t (m ∷ c) → leaves (finish t (m ∷ c)) (at t n) ≡ true → Chain t (m ∷ c ++ n ∷ [])
  chain_grows m c n chain out =
      let p = chain_step t m c chain in
      linked-chain m (c ++ n ∷ []) p.0 (runs_join t (to_of (at t m)) c (n ∷ []) p.1 (runs_from t (finish t (m ∷ c)) n [] out refl))

grown-leaves : (t : Tally) (m : ℕ) (c : List ℕ) (n : ℕ) → Chain t (m ∷ c ++ n ∷ []) → leaves (finish t (m ∷ c)) (at t n) ≡ true
grown-leaves t m c n chain =
    let p = chain_step t m (c ++ n ∷ []) chain in
    let q = runs_parts t (to_of (at t m)) c (n ∷ []) p.1 in
    (runs_step t (finish t (m ∷ c)) n [] q.1).0

finish-grown : (t : Tally) (a : ℕ) (c : List ℕ) (n : ℕ) → run_to t a (c ++ n ∷ []) ≡ to_of (at t n)
finish-grown t a [] n = refl
finish-grown t a (m ∷ c) n = finish-grown t (to_of (at t m)) c n

module _ (t : Tally) (w : ℕ) (well : WellFormed t) (balanced : Balanced t) (some : 0 < w) where
  pub certain_from : (c : List ℕ) → Chain t c → pos w ≤ℤ excess t c → CertainChain t w c
  certain_from c chain high = (chain, (certain_iff_excess t w c well balanced chain some).1 high)

  pub certain_excess : (c : List ℕ) → CertainChain t w c → pos w ≤ℤ excess t c
  certain_excess c h = (certain_iff_excess t w c well balanced h.0 some).0 h.1

  -- the first line
  first_grown : (n : ℕ) → w ≤ amount_of (at t n) → Comes t w (n ∷ []) (reach (to_of (at t n)) (amount_of (at t n)))
  first_grown n high = record {
    certain = certain_from (n ∷ []) (linked-chain t well n [] (live_from_amount (at t n) (omega arith)) refl) (omega (arith, ints));
    account = refl;
    tonnes = refl;
  }

  -- one line more
  next_grown : (m : ℕ) (c : List ℕ) (b : Reach) (n : ℕ) → Comes t w (m ∷ c) b → accepts t w b n ≡ true → Comes t w (m ∷ c ++ n ∷ []) (reach (to_of (at t n)) ((b.tonnes + amount_of (at t n)) - in_total t (from_of (at t n))))
  next_grown m c b n comes fits =
      let p = and_parts (eqb b.account (from_of (at t n))) _ fits in
      let q = and_parts (ltb 0 (amount_of (at t n))) _ p.1 in
      let from = eqb-true b.account (from_of (at t n)) p.0 in
      let high = leb-true (in_total t (from_of (at t n)) + w) (b.tonnes + amount_of (at t n)) q.1 in
      let live = live_from_amount (at t n) (ltb-true 0 (amount_of (at t n)) q.0) in
      let out : leaves (finish t (m ∷ c)) (at t n) ≡ true = subst (λ a. leaves a (at t n) ≡ true) (sym from ∙ comes.account) (leaves_own (at t n) live) in
      let law : excess t (m ∷ c ++ n ∷ []) ≡ joined t (excess t (m ∷ c)) n = excess_last t (m ∷ c) n (omega arith) in
      let was = comes.tonnes in
      let now : pos ((b.tonnes + amount_of (at t n)) - in_total t (from_of (at t n))) ≡ excess t (m ∷ c ++ n ∷ []) = omega (arith, ints) in
      record {
        certain = certain_from (m ∷ c ++ n ∷ []) (chain_grows t well m c n comes.certain.0 out) (omega (arith, ints));
        account = sym (finish-grown t (to_of (at t m)) c n);
        tonnes = now;
      }

  grown_accepted : (m : ℕ) (c : List ℕ) (b : Reach) (n : ℕ) → Comes t w (m ∷ c) b → CertainChain t w (m ∷ c ++ n ∷ []) → accepts t w b n ≡ true
  grown_accepted m c b n comes certain =
      let out = grown-leaves t m c n certain.0 in
      let law : excess t (m ∷ c ++ n ∷ []) ≡ joined t (excess t (m ∷ c)) n = excess_last t (m ∷ c) n (omega arith) in
      let was = comes.tonnes in
      let high = certain_excess (m ∷ c ++ n ∷ []) certain in
      and_from (eqb b.account (from_of (at t n))) _ (eq-eqb b.account (from_of (at t n)) (comes.account ∙ sym (leaves_from (finish t (m ∷ c)) (at t n) out)))
      (and_from (ltb 0 (amount_of (at t n))) _
      (lt-ltb 0 (amount_of (at t n)) (amount_from_live (at t n) (sound_at t well.1 n) (leaves_live (finish t (m ∷ c)) (at t n) out)))
      (le-leb (in_total t (from_of (at t n)) + w) (b.tonnes + amount_of (at t n)) (omega (arith, ints))))

  pub grown_some : (c : List ℕ) (before : Option Reach) (n : ℕ) (r : Reach) → Reached t w c before → Some r ≡ grown t w before n → Comes t w (c ++ n ∷ []) r
  grown_some c None n r none is =
      let p = some_cond (leb w (amount_of (at t n))) _ r is in
      subst (λ z. Comes t w (z ++ n ∷ []) r) (sym none) (subst (Comes t w (n ∷ [])) (sym p.1) (first_grown n (leb-true w (amount_of (at t n)) p.0)))
  grown_some [] (Some b) n r comes is = absurd (both_ways false refl comes.certain.0)
  grown_some (m ∷ c) (Some b) n r comes is =
      let p = some_cond (accepts t w b n) _ r is in
      subst (Comes t w (m ∷ c ++ n ∷ [])) (sym p.1) (next_grown m c b n comes p.0)

  pub grown_none : (c : List ℕ) (before : Option Reach) (n : ℕ) → Reached t w c before → None ≡ grown t w before n → CertainChain t w (c ++ n ∷ []) → ⊥
  grown_none c None n none is certain =
      let low = leb-false w (amount_of (at t n)) (none_cond (leb w (amount_of (at t n))) _ is) in
      let one : CertainChain t w (n ∷ []) = subst (λ z. CertainChain t w (z ++ n ∷ [])) none certain in
      let high = certain_excess (n ∷ []) one in
      omega (arith, ints)
  grown_none [] (Some b) n comes is certain = absurd (both_ways false refl comes.certain.0)
  grown_none (m ∷ c) (Some b) n comes is certain = both_ways (accepts t w b n) (none_cond (accepts t w b n) _ is) (grown_accepted m c b n comes certain)

  -- a beginning of a certain chain
  pub beginning_certain : (p y : List ℕ) → 0 < length p → CertainChain t w (p ++ y) → CertainChain t w p
  beginning_certain p y long (chain, certain) =
      let front : Chain t p = chain_part t p (p ++ y) long chain (holds-start p y) in
      (front, part_certain t w p (p ++ y) front certain (holds-start p y))

  -- the numbers of a list taken one after the other
  pub front_more : (given : List ℕ) (i : ℕ) (before : Option Reach) (r : Reach) → i < length given → Reached t w (take i given) before → Some r ≡ grown t w before (get_or given i 0) → Comes t w (take (i + 1) given) r
  front_more given i before r within reached is =
      subst (λ z. Comes t w z r) (sym (take_more given i 0 within)) (grown_some (take i given) before (get_or given i 0) r reached is)

  pub front_stops : (given : List ℕ) (i : ℕ) (before : Option Reach) → i < length given → Reached t w (take i given) before → None ≡ grown t w before (get_or given i 0) → Front t w given i before
  front_stops given i before within reached is = record {
    within = omega arith;
    reached = reached;
    longest = λ _ certain. grown_none (take i given) before (get_or given i 0) reached is (subst (CertainChain t w) (take_more given i 0 within) certain);
  }
