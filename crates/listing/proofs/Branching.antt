-- The first certain chain after a list branches off from a certain beginning of it. Assumes nothing.
use Rattle.std.proofs.Common.{◌≡◌, ℕ, ◌+◌, ◌-◌, ◌<◌, ◌≤◌, ◌⊎◌, List, [], ◌∷◌, ◌++◌, length, get_or, take, drop, Some, None, Option, sym, refl, ap, ◌∙◌, subst, inl, inr, ⊎_elim, arith}
use Rattle.std.proofs.lemmas.List.{append_assoc, drop_all, drop_more, length_push, length-take-le, take-append-drop, take_all, take_more, take-take}
use Rattle.std.proofs.lemmas.Bool.{cases_lt, cond-false, cond-true, le-ltb, lt-ltb}
use Rattle.book.specs.Tally.{Tally, WellFormed}
use Rattle.book.specs.Totals.{Balanced}
use Rattle.flow.proofs.ChainFacts.{chain_short}
use Rattle.flow.specs.Chains.{longest_chain}
use Rattle.flow.specs.Listing.{Before}
use Rattle.listing.proofs.Growing.{beginning_certain, grown_none, grown_some}
use Rattle.listing.specs.After.{Barren, FirstCertain, lowest_after, Open}
use Rattle.listing.specs.Growth.{CertainChain, Comes, FirstGrown, Front, Reached}
use Rattle.listing.specs.Walks.{Found}
use Rattle.listing.specs.declared.reach.Reach.{Reach}

-- lists with the same beginning
before_cancel : (p s y : List ℕ) → Before (p ++ s) (p ++ y) → Before s y
before_cancel [] s y h = h
before_cancel (n ∷ p) s y (inl less) = absurd (omega arith)
before_cancel (n ∷ p) s y (inr (same, h)) = before_cancel p s y h

before_join : (p s y : List ℕ) → Before s y → Before (p ++ s) (p ++ y)
before_join [] s y h = h
before_join (n ∷ p) s y h = inr (refl, before_join p s y h)

-- what stands between a list and one that branches off from it begins as both
between : (p s d : List ℕ) (m : ℕ) → Before (p ++ s) d → Before d (p ++ m ∷ []) → (y : List ℕ) × (d ≡ p ++ y)
between [] s d m h k = (d, refl)
between (n ∷ p) s [] m h k = absurd h
between (n ∷ p) s (x ∷ d) m (inl h) (inl k) = absurd (omega arith)
between (n ∷ p) s (x ∷ d) m (inl h) (inr (same, k)) = absurd (omega arith)
between (n ∷ p) s (x ∷ d) m (inr (same, h)) (inl k) = absurd (omega arith)
between (n ∷ p) s (x ∷ d) m (inr (same, h)) (inr (same', k)) =
    let rest = between p s d m h k in
    (rest.0, ap (λ z. z ∷ d) same' ∙ ap (λ z. n ∷ z) rest.1)

before_one : (j m : ℕ) (y : List ℕ) → Before (j ∷ y) (m ∷ []) → j < m
before_one j m y (inl less) = less
before_one j m [] (inr (same, h)) = absurd h
before_one j m (x ∷ y) (inr (same, h)) = absurd h

-- how a list that stands after another goes on behind a common beginning
abbrev Goes : List ℕ → ℕ → List ℕ → Type 0
Goes given k [] = ⊥
Goes given k (j ∷ y) = (lowest_after given k ≤ j) ⊎ ((k < length given) × (j ≡ get_or given k 0))

module _ (given : List ℕ) (k : ℕ) (within : k ≤ length given) where
  whole : take k given ++ drop k given ≡ given
  whole = take-append-drop k given

  lowest_inside : k < length given → lowest_after given k ≡ get_or given k 0 + 1
  lowest_inside inside = cond-true _ _ _ (lt-ltb k (length given) inside)

  lowest-end : length given ≤ k → lowest_after given k ≡ 0
  lowest-end ends = cond-false _ _ _ (le-ltb k (length given) ends)

  goes_inside : (y : List ℕ) → k < length given → Before (drop k given) y → Goes given k y
  goes_inside [] inside h = subst (λ z. Before z []) (drop_more given k 0 inside) h
  goes_inside (j ∷ y) inside h =
      let cases : Before (get_or given k 0 ∷ drop (k + 1) given) (j ∷ y) = subst (λ z. Before z (j ∷ y)) (drop_more given k 0 inside) h in
      ⊎_elim (λ less. inl (omega (arith, lowest_inside inside))) (λ p. inr (inside, sym p.0)) cases

  goes_end : (y : List ℕ) → length given ≤ k → Before (drop k given) y → Goes given k y
  goes_end [] ends h = subst (λ z. Before z []) (drop_all k given ends) h
  goes_end (j ∷ y) ends h = inl (omega (arith, lowest-end ends))

  goes_on : (y : List ℕ) → Before given (take k given ++ y) → Goes given k y
  goes_on y h =
      let rest : Before (drop k given) y = before_cancel (take k given) (drop k given) y (subst (λ z. Before z (take k given ++ y)) (sym whole) h) in
      ⊎_elim (λ inside. goes_inside y inside rest) (λ ends. goes_end y ends rest) (cases_lt k (length given))

  branches_after : (m : ℕ) → lowest_after given k ≤ m → Before given (take k given ++ m ∷ [])
  branches_after m low =
      subst (λ z. Before z (take k given ++ m ∷ [])) whole
      (before_join (take k given) (drop k given) (m ∷ [])
      (⊎_elim
      (λ inside. subst (λ z. Before z (m ∷ [])) (sym (drop_more given k 0 inside)) (inl (omega (arith, lowest_inside inside))))
      (λ ends. subst (λ z. Before z (m ∷ [])) (sym (drop_all k given ends)) tt)
      (cases_lt k (length given))))

module _ (t : Tally) (w : ℕ) (well : WellFormed t) (balanced : Balanced t) (some : 0 < w) (given : List ℕ) where
  front_certain : (p : List ℕ) (j : ℕ) (y : List ℕ) → CertainChain t w (p ++ j ∷ y) → CertainChain t w (p ++ j ∷ [])
  front_certain p j y certain =
      beginning_certain t w well balanced some (p ++ j ∷ []) y (omega (arith, length_push p j)) (subst (CertainChain t w) (sym (append_assoc p (j ∷ []) y)) certain)

  -- what keeps one number more is kept out
  kept_more : (k j : ℕ) (y : List ℕ) → Open t w given k → k < length given → j ≡ get_or given k 0 → CertainChain t w (take k given ++ j ∷ y) → Before given (take k given ++ j ∷ y) → ⊥
  kept_more k j y opened inside same certain after =
      let is : take k given ++ j ∷ y ≡ take (k + 1) given ++ y =
      ap (λ z. take k given ++ z ∷ y) same
      ∙ (sym (append_assoc (take k given) (get_or given k 0 ∷ []) y) ∙ ap (λ z. z ++ y) (sym (take_more given k 0 inside))) in
      opened.barren inside y (subst (CertainChain t w) is certain) (subst (Before given) is after)

  -- the chains that are left at a beginning go on with a line from the lowest number on
  goes_beyond : (k : ℕ) (y : List ℕ) → Open t w given k → CertainChain t w (take k given ++ y) → Before given (take k given ++ y) → (j : ℕ) × (z : List ℕ) × (y ≡ j ∷ z) × (lowest_after given k ≤ j) × CertainChain t w (take k given ++ j ∷ [])
  goes_beyond k [] opened certain after = absurd (goes_on given k opened.within [] after)
  goes_beyond k (j ∷ y) opened certain after =
      ⊎_elim
      (λ low. (j, y, refl, low, front_certain (take k given) j y certain))
      (λ p. absurd (kept_more k j y opened p.0 p.1 certain after))
      (goes_on given k opened.within (j ∷ y) after)

  pub branch_none : (k : ℕ) → Open t w given k → ((j : ℕ) → lowest_after given k ≤ j → CertainChain t w (take k given ++ j ∷ []) → ⊥) → Barren t w given k
  branch_none k opened none y certain after =
      let b = goes_beyond k y opened certain after in
      none b.0 b.3 b.4

  pub branch_found : (k m : ℕ) → Open t w given k → lowest_after given k ≤ m → CertainChain t w (take k given ++ m ∷ []) → ((j : ℕ) → lowest_after given k ≤ j → j < m → CertainChain t w (take k given ++ j ∷ []) → ⊥) → FirstCertain t w given (take k given ++ m ∷ [])
  branch_found k m opened low certain least = record {
    certain = certain;
    after = branches_after given k opened.within m low;
    first = λ d certain-d after before.
        let p = between (take k given) (drop k given) d m (subst (λ z. Before z d) (sym (take-append-drop k given)) after) before in
        let b = goes_beyond k p.0 opened (subst (CertainChain t w) p.1 certain-d) (subst (Before given) p.1 after) in
        let tail : Before p.0 (m ∷ []) = before_cancel (take k given) p.0 (m ∷ []) (subst (λ z. Before z (take k given ++ m ∷ [])) p.1 before) in
        least b.0 b.3 (before_one b.0 m b.1 (subst (λ z. Before z (m ∷ [])) b.2 tail)) b.4;
  }

  -- the longest certain beginning is open, and so is the one below an open one that is barren
  reached_certain : (k : ℕ) (r : Option Reach) → k ≤ length given → Reached t w (take k given) r → 0 < k → CertainChain t w (take k given)
  reached_certain k None within reached long = absurd (omega (arith, length-take-le k given within, ap length reached))
  reached_certain k (Some r) within reached long = reached.certain

  pub front_open : (k : ℕ) (r : Option Reach) → Front t w given k r → Open t w given k
  front_open k r f = record {
    within = f.within;
    certain = reached_certain k r f.within f.reached;
    barren = λ inside y certain after. f.longest inside (beginning_certain t w well balanced some (take (k + 1) given) y (omega (arith, length-take-le (k + 1) given (omega arith))) certain);
  }

  shorter_certain : (k i : ℕ) → Open t w given k → 0 < i → i ≤ k → CertainChain t w (take i given)
  shorter_certain k i opened long short =
      let is : take i given ++ drop i (take k given) ≡ take k given = ap (λ z. z ++ drop i (take k given)) (sym (take-take i k given short)) ∙ take-append-drop i (take k given) in
      beginning_certain t w well balanced some (take i given) (drop i (take k given)) (omega (arith, length-take-le i given (omega (arith, opened.within)))) (subst (CertainChain t w) (sym is) (opened.certain (omega arith)))

  pub open_below : (k : ℕ) → Open t w given (k + 1) → Barren t w given (k + 1) → Open t w given k
  open_below k opened barren = record {
    within = omega (arith, opened.within);
    certain = λ long. shorter_certain (k + 1) k opened long (omega arith);
    barren = λ _. barren;
  }

  -- an open beginning is its own longest certain beginning
  pub front_whole : (k i : ℕ) (r : Option Reach) → Open t w given k → Front t w (take k given) i r → Reached t w (take k given) r
  front_whole k i r opened f =
      let long = length-take-le k given opened.within in
      ⊎_elim
      (λ less.
      let cut : take (i + 1) (take k given) ≡ take (i + 1) given = take-take (i + 1) k given (omega arith) in
      absurd (f.longest (omega arith) (subst (CertainChain t w) (sym cut) (shorter_certain k (i + 1) opened (omega arith) (omega arith)))))
      (λ all. subst (λ z. Reached t w z r) (take_all i (take k given) (omega arith)) f.reached)
      (cases_lt i k)

  -- what the search by lines at an open beginning finds
  module _ (k low : ℕ) (before : Option Reach) (opened : Open t w given k) (reached : Reached t w (take k given) before) (from : low ≡ lowest_after given k) where
    pub growth_none : FirstGrown t w before low None → Barren t w given k
    growth_none none = branch_none k opened (λ j above. grown_none t w well balanced some (take k given) before j reached (sym (none j (omega arith))))

    pub growth_comes : (m : ℕ) (r : Reach) → FirstGrown t w before low (Some (m, r)) → Comes t w (take k given ++ m ∷ []) r
    growth_comes m r found = grown_some t w well balanced some (take k given) before m r reached (sym found.1)

    pub growth_found : (m : ℕ) (r : Reach) → FirstGrown t w before low (Some (m, r)) → Found t w given (take k given ++ m ∷ []) r
    growth_found m r found =
        let comes = growth_comes m r found in
        record {
          first =
              branch_found k m opened (omega (arith, found.0)) comes.certain
              (λ j above below. grown_none t w well balanced some (take k given) before j reached (sym (found.2 j (omega arith) below)));
          comes = comes;
        }

    pub growth_short : (m : ℕ) (r : Reach) → FirstGrown t w before low (Some (m, r)) → k < longest_chain
    growth_short m r found =
        omega (arith, chain_short t (take k given ++ m ∷ []) (growth_comes m r found).certain.0, length_push (take k given) m, length-take-le k given opened.within)

-- a certain chain is open as a whole, and goes on by its own growth
module _ (t : Tally) (w : ℕ) (well : WellFormed t) (balanced : Balanced t) (some : 0 < w) (c : List ℕ) (r : Reach) (comes : Comes t w c r) where
  whole-list : take (length c) c ≡ c
  whole-list = take_all (length c) c (omega arith)

  whole_open : Open t w c (length c)
  whole_open = record {
    within = omega arith;
    certain = λ _. subst (CertainChain t w) (sym whole-list) comes.certain;
    barren = λ inside. absurd (omega arith);
  }

  whole_reached : Reached t w (take (length c) c) (Some r)
  whole_reached = subst (λ z. Comes t w z r) (sym whole-list) comes

  whole-lowest : 0 ≡ lowest_after c (length c)
  whole-lowest = sym (lowest-end c (length c) (omega arith) (omega arith))

  pub whole_grows : (m : ℕ) (more : Reach) → FirstGrown t w (Some r) 0 (Some (m, more)) → Found t w c (c ++ m ∷ []) more
  whole_grows m more first = subst (λ z. Found t w c (z ++ m ∷ []) more) whole-list (growth_found t w well balanced some c (length c) 0 (Some r) whole_open whole_reached whole-lowest m more first)

  pub whole_short : (m : ℕ) (more : Reach) → FirstGrown t w (Some r) 0 (Some (m, more)) → length c < longest_chain
  whole_short = growth_short t w well balanced some c (length c) 0 (Some r) whole_open whole_reached whole-lowest

  pub whole-stops : FirstGrown t w (Some r) 0 None → 0 < length c → Open t w c (length c - 1)
  whole-stops none long =
      let up : length c ≡ length c - 1 + 1 = omega arith in
      open_below t w well balanced some c (length c - 1) (subst (Open t w c) up whole_open) (subst (Barren t w c) up (growth_none t w well balanced some c (length c) 0 (Some r) whole_open whole_reached whole-lowest none))
