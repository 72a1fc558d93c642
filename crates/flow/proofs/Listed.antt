-- The greatest certain chains: each by one line more at either end, decided by the excess, and their complete list. Assumes nothing.
--   greatest_by_one_line   a chain is greatest exactly when it is certain and no chain longer by one line is
--   certain_decided        whether a chain is certain, by its excess
--   greatest_decided       whether a list is a greatest certain chain
--   list_is_complete       the list of the greatest certain chains
use Rattle.std.proofs.Common.{◌≡◌, ℕ, ◌<◌, Bool, true, false, not, ◌&&◌, List, [], ◌∷◌, ◌++◌, length, ℤ, pos, ◌≤ℤ◌, Decides, filter, sym, refl, ap, ◌∙◌, subst, inl, inr, ⊎_elim, arith}
use lib.Signed.{le_z}
use Rattle.std.proofs.ByRecursion.{all-has, All-weaker, kept_by_passes}
use Rattle.std.proofs.lemmas.List.{length_push}
use Rattle.std.proofs.lemmas.Int.{ints}
use Rattle.std.proofs.lemmas.Bool.{and_parts, and_from, both_ways}
use Rattle.std.proofs.lemmas.Bool.Decides.{Decides-and, Decides-not, Decides-like}
use Rattle.std.specs.List.{ContainsAt, AllByRecursion}
use Rattle.book.specs.Tally.{Tally, WellFormed}
use Rattle.book.specs.Totals.{Balanced}
use Rattle.flow.specs.Chains.{Chain, is_chain, longest_chain}
use Rattle.flow.specs.Excess.{excess}
use Rattle.flow.specs.Listing.{Before, FirstAfter, Listing}
use Rattle.flow.specs.Promises.{Alone, GreatestByOneLine, Listed, ListIsComplete}
use Rattle.flow.specs.Splits.{begins, holds, Certain, Greatest}
use Rattle.flow.proofs.AllChains.{has_cases, has_none, has_kept, Sorted, sorted_ascends, sorted_kept, lists, sorted_lists, has_lists}
use Rattle.flow.proofs.Certainty.{certain_iff_excess}
use Rattle.flow.proofs.ChainFacts.{chain_part, chain_short, chain_within, last_within}
use Rattle.flow.proofs.Infix.{holds-begins, holds-start, holds-end, part_grows_left, front_grows_right}
use Rattle.flow.proofs.Order.{before_transitive, before_asymmetric, before_not_same, compare_before}
use Rattle.flow.proofs.Parts.{part_certain}
use Rattle.flow.proofs.Sums.{every_below, decides_every_below}

pub greatest_alone : (t : Tally) (w : ℕ) (c : List ℕ) → Greatest t w c → Alone t w c
greatest_alone t w c g = record {
  certain = g.certain;
  left = λ n chain certain. g.alone (n ∷ c) chain (holds-end (n ∷ []) c) (omega arith) certain;
  right = λ n chain certain. g.alone (c ++ n ∷ []) chain (holds-start c (n ∷ [])) (omega (arith, length_push c n)) certain;
}

decides_le_z : (a b : ℤ) → Decides (le_z a b) (a ≤ℤ b)
decides_le_z a b = ((λ h. grind (arith, ints)), λ h. grind (arith, ints))

-- two first ones after the same list are one
pub first_after_same : (t : Tally) (w : ℕ) (given c d : List ℕ) → FirstAfter t w given c → FirstAfter t w given d → d ≡ c
first_after_same t w given c d f g =
    elim (compare_before c d) [
      | inl h ↦ absurd (g.first c f.greatest f.after h)
      | inr (inl same) ↦ sym same
      | inr (inr h) ↦ absurd (f.first d g.greatest g.after h)
    ]

pub listing_same : (t : Tally) (w : ℕ) (given : List ℕ) (cs ds : List (List ℕ)) → Listing t w given cs → Listing t w given ds → ds ≡ cs
listing_same t w given [] [] l m = refl
listing_same t w given [] (d ∷ ds) l m = absurd (l d m.0.greatest m.0.after)
listing_same t w given (c ∷ cs) [] l m = absurd (m c l.0.greatest l.0.after)
listing_same t w given (c ∷ cs) (d ∷ ds) l m =
    let same = first_after_same t w given c d l.0 m.0 in
    ap (λ z. z ∷ ds) same ∙ ap (λ zs. c ∷ zs) (listing_same t w c cs ds l.1 (subst (λ z. Listing t w z ds) same m.1))

-- sorted lists, all greatest certain chains, among them every one that stands after a list
pub record Rest (t : Tally) (w : ℕ) (given : List ℕ) (cs : List (List ℕ)) : Type 0 where
  pub sorted : Sorted cs
  pub only : AllByRecursion (Greatest t w) cs
  pub every : (d : List ℕ) → Greatest t w d → Before given d → ContainsAt cs d

module _ (t : Tally) (w : ℕ) (given c : List ℕ) (cs : List (List ℕ)) (rest : Rest t w given (c ∷ cs)) where
  rest_first : Before given c → FirstAfter t w given c
  rest_first after = record {
    greatest = rest.only.0;
    after = after;
    first = λ d greatest between before.
        ⊎_elim
        (λ same. before_not_same d c before (sym same))
        (λ later. before_asymmetric d c before (all-has (Before c) cs d rest.sorted.0 later))
        (has_cases c cs d (rest.every d greatest between));
  }

  -- what stands after the head is in the tail
  rest_next : Before given c → Rest t w c cs
  rest_next after = record {
    sorted = rest.sorted.1;
    only = rest.only.1;
    every = λ d greatest later.
        ⊎_elim
        (λ same. absurd (before_not_same c d later same))
        (λ h. h)
        (has_cases c cs d (rest.every d greatest (before_transitive given c d after later)));
  }

pub rest_listing : (t : Tally) (w : ℕ) (given : List ℕ) (cs : List (List ℕ)) → AllByRecursion (Before given) cs → Rest t w given cs → Listing t w given cs
rest_listing t w given [] after rest = λ d greatest later. has_none d (rest.every d greatest later)
rest_listing t w given (c ∷ cs) after rest =
    (rest_first t w given c cs rest after.0, rest_listing t w c cs rest.sorted.0 (rest_next t w given c cs rest after.0))

-- a chain whose excess is the floor or more; and one of those that no line more keeps so, at either end
abbrev pub is_certain : Tally → ℕ → List ℕ → Bool
is_certain t w c = is_chain t c && le_z (pos w) (excess t c)

abbrev pub none_certain : Tally → ℕ → (ℕ → List ℕ) → Bool
none_certain t w longer = every_below (λ n. not (is_certain t w (longer n))) (length t)

abbrev pub is_greatest : Tally → ℕ → List ℕ → Bool
is_greatest t w c = is_certain t w c && (none_certain t w (λ n. n ∷ c) && none_certain t w (λ n. c ++ n ∷ []))

-- the lists that pass, in order
pub greatest_list : Tally → ℕ → List (List ℕ)
greatest_list t w = filter (is_greatest t w) (lists longest_chain (length t))

sorted_greatest : (t : Tally) (w : ℕ) → Sorted (greatest_list t w)
unfolding greatest_list
sorted_greatest t w = sorted_kept (is_greatest t w) (lists longest_chain (length t)) (sorted_lists longest_chain (length t))

chain_after_none : (t : Tally) (c : List ℕ) → Chain t c → Before [] c
chain_after_none t [] chain = both_ways false refl chain
chain_after_none t (n ∷ c) chain = tt

pub alone_greatest : (t : Tally) (w : ℕ) (c : List ℕ) → Chain t c → Alone t w c → Greatest t w c
alone_greatest t w c chain a = record {
  chain = chain;
  certain = a.certain;
  alone = λ d chain-d held longer certain-d.
      ⊎_elim
      (λ front. grows_right d chain-d certain-d (front_grows_right c d front longer))
      (grows_left d chain-d certain-d)
      (part_grows_left c d held);
}
  where
    grows_left : (d : List ℕ) → Chain t d → Certain t w d → (m : ℕ) × (holds (m ∷ c) d ≡ true) → ⊥
    grows_left d chain-d certain-d (m, held) =
        let longer : Chain t (m ∷ c) = chain_part t (m ∷ c) d (omega arith) chain-d held in
        a.left m longer (part_certain t w (m ∷ c) d longer certain-d held)

    grows_right : (d : List ℕ) → Chain t d → Certain t w d → (m : ℕ) × (begins (c ++ m ∷ []) d ≡ true) → ⊥
    grows_right d chain-d certain-d (m, front) =
        let held : holds (c ++ m ∷ []) d ≡ true = holds-begins (c ++ m ∷ []) d front in
        let longer : Chain t (c ++ m ∷ []) = chain_part t (c ++ m ∷ []) d (omega (arith, length_push c m)) chain-d held in
        a.right m longer (part_certain t w (c ++ m ∷ []) d longer certain-d held)

pub greatest_by_one_line : GreatestByOneLine
greatest_by_one_line t w c well balanced some chain = (greatest_alone t w c, alone_greatest t w c chain)

module _ (t : Tally) (w : ℕ) (well : WellFormed t) (balanced : Balanced t) (some : 0 < w) where
  pub certain_decided : (c : List ℕ) → Chain t c → Decides (le_z (pos w) (excess t c)) (Certain t w c)
  certain_decided c chain =
      let iff = certain_iff_excess t w c well balanced chain some in
      Decides-like (le_z (pos w) (excess t c)) iff.1 iff.0 (decides_le_z (pos w) (excess t c))

  pub certain_chain_decided : (c : List ℕ) → Decides (is_certain t w c) (Chain t c × Certain t w c)
  certain_chain_decided c = (
    (λ h.
        let p = and_parts (is_chain t c) (le_z (pos w) (excess t c)) h in
        (p.0, (certain_decided c p.0).0 p.1)),
    (λ h. and_from (is_chain t c) (le_z (pos w) (excess t c)) h.0 ((certain_decided c h.0).1 h.1)),
  )

  -- for every line, since one past the end of the tally is in no chain
  none_certain_decided : (longer : ℕ → List ℕ) → ((n : ℕ) → Chain t (longer n) → n < length t) → Decides (none_certain t w longer) ((n : ℕ) → Chain t (longer n) → Certain t w (longer n) → ⊥)
  none_certain_decided longer within =
      Decides-like (none_certain t w longer)
      (λ below n chain certain. below n (within n chain) (chain, certain))
      (λ none n h both. none n both.0 both.1)
      (decides_every_below (λ n. not (is_certain t w (longer n))) (λ n. Chain t (longer n) × Certain t w (longer n) → ⊥) (λ n. Decides-not (is_certain t w (longer n)) (certain_chain_decided (longer n))) (length t))

  pub greatest_decided : (c : List ℕ) → Decides (is_greatest t w c) (Greatest t w c)
  greatest_decided c =
      let no_left : Bool = none_certain t w (λ n. n ∷ c) in
      let no_right : Bool = none_certain t w (λ n. c ++ n ∷ []) in
      let left = none_certain_decided (λ n. n ∷ c) (λ n chain. (chain_within t (n ∷ c) chain).0) in
      let right = none_certain_decided (λ n. c ++ n ∷ []) (λ n chain. last_within t c n chain) in
      Decides-like (is_greatest t w c)
      (λ h. alone_greatest t w c h.0.0 (record { certain = h.0.1; left = h.1.0; right = h.1.1 }))
      (λ g. let a = greatest_alone t w c g in ((g.chain, g.certain), (a.left, a.right)))
      (Decides-and (is_certain t w c) (no_left && no_right) (certain_chain_decided c) (Decides-and no_left no_right left right))

  greatest_has : (c : List ℕ) → Greatest t w c → ContainsAt (greatest_list t w) c
  unfolding greatest_list
  greatest_has c g =
      has_kept (is_greatest t w) (lists longest_chain (length t)) c
      (has_lists longest_chain (length t) c (chain_short t c g.chain) (chain_within t c g.chain))
      ((greatest_decided c).1 g)

  greatest_only : AllByRecursion (Greatest t w) (greatest_list t w)
  unfolding greatest_list
  greatest_only =
      All-weaker (λ c. is_greatest t w c ≡ true) (Greatest t w) (λ c. (greatest_decided c).0)
      (greatest_list t w) (kept_by_passes (is_greatest t w) (lists longest_chain (length t)))

  greatest_rest : (given : List ℕ) → Rest t w given (greatest_list t w)
  greatest_rest given = record {
    sorted = sorted_greatest t w;
    only = greatest_only;
    every = λ d greatest after. greatest_has d greatest;
  }

  after_none : AllByRecursion (Before []) (greatest_list t w)
  after_none = All-weaker (Greatest t w) (Before []) (λ c g. chain_after_none t c g.chain) (greatest_list t w) greatest_only

  pub greatest_listed : Listed t w (greatest_list t w)
  greatest_listed =
      let listing = rest_listing t w [] (greatest_list t w) after_none (greatest_rest []) in
      record {
        listing = listing;
        alone = λ others l. listing_same t w [] (greatest_list t w) others listing l;
        ascends = sorted_ascends [] (greatest_list t w) after_none (sorted_greatest t w);
        every = greatest_has;
        only = λ c h. all-has (Greatest t w) (greatest_list t w) c greatest_only h;
      }

pub list_is_complete : ListIsComplete
list_is_complete t w well balanced some = (greatest_list t w, greatest_listed t w well balanced some)
