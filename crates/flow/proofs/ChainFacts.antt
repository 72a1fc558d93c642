-- Facts on live lines, runs and chains: what a line's ends say, parts of chains, and accounts that rise along them. Assumes nothing.
--   leaves_by, enters_by   whether the line of a number leaves an account, or enters it
--   is_origin              the test for an origin
use Rattle.std.proofs.Common.{◌≡◌, ℕ, zero, suc, ◌+◌, ◌<◌, ◌≤◌, Bool, true, false, not, ◌&&◌, ◌||◌, eqb, leb, List, [], ◌∷◌, ◌++◌, length, Decides, sym, refl, ap, ◌∙◌, subst, arith}
use Rattle.std.proofs.ByRecursion.{all-has, All-weaker, has_push}
use Rattle.std.proofs.lemmas.Bool.{and_parts, and_from, or_from, both_ways, eqb-true, eq-eqb, ne_eqb, leb-true, le-leb, not-true, not_from_false}
use Rattle.std.specs.List.{AllByRecursion}
use Rattle.book.specs.Limits.{highest_account}
use Rattle.book.specs.Tally.{Tally, at, is_live, Sound}
use Rattle.book.specs.Totals.{any, enters, leaves, Enters, Leaves}
use Rattle.book.specs.declared.entries.Line.{Line}
use Rattle.book.specs.declared.entries.Line.TheVariants.{Live, Struck}
use Rattle.flow.specs.Chains.{from_of, to_of, runs, linked, Chain, start, run_to, Origin, Full, longest_chain}
use Rattle.flow.specs.Splits.{holds}
use Rattle.flow.proofs.Infix.{Apart, any_held, holds-end, holds-length, holds_parts}
use Rattle.flow.proofs.Sums.{Once, any_at, false_unless}

abbrev pub leaves_by : Tally → ℕ → ℕ → Bool
leaves_by t a n = leaves a (at t n)

abbrev pub enters_by : Tally → ℕ → ℕ → Bool
enters_by t a n = enters a (at t n)

-- one line
pub leaves_live : (a : ℕ) (l : Line) → leaves a l ≡ true → is_live l ≡ true
leaves_live a (Live from to amount) h = refl
leaves_live a Struck h = h

pub enters_live : (a : ℕ) (l : Line) → enters a l ≡ true → is_live l ≡ true
enters_live a (Live from to amount) h = refl
enters_live a Struck h = h

pub leaves_from : (a : ℕ) (l : Line) → leaves a l ≡ true → from_of l ≡ a
leaves_from a (Live from to amount) h = eqb-true from a h
leaves_from a Struck h = absurd (both_ways false refl h)

pub enters_to : (a : ℕ) (l : Line) → enters a l ≡ true → to_of l ≡ a
enters_to a (Live from to amount) h = eqb-true to a h
enters_to a Struck h = absurd (both_ways false refl h)

pub leaves_is : (a : ℕ) (l : Line) → is_live l ≡ true → leaves a l ≡ eqb (from_of l) a
leaves_is a (Live from to amount) h = refl
leaves_is a Struck h = absurd (both_ways false refl h)

pub enters_is : (a : ℕ) (l : Line) → is_live l ≡ true → enters a l ≡ eqb (to_of l) a
enters_is a (Live from to amount) h = refl
enters_is a Struck h = absurd (both_ways false refl h)

pub leaves_own : (l : Line) → is_live l ≡ true → leaves (from_of l) l ≡ true
leaves_own l h = leaves_is (from_of l) l h ∙ eq-eqb (from_of l) (from_of l) refl

pub enters_own : (l : Line) → is_live l ≡ true → enters (to_of l) l ≡ true
enters_own l h = enters_is (to_of l) l h ∙ eq-eqb (to_of l) (to_of l) refl

pub upward : (l : Line) → Sound l → is_live l ≡ true → from_of l < to_of l
upward (Live from to amount) sound h = sound.0
upward Struck sound h = absurd (both_ways false refl h)

to_within : (l : Line) → Sound l → to_of l ≤ highest_account
to_within (Live from to amount) sound = sound.1
to_within Struck sound = omega arith

-- the line of a number
pub sound_at : (t : Tally) → AllByRecursion Sound t → (n : ℕ) → Sound (at t n)
sound_at [] sound n = tt
sound_at (l ∷ t) sound zero = sound.0
sound_at (l ∷ t) sound (suc n) = sound_at t sound.1 n

pub live_within : (t : Tally) (n : ℕ) → is_live (at t n) ≡ true → n < length t
live_within [] n h = absurd (both_ways false refl h)
live_within (l ∷ t) zero h = omega arith
live_within (l ∷ t) (suc n) h = omega (arith, live_within t n h)

pub leaves_within : (t : Tally) (a n : ℕ) → leaves a (at t n) ≡ true → n < length t
leaves_within t a n h = live_within t n (leaves_live a (at t n) h)

pub leaves_some : (t : Tally) (a n : ℕ) → leaves a (at t n) ≡ true → Leaves t a
leaves_some t a n h = any_at (leaves a) t n Struck refl h

pub enters_some : (t : Tally) (a n : ℕ) → enters a (at t n) ≡ true → Enters t a
enters_some t a n h = any_at (enters a) t n Struck refl h

pub live_entered : (t : Tally) (n : ℕ) → is_live (at t n) ≡ true → Enters t (to_of (at t n))
live_entered t n live = enters_some t (to_of (at t n)) n (enters_own (at t n) live)

-- an origin, as a test
abbrev pub is_origin : Tally → ℕ → Bool
is_origin t a = any (leaves a) t && not (any (enters a) t)

pub decides_origin : (t : Tally) (a : ℕ) → Decides (is_origin t a) (Origin t a)
decides_origin t a = (
  (λ h. let p = and_parts (any (leaves a) t) (not (any (enters a) t)) h in record { left = p.0; unentered = not-true (any (enters a) t) p.1 }),
  (λ o. and_from (any (leaves a) t) (not (any (enters a) t)) o.left (not_from_false (any (enters a) t) o.unentered)),
)

-- runs
pub runs_step : (t : Tally) (a n : ℕ) (ns : List ℕ) → runs t a (n ∷ ns) ≡ true → (leaves a (at t n) ≡ true) × (runs t (to_of (at t n)) ns ≡ true)
runs_step t a n ns h = and_parts (leaves a (at t n)) (runs t (to_of (at t n)) ns) h

pub runs_from : (t : Tally) (a n : ℕ) (ns : List ℕ) → leaves a (at t n) ≡ true → runs t (to_of (at t n)) ns ≡ true → runs t a (n ∷ ns) ≡ true
runs_from t a n ns out rest = and_from (leaves a (at t n)) (runs t (to_of (at t n)) ns) out rest

pub runs_parts : (t : Tally) (a : ℕ) (x y : List ℕ) → runs t a (x ++ y) ≡ true → (runs t a x ≡ true) × (runs t (run_to t a x) y ≡ true)
runs_parts t a [] y h = (refl, h)
runs_parts t a (n ∷ x) y h =
    let p = runs_step t a n (x ++ y) h in
    let q = runs_parts t (to_of (at t n)) x y p.1 in
    (runs_from t a n x p.0 q.0, q.1)

pub run_to-append : (t : Tally) (a : ℕ) (x y : List ℕ) → run_to t a (x ++ y) ≡ run_to t (run_to t a x) y
run_to-append t a [] y = refl
run_to-append t a (n ∷ x) y = run_to-append t (to_of (at t n)) x y

pub runs_live : (t : Tally) (a : ℕ) (c : List ℕ) → runs t a c ≡ true → AllByRecursion (λ n. is_live (at t n) ≡ true) c
runs_live t a [] h = tt
runs_live t a (n ∷ ns) h = let p = runs_step t a n ns h in (leaves_live a (at t n) p.0, runs_live t (to_of (at t n)) ns p.1)

-- what they come to is entered
pub runs_entered : (t : Tally) (b : ℕ) (c : List ℕ) → Enters t b → runs t b c ≡ true → Enters t (run_to t b c)
runs_entered t b [] entered h = entered
runs_entered t b (n ∷ ns) entered h =
    let p = runs_step t b n ns h in
    runs_entered t (to_of (at t n)) ns (live_entered t n (leaves_live b (at t n) p.0)) p.1

pub runs-linked : (t : Tally) (a n : ℕ) (ns : List ℕ) → runs t a (n ∷ ns) ≡ true → linked t (n ∷ ns) ≡ true
runs-linked t a n ns h =
    let p = runs_step t a n ns h in
    and_from (is_live (at t n)) (runs t (to_of (at t n)) ns) (leaves_live a (at t n) p.0) p.1

-- chains
pub chain_short : (t : Tally) (c : List ℕ) → Chain t c → length c ≤ longest_chain
chain_short t c h = leb-true (length c) longest_chain (and_parts (leb (length c) longest_chain) (linked t c) h).0

pub chain_from : (t : Tally) (c : List ℕ) → length c ≤ longest_chain → linked t c ≡ true → Chain t c
chain_from t c short link = and_from (leb (length c) longest_chain) (linked t c) (le-leb (length c) longest_chain short) link

pub chain_step : (t : Tally) (n : ℕ) (ns : List ℕ) → Chain t (n ∷ ns) → (is_live (at t n) ≡ true) × (runs t (to_of (at t n)) ns ≡ true)
chain_step t n ns h = and_parts (is_live (at t n)) (runs t (to_of (at t n)) ns) (and_parts (leb (length (n ∷ ns)) longest_chain) (linked t (n ∷ ns)) h).1

pub chain_runs : (t : Tally) (c : List ℕ) → Chain t c → runs t (start t c) c ≡ true
chain_runs t [] h = refl
chain_runs t (n ∷ ns) h = let p = chain_step t n ns h in runs_from t (from_of (at t n)) n ns (leaves_own (at t n) p.0) p.1

pub chain_within : (t : Tally) (c : List ℕ) → Chain t c → AllByRecursion (λ n. n < length t) c
chain_within t c h = All-weaker (λ n. is_live (at t n) ≡ true) (λ n. n < length t) (live_within t) c (runs_live t (start t c) c (chain_runs t c h))

pub last_within : (t : Tally) (c : List ℕ) (n : ℕ) → Chain t (c ++ n ∷ []) → n < length t
last_within t c n h = all-has (λ k. k < length t) (c ++ n ∷ []) n (chain_within t (c ++ n ∷ []) h) (has_push c n)

-- a part of a chain, of one line or more, is a chain
pub chain_part : (t : Tally) (c d : List ℕ) → 0 < length c → Chain t d → holds c d ≡ true → Chain t c
chain_part t [] d some h held = absurd (omega arith)
chain_part t (n ∷ c) d some h held =
    let p = holds_parts (n ∷ c) d held in
    let x = p.0 in
    let y = p.1 in
    let run : runs t (start t d) (x ++ (n ∷ c ++ y)) ≡ true = subst (λ e. runs t (start t d) e ≡ true) p.2 (chain_runs t d h) in
    let from-x = (runs_parts t (start t d) x (n ∷ c ++ y) run).1 in
    let of_c = (runs_parts t (run_to t (start t d) x) (n ∷ c) y from-x).0 in
    chain_from t (n ∷ c) (omega (arith, holds-length (n ∷ c) d held, chain_short t d h)) (runs-linked t (run_to t (start t d) x) n c of_c)

pub chain_rest : (t : Tally) (n m : ℕ) (ns : List ℕ) → Chain t (n ∷ m ∷ ns) → Chain t (m ∷ ns)
chain_rest t n m ns h = chain_part t (m ∷ ns) (n ∷ m ∷ ns) (omega arith) h (holds-end (n ∷ []) (m ∷ ns))

-- a line of a chain after the first leaves the account that the lines before it lead to, and that account is entered
module _ (t : Tally) (first : ℕ) (inner : List ℕ) (p : ℕ) (rest : List ℕ) (chain : Chain t (first ∷ (inner ++ p ∷ rest))) where
  inner_runs : (runs t (to_of (at t first)) inner ≡ true) × (runs t (run_to t (to_of (at t first)) inner) (p ∷ rest) ≡ true)
  inner_runs = runs_parts t (to_of (at t first)) inner (p ∷ rest) (chain_step t first (inner ++ p ∷ rest) chain).1

  leaves_there : leaves (run_to t (to_of (at t first)) inner) (at t p) ≡ true
  leaves_there = (runs_step t (run_to t (to_of (at t first)) inner) p rest inner_runs.1).0

  pub line_meets : run_to t (to_of (at t first)) inner ≡ from_of (at t p)
  line_meets = sym (leaves_from (run_to t (to_of (at t first)) inner) (at t p) leaves_there)

  pub line_live : is_live (at t p) ≡ true
  line_live = leaves_live (run_to t (to_of (at t first)) inner) (at t p) leaves_there

  pub line-leaves : leaves (from_of (at t p)) (at t p) ≡ true
  line-leaves = leaves_own (at t p) line_live

  pub line_entered : Enters t (from_of (at t p))
  line_entered =
      subst (Enters t) line_meets
      (runs_entered t (to_of (at t first)) inner (live_entered t first (chain_step t first (inner ++ p ∷ rest) chain).0) inner_runs.0)

-- an account that a full chain enters it also leaves, where live lines leave that account
run_crosses : (t : Tally) (a b : ℕ) (d : List ℕ) → runs t b d ≡ true → any (leaves (run_to t b d)) t ≡ false → Leaves t a → any (leaves_by t a) d ≡ (eqb b a || any (enters_by t a) d)
run_crosses t a b [] run unleft left =
    sym (or_from (eqb b a) false (ne_eqb b a (λ e. both_ways (any (leaves a) t) (subst (λ z. any (leaves z) t ≡ false) e unleft) left)) refl)
run_crosses t a b (n ∷ d) run unleft left =
    let p = runs_step t b n d run in
    let live = leaves_live b (at t n) p.0 in
    let here : leaves_by t a n ≡ eqb b a = leaves_is a (at t n) live ∙ ap (λ z. eqb z a) (leaves_from b (at t n) p.0) in
    ap (λ v. v || any (leaves_by t a) d) here
    ∙ ap (λ v. eqb b a || v) (run_crosses t a (to_of (at t n)) d p.1 unleft left ∙ ap (λ v. v || any (enters_by t a) d) (sym (enters_is a (at t n) live)))

pub full_crosses : (t : Tally) (a : ℕ) (d : List ℕ) → Full t d → Enters t a → Leaves t a → any (leaves_by t a) d ≡ any (enters_by t a) d
full_crosses t a d full entered left =
    let apart : eqb (start t d) a ≡ false = ne_eqb (start t d) a (λ e. both_ways (any (enters a) t) (subst (λ z. any (enters z) t ≡ false) e full.origin.unentered) entered) in
    run_crosses t a (start t d) d (chain_runs t d full.chain) full.ending.unleft left ∙ ap (λ v. v || any (enters_by t a) d) apart

-- accounts rise along a run
module _ (t : Tally) (sound : AllByRecursion Sound t) where
  pub rises : (a n : ℕ) → leaves a (at t n) ≡ true → a < to_of (at t n)
  rises a n h = omega (arith, upward (at t n) (sound_at t sound n) (leaves_live a (at t n) h), leaves_from a (at t n) h)

  pub entered_within : (n : ℕ) → to_of (at t n) ≤ highest_account
  entered_within n = to_within (at t n) (sound_at t sound n)

  unleft_under : (a b : ℕ) (d : List ℕ) → runs t a d ≡ true → b < a → any (leaves_by t b) d ≡ false
  unleft_under a b [] run low = refl
  unleft_under a b (n ∷ d) run low =
      let p = runs_step t a n d run in
      let here : leaves_by t b n ≡ false = leaves_is b (at t n) (leaves_live a (at t n) p.0) ∙ ne_eqb (from_of (at t n)) b (λ e. omega (arith, leaves_from a (at t n) p.0)) in
      or_from (leaves_by t b n) (any (leaves_by t b) d) here (unleft_under (to_of (at t n)) b d p.1 (omega (arith, rises a n p.0)))

  unentered_upto : (a b : ℕ) (d : List ℕ) → runs t a d ≡ true → b ≤ a → any (enters_by t b) d ≡ false
  unentered_upto a b [] run low = refl
  unentered_upto a b (n ∷ d) run low =
      let p = runs_step t a n d run in
      let up = rises a n p.0 in
      let here : enters_by t b n ≡ false = enters_is b (at t n) (leaves_live a (at t n) p.0) ∙ ne_eqb (to_of (at t n)) b (λ e. omega arith) in
      or_from (enters_by t b n) (any (enters_by t b) d) here (unentered_upto (to_of (at t n)) b d p.1 (omega arith))

  pub leaves_once : (a b : ℕ) (d : List ℕ) → runs t a d ≡ true → Once (leaves_by t b) d
  leaves_once a b [] run = tt
  leaves_once a b (n ∷ d) run =
      let p = runs_step t a n d run in (
        (λ here. unleft_under (to_of (at t n)) b d p.1 (rises b n here)),
        leaves_once (to_of (at t n)) b d p.1,
      )

  pub enters_once : (a b : ℕ) (d : List ℕ) → runs t a d ≡ true → Once (enters_by t b) d
  enters_once a b [] run = tt
  enters_once a b (n ∷ d) run =
      let p = runs_step t a n d run in (
        (λ here. unentered_upto (to_of (at t n)) b d p.1 (omega (arith, enters_to b (at t n) here))),
        enters_once (to_of (at t n)) b d p.1,
      )

  pub runs_apart : (a : ℕ) (d : List ℕ) → runs t a d ≡ true → Apart d
  runs_apart a [] run = tt
  runs_apart a (n ∷ d) run =
      let p = runs_step t a n d run in
      let gone = unleft_under (to_of (at t n)) a d p.1 (rises a n p.0) in (
        false_unless (holds (n ∷ []) d) (λ has. both_ways (any (leaves_by t a) d) gone (any_held (leaves_by t a) n d p.0 has)),
        runs_apart (to_of (at t n)) d p.1,
      )

  pub run_length : (a : ℕ) (d : List ℕ) → runs t a d ≡ true → a + length d ≤ run_to t a d
  run_length a [] run = omega arith
  run_length a (n ∷ d) run =
      let p = runs_step t a n d run in
      omega (arith, rises a n p.0, run_length (to_of (at t n)) d p.1)

  pub run_within : (a : ℕ) (d : List ℕ) → a ≤ highest_account → run_to t a d ≤ highest_account
  run_within a [] low = low
  run_within a (n ∷ d) low = run_within (to_of (at t n)) d (entered_within n)

  -- so a run is never too long for a chain, and from an origin to an account that nothing leaves it is a full one
  pub runs_full : (a n : ℕ) (ns : List ℕ) → runs t a (n ∷ ns) ≡ true → Origin t a → any (leaves (run_to t a (n ∷ ns))) t ≡ false → Full t (n ∷ ns)
  runs_full a n ns run origin unleft =
      let p = runs_step t a n ns run in
      record {
        chain = chain_from t (n ∷ ns) (omega (arith, run_length a (n ∷ ns) run, run_within (to_of (at t n)) ns (entered_within n))) (runs-linked t a n ns run);
        origin = subst (Origin t) (sym (leaves_from a (at t n) p.0)) origin;
        ending = record {
          entered = runs_entered t (to_of (at t n)) ns (live_entered t n (leaves_live a (at t n) p.0)) p.1;
          unleft = unleft;
        };
      }
