-- Walks under a rule: they run through lines with tonnes left, and where the tonnes left are fair there is exactly one from every origin with tonnes on a line out. Assumes nothing.
--   Fair     the tonnes left: none off the live lines, and as much into as out of each account with live lines on both sides
use Rattle.std.proofs.Common.{◌≡◌, ℕ, zero, suc, ◌+◌, ◌<◌, ◌≤◌, true, false, List, [], ◌∷◌, ◌++◌, length, get_or, sym, refl, ap, ◌∙◌, subst, ⊎_elim, arith}
use Rattle.std.specs.List.{AllByRecursion}
use Rattle.std.proofs.lemmas.List.{append_assoc, append-nil}
use Rattle.std.proofs.lemmas.Bool.{cases_Bool, both_ways}
use Rattle.book.specs.Limits.{most_lines, accounts}
use Rattle.book.specs.Tally.{Tally, at, is_live, WellFormed}
use Rattle.book.specs.Totals.{any, enters, leaves, Enters, Leaves}
use Rattle.flow.specs.Chains.{from_of, to_of, runs, run_to, Origin}
use Rattle.flow.specs.Dividing.{Walk}
use Rattle.flow.specs.Rules.{Choice, Law, Open}
use Rattle.flow.proofs.ChainFacts.{leaves_live, leaves_from, leaves_own, leaves_some, enters_live, enters_to, enters_own, enters_some, upward, sound_at, rises, entered_within, runs_from}
use Rattle.flow.proofs.RuleLaws.{open_leaves, open_some, open_from}
use Rattle.flow.proofs.TonnesLeft.{weigh, weigh-at, weigh_some}

-- an account with an open line is left
pub open_left : (t : Tally) (left : List ℕ) (a n : ℕ) → Open t left a n → Leaves t a
open_left t left a n opened = leaves_some t a n (open_leaves t left a n opened)

-- a walk is a run of lines, each with tonnes left, to an account that nothing leaves
module _ (choice : Choice) (t : Tally) (left : List ℕ) where
  pub walk_runs : (a : ℕ) (walked c : List ℕ) → Walk choice t left a walked c → runs t a c ≡ true
  walk_runs a walked [] w = refl
  walk_runs a walked (n ∷ ns) w =
      runs_from t a n ns (open_leaves t left a n w.1) (walk_runs (to_of (at t n)) (walked ++ n ∷ []) ns w.2)

  pub walk_ends : (a : ℕ) (walked c : List ℕ) → Walk choice t left a walked c → any (leaves (run_to t a c)) t ≡ false
  walk_ends a walked [] w = w
  walk_ends a walked (n ∷ ns) w = walk_ends (to_of (at t n)) (walked ++ n ∷ []) ns w.2

  pub walk_some : (a : ℕ) (walked c : List ℕ) → Walk choice t left a walked c → AllByRecursion (λ n. 0 < get_or left n 0) c
  walk_some a walked [] w = tt
  walk_some a walked (n ∷ ns) w = (open_some t left a n w.1, walk_some (to_of (at t n)) (walked ++ n ∷ []) ns w.2)

  -- there is but one from an account
  pub walk_alone : (a : ℕ) (walked c d : List ℕ) → Walk choice t left a walked c → Walk choice t left a walked d → c ≡ d
  walk_alone a walked [] [] v w = refl
  walk_alone a walked [] (m ∷ ms) v w = absurd (both_ways (any (leaves a) t) v (open_left t left a m w.1))
  walk_alone a walked (n ∷ ns) [] v w = absurd (both_ways (any (leaves a) t) w (open_left t left a n v.1))
  walk_alone a walked (n ∷ ns) (m ∷ ms) v w =
      let same : n ≡ m = v.0 ∙ sym w.0 in
      ap (λ rest. n ∷ rest) (walk_alone (to_of (at t n)) (walked ++ n ∷ []) ns ms v.2 (subst (λ j. Walk choice t left (to_of (at t j)) (walked ++ j ∷ []) ms) (sym same) w.2))
      ∙ ap (λ j. j ∷ ms) same

  -- each line is the one that the rule names there, and open
  pub walk_at : (a : ℕ) (walked w : List ℕ) (n : ℕ) (z : List ℕ) → Walk choice t left a walked (w ++ n ∷ z) → (n ≡ choice t left (from_of (at t n)) (walked ++ w)) × Open t left (from_of (at t n)) n
  walk_at a walked [] n z walk =
      let here : a ≡ from_of (at t n) = sym (leaves_from a (at t n) (open_leaves t left a n walk.1)) in (
        walk.0 ∙ (ap (λ b. choice t left b walked) here ∙ ap (choice t left (from_of (at t n))) (sym (append-nil walked))),
        subst (λ b. Open t left b n) here walk.1,
      )
  walk_at a walked (m ∷ w) n z walk =
      let later = walk_at (to_of (at t m)) (walked ++ m ∷ []) w n z walk.2 in
      (later.0 ∙ ap (choice t left (from_of (at t n))) (append_assoc walked (m ∷ []) w), later.1)

-- tonnes on the lines out of an account are on an open line
pub open_out : (t : Tally) (left : List ℕ) (a : ℕ) → 0 < weigh (leaves a) t left → (n : ℕ) × Open t left a n
open_out t left a some = let r = weigh_some (leaves a) t left some in (r.0, open_from t left a r.0 r.1 r.2)

pub record Fair (t : Tally) (left : List ℕ) : Type 0 where
  pub whole : length left ≡ most_lines
  pub spent : (n : ℕ) → is_live (at t n) ≡ false → get_or left n 0 ≡ 0
  pub even : (a : ℕ) → Enters t a → Leaves t a → weigh (enters a) t left ≡ weigh (leaves a) t left

module _ (t : Tally) (left : List ℕ) (well : WellFormed t) (fair : Fair t left) where
  -- what was entered by a line with tonnes left is left by such a line, if at all
  pub open_on : (a n : ℕ) → Open t left a n → Leaves t (to_of (at t n)) → (m : ℕ) × Open t left (to_of (at t n)) m
  open_on a n opened left-on =
      let to = to_of (at t n) in
      let into = enters_own (at t n) (leaves_live a (at t n) (open_leaves t left a n opened)) in
      open_out t left to (omega (arith, fair.even to (enters_some t to n into) left-on, weigh-at (enters to) t left n refl into, open_some t left a n opened))

  -- so a walk goes on to an end account
  pub walk_from : (choice : Choice) → Law choice → (fuel a : ℕ) (walked : List ℕ) → accounts ≤ fuel + a → (Leaves t a → (n : ℕ) × Open t left a n) → (c : List ℕ) × Walk choice t left a walked c
  walk_from choice law zero a walked enough on =
      ⊎_elim
      (λ some. let r = on some in absurd (omega (arith, rises t well.1 a r.0 (open_leaves t left a r.0 r.1), entered_within t well.1 r.0)))
      (λ none. ([], none))
      (cases_Bool (any (leaves a) t))
  walk_from choice law (suc fuel) a walked enough on =
      ⊎_elim
      (λ some.
      let r = on some in
      let n = choice t left a walked in
      let opened : Open t left a n = law t left a walked well fair.whole r.0 r.1 in
      let up = rises t well.1 a n (open_leaves t left a n opened) in
      let rest = walk_from choice law fuel (to_of (at t n)) (walked ++ n ∷ []) (omega arith) (open_on a n opened) in
      (n ∷ rest.0, (refl, opened, rest.1)))
      (λ none. ([], none))
      (cases_Bool (any (leaves a) t))

  -- tonnes left on any line go back to an origin
  pub open_origin : (fuel n : ℕ) → from_of (at t n) < fuel → is_live (at t n) ≡ true → 0 < get_or left n 0 → (a m : ℕ) × Origin t a × Open t left a m
  open_origin zero n enough live some = absurd (omega arith)
  open_origin (suc fuel) n enough live some =
      let a = from_of (at t n) in
      let out : leaves a (at t n) ≡ true = leaves_own (at t n) live in
      let leaves-a : Leaves t a = leaves_some t a n out in
      ⊎_elim
      (λ entered.
      let r = weigh_some (enters a) t left (omega (arith, fair.even a entered leaves-a, weigh-at (leaves a) t left n refl out)) in
      let live_in = enters_live a (at t r.0) r.1 in
      open_origin fuel r.0 (omega (arith, upward (at t r.0) (sound_at t well.1 r.0) live_in, enters_to a (at t r.0) r.1)) live_in r.2)
      (λ unentered. (a, n, record { left = leaves-a; unentered = unentered }, open_from t left a n out some))
      (cases_Bool (any (enters a) t))
