-- The tally of every list of calls is well-formed. Assumes nothing.
use Rattle.std.proofs.Common.{◌≡◌, ℕ, zero, suc, ◌<◌, ◌≤◌, Bool, false, ◌||◌, eqb, ltb, List, [], ◌∷◌, length, set, sym, refl, subst, arith}
use Rattle.std.proofs.ByRecursion.{All-push, All-set}
use Rattle.std.proofs.lemmas.List.{length_push, length-set}
use Rattle.std.proofs.lemmas.Bool.{cond_both, eqb-false, leb-false, ltb-false, or_parts}
use Rattle.std.specs.List.{AllByRecursion}
use Rattle.book.specs.Limits.{most_lines, highest_account, greatest_amount}
use Rattle.book.specs.Outcome.{Stop, answers, stopped, settled}
use Rattle.book.specs.Tally.{Tally, at, Sound, WellFormed, with_amount, stops, changed, after, tally}
use Rattle.book.specs.declared.entries.Call.{Call}
use Rattle.book.specs.declared.entries.Call.TheVariants.{Post, Amend, Strike, Clear}
use Rattle.book.specs.declared.entries.Line.{Line}
use Rattle.book.specs.declared.entries.Line.TheVariants.{Live, Struck}

-- a tally is well-formed after stops that refuse, if it was before and would be where none of them is met
past_stops : (ss : List Stop) (vs : List ℕ) (before next : Tally) → AllByRecursion (λ s. settled s.refusal before next ≡ before) ss → WellFormed before → (AllByRecursion (λ s. s.met ≡ false) ss → WellFormed next) → WellFormed (settled (stopped ss (answers vs)) before next)
past_stops [] vs before next refused well go = go tt
past_stops (s ∷ ss) vs before next refused well go =
    cond_both s.met s.refusal (stopped ss (answers vs)) (λ o. WellFormed (settled o before next))
    (λ met. subst WellFormed (sym refused.0) well)
    (λ unmet. past_stops ss vs before next refused.1 well (λ others. go (unmet, others)))

sized : (amount : ℕ) → ◌≡◌ {A = Bool} (eqb amount 0 || ltb greatest_amount amount) false → (0 < amount) × (amount ≤ greatest_amount)
sized amount unmet =
    let parts = or_parts (eqb amount 0) (ltb greatest_amount amount) unmet in
    let some = eqb-false amount 0 parts.0 in
    (omega arith, ltb-false greatest_amount amount parts.1)

sound_amount : (amount : ℕ) (l : Line) → 0 < amount → amount ≤ greatest_amount → Sound l → Sound (with_amount amount l)
sound_amount amount (Live from to was) some few (up, placed, _, _) = (up, placed, some, few)
sound_amount amount Struck some few sound = tt

sound_at : (t : Tally) (n : ℕ) → AllByRecursion Sound t → Sound (at t n)
sound_at [] n sound = tt
sound_at (l ∷ t) zero sound = sound.0
sound_at (l ∷ t) (suc n) sound = sound_at t n sound.1

set_well_formed : (t : Tally) (n : ℕ) (l : Line) → Sound l → WellFormed t → WellFormed (set t n l)
set_well_formed t n l sound well = (omega (arith, length-set t n l), All-set Sound t n l sound well.1)

pub after_well_formed : (t : Tally) (c : Call) → WellFormed t → WellFormed (after t c)
after_well_formed t (Post from to amount) well =
    past_stops (stops t (Post from to amount)) (length t ∷ []) t (changed t (Post from to amount)) (refl, (refl, (refl, (refl, (refl, tt))))) well
    (λ (room, (low, (placed, (upward, (within, _))))).
    let s = sized amount within in (
      omega (arith, length_push t (Live from to amount), leb-false most_lines (length t) room),
      All-push Sound t (Live from to amount) well.1 (leb-false to from upward, ltb-false highest_account to placed, s.0, s.1),
    ))
after_well_formed t (Amend line amount) well =
    past_stops (stops t (Amend line amount)) [] t (changed t (Amend line amount)) (refl, (refl, (refl, tt))) well
    (λ (posted, (live, (within, _))).
    let s = sized amount within in
    set_well_formed t line (with_amount amount (at t line)) (sound_amount amount (at t line) s.0 s.1 (sound_at t line well.1)) well)
after_well_formed t (Strike line) well =
    past_stops (stops t (Strike line)) [] t (changed t (Strike line)) (refl, (refl, tt)) well (λ _. set_well_formed t line Struck tt well)
after_well_formed t Clear well = (omega arith, tt)

pub tally_well_formed : (calls : List Call) (t : Tally) → WellFormed t → WellFormed (tally t calls)
tally_well_formed [] t well = well
tally_well_formed (c ∷ cs) t well = tally_well_formed cs (after t c) (after_well_formed t c well)
