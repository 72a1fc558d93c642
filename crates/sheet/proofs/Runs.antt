-- Runs of steps, one step more. Assumes nothing.
use Rattle.std.proofs.Common.{◌≡◌, ℕ, ◌+◌, ◌<◌, Bool, true, false, List, [], ◌∷◌, ◌++◌, length, Ok, Err, Result, sym, refl, ap, ◌∙◌, subst, arith}
use Rattle.std.proofs.lemmas.List.{length_push, flat_map_more}
use Rattle.std.proofs.lemmas.Bool.{both_ways}
use Rattle.std.specs.declared.alloc.AllocError.{AllocError}
use Rattle.sheet.specs.Running.{line_bytes, Added, Stopped, Ran}
use Rattle.sheet.specs.Statements.{State, Prints, Over, Steps, Rest}

pub steps_more : (a b c : State) (l : List ℕ) (ls : List (List ℕ)) → Steps a ls b → Prints b l c → Steps a (ls ++ l ∷ []) c
steps_more a b c l [] same prints = (c, subst (λ z. Prints z l c) (sym same) prints, refl)
steps_more a b c l (k ∷ ls) (m, first, rest) prints = (m, first, steps_more m b c l ls rest prints)

pub rest_before : (a b : State) (ls ks : List (List ℕ)) → Steps a ls b → Rest b ks → Rest a (ls ++ ks)
rest_before a b [] ks same rest = subst (λ z. Rest z ks) (sym same) rest
rest_before a b (l ∷ ls) ks (m, first, more) rest = (m, first, rest_before m b ls ks more rest)

-- n steps were made, from one state and output to another
pub record Running (a : State) (before : List ℕ) (n : ℕ) (b : State) (after : List ℕ) : Type 0 where
  pub printed : List (List ℕ)
  pub steps : Steps a printed b
  pub output : after ≡ before ++ line_bytes printed
  pub count : length printed ≡ n

pub running_more : (a b c : State) (before middle after l : List ℕ) (n : ℕ) → Running a before n b middle → Prints b l c → after ≡ middle ++ l → Running a before (n + 1) c after
running_more a b c before middle after l n run prints output = record {
  printed = run.printed ++ l ∷ [];
  steps = steps_more a b c l run.printed run.steps prints;
  output = output ∙ (ap (λ z. z ++ l) run.output ∙ flat_map_more (λ z. z) before run.printed l);
  count = length_push run.printed l ∙ ap (λ k. k + 1) run.count;
}

module _ (a b c : State) (before middle after : List ℕ) (n most : ℕ) (run : Running a before n b middle) where
  -- a run that comes to a state and an output equal to those that it is at
  stays : (r : Result Bool AllocError) → c ≡ b → after ≡ middle → Stopped most c run.printed r → Ran a before most r c after
  stays r same-state same-output how = record {
    printed = run.printed;
    steps = subst (Steps a run.printed) (sym same-state) run.steps;
    output = same-output ∙ run.output;
    stopped = how;
    law = λ ls rest. rest_before a b run.printed ls run.steps (subst (λ z. Rest z ls) same-state rest);
  }

  pub ran_over : n < most → (v : Bool) → v ≡ true → Added b middle (Ok v) c after → Ran a before most (Ok true) c after
  ran_over fewer true is (over, same-state, same-output) = stays (Ok true) same-state same-output (omega (arith, run.count), subst Over (sym same-state) over)
  ran_over fewer false is added = absurd (both_ways false refl is)

  pub running_on : (v : Bool) → v ≡ false → Added b middle (Ok v) c after → Running a before (n + 1) c after
  running_on true is added = absurd (both_ways true is refl)
  running_on false is (l, prints, output) = running_more a b c before middle after l n run prints output

  pub ran_refused : (r : Result Bool AllocError) (e : AllocError) → r ≡ Err e → Added b middle (Err e) c after → Ran a before most r c after
  ran_refused r e is (same-state, same-output) = subst (λ z. Ran a before most z c after) (sym is) (stays (Err e) same-state same-output tt)

  pub ran_all : c ≡ b → after ≡ middle → n ≡ most → Ran a before most (Ok false) c after
  ran_all same-state same-output full = stays (Ok false) same-state same-output (run.count ∙ full)
