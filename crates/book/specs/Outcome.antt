-- How a call ends, and the stops that lead to a refusal. Assumes nothing.
--   Layer     where a refusal's number belongs
--   Outcome   the values that a call answers, or its refusal: layer, number and what it carries
--   Stop      one row of a table of stops: a condition, and the refusal where it is met
--   stopped   the table read from the top: the first stop met, or else the outcome given
--   settled   of what stood before a call and what its success would leave, the one that its outcome leaves
use Rattle.std.specs.Prelude.{ℕ, Bool, cond, List, [], ◌∷◌}

pub data Layer : Type 0 where
  book : Layer
  chain : Layer
  sheet : Layer

pub data Outcome : Type 0 where
  answers : List ℕ → Outcome
  refuses : Layer → ℕ → List ℕ → Outcome

pub record Stop : Type 0 where
  pub met : Bool
  pub refusal : Outcome

abbrev pub stop : Bool → Layer → ℕ → List ℕ → Stop
stop b l n vs = record { met = b; refusal = refuses l n vs }

abbrev pub stopped : List Stop → Outcome → Outcome
stopped [] o = o
stopped (s ∷ ss) o = cond s.met s.refusal (stopped ss o)

abbrev pub settled : {X : Type 0} → Outcome → X → X → X
settled (answers vs) before after = after
settled (refuses l n vs) before after = before
