-- The number and the values of each answer and refusal of the book, by case. Assumes nothing.
--   number, carries   a fault's number, and the values that it carries
--   refusal           a fault as an outcome; its layer is the book
--   posted, done      the results of post, and of amend and strike, as outcomes
--   values, told      the values of the answer of any call, and its result as an outcome
--   checked           a check as what it does to the outcome that would follow
use Rattle.std.specs.Prelude.{ℕ, List, [], ◌∷◌, Ok, Err, Result}
use Rattle.book.specs.Outcome.{book, Outcome, answers, refuses}
use Rattle.book.specs.declared.entries.Answer.{Answer}
use Rattle.book.specs.declared.entries.Answer.TheVariants.{Posted, Done}
use Rattle.book.specs.declared.entries.Fault.{Fault}
use Rattle.book.specs.declared.entries.Fault.TheVariants.{Full, AccountTooHigh, NotUpward, AmountOutOfLimits, NotPosted, LineStruck, Unbalanced}

abbrev pub number : Fault → ℕ
number Full = 1
number (AccountTooHigh account) = 2
number NotUpward = 3
number (AmountOutOfLimits amount) = 4
number (NotPosted line) = 5
number (LineStruck line) = 6
number (Unbalanced account in_total out_total) = 7

abbrev pub carries : Fault → List ℕ
carries Full = []
carries (AccountTooHigh account) = account ∷ []
carries NotUpward = []
carries (AmountOutOfLimits amount) = amount ∷ []
carries (NotPosted line) = line ∷ []
carries (LineStruck line) = line ∷ []
carries (Unbalanced account in_total out_total) = account ∷ in_total ∷ out_total ∷ []

abbrev pub refusal : Fault → Outcome
refusal e = refuses book (number e) (carries e)

abbrev pub ended : {T : Type 0} → (T → List ℕ) → Result T Fault → Outcome
ended values_of (Ok x) = answers (values_of x)
ended values_of (Err e) = refusal e

abbrev pub posted : Result ℕ Fault → Outcome
posted r = ended (λ n. n ∷ []) r

abbrev pub done : {T : Type 0} → Result T Fault → Outcome
done r = ended (λ _. []) r

abbrev pub values : Answer → List ℕ
values (Posted line) = line ∷ []
values Done = []

abbrev pub told : Result Answer Fault → Outcome
told r = ended values r

abbrev pub checked : {T : Type 0} → Result T Fault → Outcome → Outcome
checked (Ok x) o = o
checked (Err e) o = refusal e
