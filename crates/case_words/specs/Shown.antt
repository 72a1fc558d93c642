-- What `{}` writes of the values that the programs of cases share, as bytes. Assumes nothing.
--   reply_text, refusal_text, told_text   what is answered where nothing is refused, a refusal, and either
--   replied_text                          a line of a file of cases, with its reply
--   numbers_text, rows_text, kept_text    the lines of a chain, rows of the tables, and whether something holds what it held before
use Rattle.std.specs.Prelude.{ℕ, ◌+◌, ◌-◌, ◌*◌, ◌/◌, min, Bool, true, false, cond, nat_lt, List, [], ◌∷◌, ◌++◌, Option, Some, None, Result, Ok, Err, length, take, drop, slice_index, codes, decimal, flat_map}
use Rattle.std.specs.Fmt.{◌++?◌}
use Rattle.std.specs.List.{range_with_len}
use Rattle.book.specs.declared.entries.Answer.{Answer}
use Rattle.book.specs.declared.entries.Answer.TheVariants.{Posted, Done}
use Rattle.book.specs.declared.entries.Line.{Line}
use Rattle.book.specs.declared.entries.Line.TheVariants.{Live, Struck}
use Rattle.chains.specs.Faults.{number, carries}
use Rattle.chains.specs.declared.certainty.Certainty.{Certainty}
use Rattle.chains.specs.declared.certainty.Certainty.TheVariants.{Held, Loose}
use Rattle.chains.specs.declared.faults.Fault.{Fault}
use Rattle.dividing.specs.Tables.{row_stride}
use Rattle.case_words.specs.declared.replies.Reply.{Reply}
use Rattle.case_words.specs.declared.replies.Reply.TheVariants as reply

-- each number, after a space
abbrev pub numbers_text : List ℕ → List ℕ
numbers_text numbers = flat_map (λ n. codes " " ++ decimal n) numbers

-- what a change of the book answers: the number of the line that is posted, or that it is done
abbrev pub answer_text : Answer → List ℕ
answer_text (Posted line) = codes "line " ++ decimal line
answer_text Done = codes "done"

-- a line of the book: live from an account to an account with its amount, struck, or none, where none of that number is posted
abbrev pub line_text : Option Line → List ℕ
line_text (Some (Live from to amount)) = codes "live" ++ numbers_text (from ∷ to ∷ amount ∷ [])
line_text (Some Struck) = codes "struck"
line_text None = codes "none"

-- held or loose, and with how many tonnes
abbrev pub certainty_text : Certainty → List ℕ
certainty_text (Held tonnes) = codes "held " ++ decimal tonnes
certainty_text (Loose tonnes) = codes "loose " ++ decimal tonnes

-- an account with its total, where that is above 0, and else nothing
abbrev pub total_text : ℕ → ℕ → List ℕ
total_text account total = cond (nat_lt 0 total) (decimal account ++ (codes ":" ++ (decimal total ++ codes " "))) []

-- so many accounts from 0 up, those with a total above 0
abbrev pub accounts_text : List ℕ → ℕ → List ℕ
accounts_text totals count = flat_map (λ account. total_text account (slice_index totals account)) (range_with_len 0 count)

-- each account with a total above 0, and that the rest have 0
abbrev pub totals_text : List ℕ → List ℕ
totals_text totals = accounts_text totals (length totals) ++ codes "rest 0"

-- what is answered where nothing is refused
abbrev pub reply_text : Reply → List ℕ
reply_text (reply.Answer answer) = answer_text answer
reply_text reply.Balanced = codes "balanced"
reply_text reply.Yes = codes "yes"
reply_text (reply.Number number) = decimal number
reply_text (reply.Totals totals) = totals_text totals
reply_text (reply.Line line) = line_text line
reply_text (reply.Certainty certainty) = certainty_text certainty

-- a refusal's number, and each value that it carries
abbrev pub refusal_text : Fault → List ℕ
refusal_text fault = codes "refused " ++ (decimal (number fault) ++ numbers_text (carries fault))

-- a reply, or the refusal
abbrev pub told_text : Result Reply Fault → List ℕ
told_text (Ok reply) = reply_text reply
told_text (Err fault) = refusal_text fault

-- a heading alone, or a case and behind an arrow its reply; where the reply's type states no text, nothing is said of a case
abbrev pub replied_text : {R : Type 0} → (R → Option (List ℕ)) → List ℕ → Option R → Option (List ℕ)
replied_text output line None = Some line
replied_text output line (Some reply) = Some line ++? Some (codes " -> ") ++? output reply

-- the entries of row i
abbrev pub row_at : List ℕ → ℕ → List ℕ
row_at rows i = take row_stride (drop (row_stride * i) rows)

-- a row with its tonnes before its lines; its first entry is how many they are
abbrev pub row_text : List ℕ → ℕ → List ℕ
row_text row tonnes = codes "; " ++ (decimal tonnes ++ (codes " on" ++ numbers_text (take (slice_index row 0) (drop 1 row))))

-- so many rows from the first on
abbrev pub first_rows_text : List ℕ → List ℕ → ℕ → List ℕ
first_rows_text rows tonnes count = flat_map (λ i. row_text (row_at rows i) (slice_index tonnes i)) (range_with_len 0 count)

-- how many rows begin among so many entries
abbrev pub rows_begun : ℕ → ℕ
rows_begun entries = (entries + row_stride - 1) / row_stride

-- the same, and no more rows than there are entries and tonnes for
abbrev pub rows_text : List ℕ → List ℕ → ℕ → List ℕ
rows_text rows tonnes count = first_rows_text rows tonnes (min count (min (rows_begun (length rows)) (length tonnes)))

-- whether something holds what it held before
abbrev pub kept_text : Bool → List ℕ
kept_text true = codes "kept"
kept_text false = codes "changed"
