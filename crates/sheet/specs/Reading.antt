-- What reading a sheet at a place gives. Assumes nothing.
--   Reading          the end of the sheet, a command with the place after it, or a refusal: number and what it carries
--   value2, value4   the number that two and four bytes stand for, the highest first
--   command          what bytes that begin at a place are read as
--   reading          what a sheet is read as at a place
--   Spelled          what is read stands in the sheet, byte by byte
--   ReadsBack        a command's bytes are read as that command
--   number, carries, refusal   a fault's number and values, by case; its layer is the sheet
--   checked          a check as what it does to the outcome that would follow
use Rattle.std.specs.Prelude.{◌≡◌, ℕ, ◌+◌, ◌*◌, ◌<◌, ◌≤◌, cond, ◌||◌, List, [], ◌∷◌, ◌++◌, length, take, drop, Some, None, Ok, Err, Option, Result, ◌==◌, ◌≢◌, nat_lt, slice_index, slice_range}
use Rattle.std.specs.List.{prefix_len}
use Rattle.book.specs.Outcome.{Layer, chain, sheet, Outcome, refuses}
use Rattle.sheet.specs.Commands.{longest_sheet, note_length, last_rule, Meaning, post, amend, strike, clear, note, list, divide, meaning, bytes, printable, Fit}
use Rattle.sheet.specs.declared.command.Fault.{Fault}
use Rattle.sheet.specs.declared.command.Fault.TheVariants.{OutOfRange, UnknownCommand, CutOff, NoteByte, RuleByte, TooShort, TablesTooSmall}
use Rattle.sheet.specs.declared.command.Found.{Found}

pub data Reading : Type 0 where
  end : Reading
  read : Meaning → ℕ → Reading
  refused : ℕ → List ℕ → Reading

abbrev pub value2 : List ℕ → ℕ
value2 bs = slice_index bs 0 * 256 + slice_index bs 1

abbrev pub value4 : List ℕ → ℕ
value4 bs = slice_index bs 0 * 16777216 + slice_index bs 1 * 65536 + slice_index bs 2 * 256 + slice_index bs 3

-- a command whose operands have that width, at a place
abbrev pub whole : ℕ → ℕ → List ℕ → Reading → Reading
whole p width operands r = cond (nat_lt (length operands) width) (refused 14 (p ∷ [])) r

abbrev pub post_at : ℕ → List ℕ → Reading
post_at p bs = whole p 6 bs (read (post (slice_index bs 0) (slice_index bs 1) (value4 (drop 2 bs))) (p + 7))

abbrev pub amend_at : ℕ → List ℕ → Reading
amend_at p bs = whole p 6 bs (read (amend (value2 bs) (value4 (drop 2 bs))) (p + 7))

abbrev pub strike_at : ℕ → List ℕ → Reading
strike_at p bs = whole p 2 bs (read (strike (value2 bs)) (p + 3))

-- the first byte of a note that cannot stand there has so many before it
abbrev pub clean : List ℕ → ℕ
clean text = prefix_len printable text

abbrev pub note_at : ℕ → List ℕ → Reading
note_at p bs =
    whole p note_length bs
    (cond (nat_lt (clean (take note_length bs)) note_length) (refused 15 ((p + 1 + clean (take note_length bs)) ∷ [])) (read (note (take note_length bs)) (p + 17)))

abbrev pub list_at : ℕ → List ℕ → Reading
list_at p bs = whole p 4 bs (read (list (value4 bs)) (p + 5))

abbrev pub divide_at : ℕ → List ℕ → Reading
divide_at p bs = whole p 1 bs (cond (nat_lt last_rule (slice_index bs 0)) (refused 16 ((p + 1) ∷ [])) (read (divide (slice_index bs 0)) (p + 2)))

abbrev pub command : ℕ → List ℕ → Reading
command p [] = end
command p (byte ∷ bs) =
    cond (byte == 0x50) (post_at p bs)
    (cond (byte == 0x41) (amend_at p bs)
    (cond (byte == 0x53) (strike_at p bs)
    (cond (byte == 0x43) (read clear (p + 1))
    (cond (byte == 0x4E) (note_at p bs)
    (cond (byte == 0x4B) (list_at p bs)
    (cond (byte == 0x44) (divide_at p bs)
    (refused 13 (p ∷ []))))))))

abbrev pub reading : List ℕ → ℕ → Reading
reading s p = cond (nat_lt longest_sheet (length s) || nat_lt (length s) p) (refused 12 []) (command p (drop p s))

abbrev pub number : Fault → ℕ
number OutOfRange = 12
number (UnknownCommand place) = 13
number (CutOff place) = 14
number (NoteByte place) = 15
number (RuleByte place) = 16
number TooShort = 17
number TablesTooSmall = 10

abbrev pub carries : Fault → List ℕ
carries OutOfRange = []
carries (UnknownCommand place) = place ∷ []
carries (CutOff place) = place ∷ []
carries (NoteByte place) = place ∷ []
carries (RuleByte place) = place ∷ []
carries TooShort = []
carries TablesTooSmall = []

abbrev pub layer_of : Fault → Layer
layer_of OutOfRange = sheet
layer_of (UnknownCommand place) = sheet
layer_of (CutOff place) = sheet
layer_of (NoteByte place) = sheet
layer_of (RuleByte place) = sheet
layer_of TooShort = sheet
layer_of TablesTooSmall = chain

abbrev pub refusal : Fault → Outcome
refusal e = refuses (layer_of e) (number e) (carries e)

abbrev pub checked : {T : Type 0} → Result T Fault → Outcome → Outcome
checked (Ok x) o = o
checked (Err e) o = refusal e

-- the code's answers as readings
abbrev pub found : Result Found Fault → Reading
found (Ok f) = read (meaning f.command) f.after
found (Err e) = refused (number e) (carries e)

abbrev pub seen : Result (Option Found) Fault → Reading
seen (Ok None) = end
seen (Ok (Some f)) = read (meaning f.command) f.after
seen (Err e) = refused (number e) (carries e)

-- the bytes from the place to the place after are those of the command read, and its operands fit; a refusal but 12 comes within a sheet
abbrev pub Spelled : List ℕ → ℕ → Reading → Type 0
Spelled s p end = p ≡ length s
Spelled s p (read m q) = Fit m × (q ≡ p + length (bytes m)) × (q ≤ length s) × (slice_range s p q ≡ bytes m)
Spelled s p (refused n vs) = (n ≢ 12) → (p < length s) × (length s ≤ longest_sheet)

-- a command's bytes, wherever they stand in a sheet, are read as that command
abbrev pub ReadsBack : Meaning → Type 0
ReadsBack m =
    (front rest : List ℕ)
    → length (front ++ (bytes m ++ rest)) ≤ longest_sheet
    → reading (front ++ (bytes m ++ rest)) (length front) ≡ read m (length front + length (bytes m))
