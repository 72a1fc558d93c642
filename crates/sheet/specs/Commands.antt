-- A command's meaning and its bytes. Assumes nothing.
--   longest_sheet, note_length   the most bytes of a sheet, and the bytes of a note's text
--   Meaning      a command as a plain value
--   meaning      what a command of the code stands for
--   big2, big4   a number in two and in four bytes, the highest first
--   bytes        a command's bytes
--   printable    whether a byte can stand in a note
--   Printable    a text of 16 such bytes
--   Fit          operands within their widths, and a note of 16 such bytes
use Rattle.std.specs.Prelude.{◌≡◌, ℕ, ◌/◌, ◌%◌, ◌^◌, ◌<◌, ◌≤◌, Bool, true, ◌&&◌, List, [], ◌∷◌, ◌++◌, length, nat_le}
use Rattle.std.specs.List.{AllByRecursion}
use Rattle.sheet.specs.declared.command.Command.{Command}
use Rattle.sheet.specs.declared.command.Command.TheVariants.{Post, Amend, Strike, Clear, Note, List as ListCommand, Divide}

abbrev pub longest_sheet : ℕ
longest_sheet = 32_768

abbrev pub note_length : ℕ
note_length = 16

-- the rules of a divide command are 0 and 1
abbrev pub last_rule : ℕ
last_rule = 1

pub data Meaning : Type 0 where
  post : ℕ → ℕ → ℕ → Meaning
  amend : ℕ → ℕ → Meaning
  strike : ℕ → Meaning
  clear : Meaning
  note : List ℕ → Meaning
  list : ℕ → Meaning
  divide : ℕ → Meaning

abbrev pub meaning : Command → Meaning
meaning (Post from to amount) = post from to amount
meaning (Amend line amount) = amend line amount
meaning (Strike line) = strike line
meaning Clear = clear
meaning (Note text) = note text.now
meaning (ListCommand floor) = list floor
meaning (Divide rule) = divide rule

abbrev pub big2 : ℕ → List ℕ
big2 n = (n / 256 % 256) ∷ (n % 256) ∷ []

abbrev pub big4 : ℕ → List ℕ
big4 n = (n / 16777216 % 256) ∷ (n / 65536 % 256) ∷ (n / 256 % 256) ∷ (n % 256) ∷ []

abbrev pub bytes : Meaning → List ℕ
bytes (post from to amount) = 0x50 ∷ from ∷ to ∷ big4 amount
bytes (amend line amount) = 0x41 ∷ (big2 line ++ big4 amount)
bytes (strike line) = 0x53 ∷ big2 line
bytes clear = 0x43 ∷ []
bytes (note text) = 0x4E ∷ text
bytes (list floor) = 0x4B ∷ big4 floor
bytes (divide rule) = 0x44 ∷ rule ∷ []

abbrev pub printable : ℕ → Bool
printable b = nat_le 0x20 b && nat_le b 0x7E

abbrev pub Printable : List ℕ → Type 0
Printable text = (length text ≡ note_length) × AllByRecursion (λ b. printable b ≡ true) text

abbrev pub Fit : Meaning → Type 0
Fit (post from to amount) = (from < 256) × (to < 256) × (amount < 2 ^ 32)
Fit (amend line amount) = (line < 2 ^ 16) × (amount < 2 ^ 32)
Fit (strike line) = line < 2 ^ 16
Fit clear = Unit {0}
Fit (note text) = Printable text
Fit (list floor) = floor < 2 ^ 32
Fit (divide rule) = rule ≤ last_rule
