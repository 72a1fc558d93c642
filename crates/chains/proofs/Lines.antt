-- What reading one line of a book tells. Assumes nothing.
use Rattle.std.proofs.Common.{◌<◌, ◌≤◌, arith}
use Rattle.book.specs.Limits.{accounts, greatest_amount}
use Rattle.book.specs.Tally.{Sound}
use Rattle.book.specs.Totals.{amount_of}
use Rattle.book.specs.declared.entries.Line.{Line}
use Rattle.book.specs.declared.entries.Line.TheVariants.{Live, Struck}
use Rattle.flow.specs.Chains.{from_of}

pub sound_parts : (l : Line) → Sound l → (from_of l < accounts) × (amount_of l ≤ greatest_amount)
sound_parts (Live from to amount) (up, placed, some, sized) = (omega arith, sized)
sound_parts Struck sound = (omega arith, omega arith)
