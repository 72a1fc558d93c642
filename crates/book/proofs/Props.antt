-- That a tally is well-formed has one proof at most, which a ghost field asks of its fact. Assumes nothing.
use Rattle.std.proofs.Props.{props}
use Rattle.std.specs.List.{AllByRecursion-prop}
use Rattle.std.specs.Coded.{×_prop, Unit-prop, le_prop}
use Rattle.book.specs.Tally.{Tally, Sound, WellFormed}
use Rattle.book.specs.declared.entries.Line.{Line}
use Rattle.book.specs.declared.entries.Line.TheVariants.{Live, Struck}

sound_prop : (l : Line) → IsProp (Sound l)
sound_prop (Live from to amount) = Prim.hlevel props
sound_prop Struck = Unit-prop

pub well_formed_prop : (t : Tally) → IsProp (WellFormed t)
well_formed_prop t = ×_prop le_prop (AllByRecursion-prop Sound sound_prop t)
