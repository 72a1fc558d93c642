use Rattle.std.proofs.Common.{arith}
use Rattle.sheet.proofs.Codec.{all_clean}
use Rattle.sheet.proofs.writing.check_note.Goals as goal

pub returns-in-None-clause-fit : goal.returns-in-None-clause-fit
returns-in-None-clause-fit c = (c.if-text-ne-NOTE_LENGTH.false, all_clean c.args.text.now (omega (arith, c.in-None.ensures)))
