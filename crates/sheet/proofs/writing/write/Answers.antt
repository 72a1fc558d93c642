use Rattle.sheet.specs.Commands.{meaning}
use Rattle.sheet.proofs.Codec.{reads_back}
use Rattle.sheet.proofs.writing.write.Goals as goal

pub returns-clause-back : goal.returns-clause-back
returns-clause-back c = reads_back (meaning c.args.command.now) c.in_ok-check_operands.ensures.fit
